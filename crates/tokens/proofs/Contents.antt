-- The laws of the bytes of a constant: what is left to look at decides, with the bytes so far.
-- Assumes nothing.
use mathlib.Core.Path.{◌≡◌, refl, sym, ap, ◌∙◌}
use mathlib.Core.List.{List, [], ◌∷◌, ◌++◌}
use Prim.Native.Nat.{ℕ, ◌+◌, ◌<◌, ◌≤◌}
use native.Mathlib.Omega.{arith}
use mathlib.Core.Bool.{Bool, true, false}
use borrow.Author.Tests.{leb-true, leb-false}
use lib.Dec.{leb}
use lib.ListN.{length, get_or, drop, length-append}
use Rattle.definition.specs.Room.{over}
use Rattle.definition.proofs.Rooms.{length_over, over_nil, over_next_at}
use Rattle.definition.specs.Tokens as T
use Rattle.tokens.specs.Answer.{byte_width, content_of, content, Unquoted}
use Rattle.tokens.proofs.Laws.{quoted_more, quoted_last, quoted_none}

-- a constant that would begin past the end has no bytes
pub content_past : (s : List ℕ) (p : ℕ) → length s ≤ p → 0 ≡ length (content s p)
unfolding content
content_past s p h = ap (λ (x : T.Quoted). length (content_of x)) (sym (quoted_none s (p + 1) [] (omega arith)))

-- ---- counting
pub record Counting (s : List ℕ) (p n i : ℕ) : Type 0 where
  pub bytes : List ℕ
  pub size : n ≡ length bytes
  pub low : n < i
  pub is : T.quoted_at (drop i s) bytes i ≡ T.quoted_at (drop (p + 1) s) [] (p + 1)

pub counting_start : (s : List ℕ) (p : ℕ) → Counting s p 0 (p + 1)
counting_start s p = record { bytes = []; size = refl; low = omega arith; is = refl }

module _ (s : List ℕ) (p n i : ℕ) (k : Counting s p n i) where
  pub counting_more : (w : ℕ) → i < length s → w ≡ byte_width s i → 1 ≤ w → Counting s p (n + 1) (i + w)
  counting_more w h e l = record {
    bytes = k.bytes ++ get_or s i 0 ∷ [];
    size = let z : length (k.bytes ++ get_or s i 0 ∷ []) ≡ length k.bytes + 1 = length-append k.bytes (get_or s i 0 ∷ []) in omega (arith, k.size);
    low = omega (arith, k.low);
    is = sym (quoted_more s i h k.bytes w e l) ∙ k.is;
  }

  all_bytes : (w : ℕ) → i < length s → w ≡ byte_width s i → w < 1 → k.bytes ≡ content s p
  unfolding content
  all_bytes w h e l = ap content_of (sym (quoted_last s i h k.bytes w e l) ∙ k.is)

  pub counting_last : (w : ℕ) → i < length s → w ≡ byte_width s i → w < 1 → n ≡ length (content s p)
  counting_last w h e l = k.size ∙ ap length (all_bytes w h e l)

  pub counting_open : length s ≤ i → 0 ≡ length (content s p)
  unfolding content
  counting_open h = ap (λ (x : T.Quoted). length (content_of x)) (sym (quoted_none s i k.bytes h) ∙ k.is)

-- ---- copying
-- a constant with bytes begins inside
pub content_inside : (s : List ℕ) (p z : ℕ) → z ≡ length (content s p) → 1 ≤ z → p < length s
content_inside s p z e h = by_test (leb (length s) p) refl
  where
    by_test : (b : Bool) → leb (length s) p ≡ b → p < length s
    by_test true f = absurd (omega (arith, content_past s p (leb-true (length s) p f)))
    by_test false f = leb-false (length s) p f

no_bytes : (xs : List ℕ) → length xs < 1 → xs ≡ []
no_bytes [] h = refl
no_bytes (x ∷ xs) h = absurd (omega arith)

pub unquoted_none : (s : List ℕ) (p : ℕ) (room : List ℕ) (at z : ℕ) → z ≡ length (content s p) → z < 1 → Unquoted s p room at room 0
unquoted_none s p room at z e h =
    let f : content s p ≡ [] = no_bytes (content s p) (omega arith) in
    record { is = rw f (sym (over_nil room at)); size = rw f }

pub record Copying (s : List ℕ) (p : ℕ) (room₀ : List ℕ) (at : ℕ) (room : List ℕ) (n i : ℕ) : Type 0 where
  pub counts : Counting s p n i
  pub is : room ≡ over room₀ at counts.bytes
  pub size : length room ≡ length room₀

pub copying_start : (s : List ℕ) (p : ℕ) (room : List ℕ) (at : ℕ) → Copying s p room at room 0 (p + 1)
unfolding counting_start
copying_start s p room at = record { counts = counting_start s p; is = sym (over_nil room at); size = refl }

module _ (s : List ℕ) (p : ℕ) (room₀ : List ℕ) (at : ℕ) (room : List ℕ) (n i w : ℕ) (k : Copying s p room₀ at room n i) (h : i < length s) (e : w ≡ byte_width s i) where
  pub copying_more : (room' : List ℕ) → 1 ≤ w → room' ≡ over room (at + n) (get_or s i 0 ∷ []) → Copying s p room₀ at room' (n + 1) (i + w)
  unfolding counting_more
  copying_more room' l f =
      let xs = k.counts.bytes in
      let g : room' ≡ over room₀ at (xs ++ get_or s i 0 ∷ []) = f ∙ rw k.is (over_next_at room₀ at (at + n) xs (get_or s i 0 ∷ []) (omega (arith, k.counts.size))) in
      record { counts = counting_more s p n i k.counts w h e l; is = g; size = ap length g ∙ length_over room₀ at (xs ++ get_or s i 0 ∷ []) }

  pub copying_last : w < 1 → Unquoted s p room₀ at room n
  copying_last l = record {
    is = k.is ∙ ap (over room₀ at) (all_bytes s p n i k.counts w h e l);
    size = counting_last s p n i k.counts w h e l;
  }

pub copying_never : (s : List ℕ) (p : ℕ) (room₀ : List ℕ) (at : ℕ) (room : List ℕ) (n i z : ℕ)
    → Copying s p room₀ at room n i → length s ≤ i → z ≡ length (content s p) → 1 ≤ z → Unquoted s p room₀ at room n
copying_never s p room₀ at room n i z k h e l = absurd (omega (arith, counting_open s p n i k.counts h))
