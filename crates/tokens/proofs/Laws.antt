-- One law for each way out of a leaf on tokens; the loops' invariants are records, and say that what is left decides.
-- Assumes nothing.
use mathlib.Core.Path.{◌≡◌, refl, sym, ap, ◌∙◌}
use mathlib.Core.Bool.{Bool, true, false, cond, ◌&&◌}
use mathlib.Core.List.{List, [], ◌∷◌, ◌++◌}
use Prim.Native.Nat.{ℕ, zero, suc, ◌+◌, ◌-◌, ◌<◌, ◌≤◌}
use native.Mathlib.Nat.{add-zero}
use native.Mathlib.Numerals.{add-one}
use native.Mathlib.Omega.{arith}
use borrow.Author.Tests.{eq-eqb, ne_eqb, eqb-true}
use lib.Dec.{eqb}
use lib.ListN.{length, get_or, drop, drop_of_length-le, get_or-eq_default}
use lib.Seq.{drop-cons, get_or-drop}
use Rattle.definition.specs.Choice.{when}
use Rattle.definition.specs.Lists.{part, all, leading}
use Rattle.definition.specs.Bytes.{is_blank}
use Rattle.definition.proofs.Parts.{part2}
use Rattle.definition.specs.Tokens as T
use Rattle.std.proofs.Common.{Option, Some, None, Ok, Err}
use Rattle.tokens.specs.Answer.{closed_for, gap_for, constant_for, byte_width, sign_size}

-- ---- bytes at a place
-- the byte at a place begins what is left there
pub at : (s : List ℕ) (i : ℕ) → i < length s → drop i s ≡ get_or s i 0 ∷ drop (i + 1) s
at s i h = rw (add-one, drop-cons s i 0 h)

-- a byte that is not 0 lies inside
pub inside : (s : List ℕ) (i : ℕ) → (get_or s i 0 ≡ 0 → ⊥) → i < length s
inside [] i f = absurd (f refl)
inside (x ∷ s) zero f = omega arith
inside (x ∷ s) (suc i) f = let h : i < length s = inside s i f in omega arith

pub here : (s : List ℕ) (p a : ℕ) → a ≡ get_or s (p + 0) 0 → a ≡ get_or s p 0
here s p a e = rw add-zero at e

pub and_false : (a : Bool) → (a && false) ≡ false
and_false true = refl
and_false false = refl

and_true : (a : Bool) → (a && true) ≡ a
and_true true = refl
and_true false = refl

and_assoc : (a b c : Bool) → (a && (b && c)) ≡ ((a && b) && c)
and_assoc true b c = refl
and_assoc false b c = refl

-- ---- comments
pub record Closing (s : List ℕ) (from : ℕ) (star : Bool) (i : ℕ) : Type 0 where
  pub is : T.comment_end star (drop i s) i ≡ T.comment_end false (drop from s) from

pub closing_start : (s : List ℕ) (from : ℕ) → Closing s from false from
closing_start s from = record { is = refl }

module _ (s : List ℕ) (from : ℕ) (star : Bool) (i : ℕ) (k : Closing s from star i) where
  pub closing_more : i < length s → (star && eqb (get_or s i 0) 47) ≡ false → Closing s from (eqb (get_or s i 0) 42) (i + 1)
  unfolding T.comment_end
  closing_more h e = record { is = rw (at s i h, e) at k.is }

  pub closing_here : i < length s → star ≡ true → get_or s i 0 ≡ 47 → Some (i + 1) ≡ closed_for (T.comment_end false (drop from s) from)
  unfolding T.comment_end
  closing_here h e f = ap closed_for (rw (at s i h, e, eq-eqb _ _ f) at k.is)

  pub closing_never : length s ≤ i → None ≡ closed_for (T.comment_end false (drop from s) from)
  unfolding T.comment_end
  closing_never h = ap closed_for (rw (drop_of_length-le s h) at k.is)

pub and_second : (a b : Bool) → true ≡ (a && b) → b ≡ true
and_second true b e = sym e
and_second false true e = refl
and_second false false e = sym e

-- a comment's first two bytes lie inside
pub comment_inside : (s : List ℕ) (p : ℕ) (t : Bool) → t ≡ T.is_comment s p → t ≡ true → p + 2 ≤ length s
unfolding T.is_comment
comment_inside s p t e f =
    let g : get_or s (p + 1) 0 ≡ 42 = eqb-true _ _ (and_second (eqb (get_or s p 0) 47) (eqb (get_or s (p + 1) 0) 42) (sym f ∙ e)) in
    let h : p + 1 < length s = inside s (p + 1) (λ z. omega (arith, z, g)) in
    omega arith

further : (x : Bool) (c : T.Closed) (p q : ℕ) → (c ≡ T.closed_at q → p + 1 < q) → when x (λ _. T.closed_at (p + 1)) (λ _. c) ≡ T.closed_at q → p < q
further true c p q f e = let z : p + 1 ≡ q = cc in omega arith
further false c p q f e = let z : p + 1 < q = f e in omega arith

-- the end of a comment lies past its begin
pub comment_further : (star : Bool) (l : List ℕ) (p q : ℕ) → T.comment_end star l p ≡ T.closed_at q → p < q
unfolding T.comment_end
comment_further star [] p q e = let z : ◌≡◌ {A = ℕ} 0 1 = cc in absurd (omega arith)
comment_further star (b ∷ l) p q e =
    further (star && eqb b 47) (T.comment_end (eqb b 42) l (p + 1)) p q (comment_further (eqb b 42) l (p + 1) q) e

-- ---- strings of a text
pub record Seeking (s : List ℕ) (from i : ℕ) : Type 0 where
  pub is : T.quote_end (drop i s) i ≡ T.quote_end (drop from s) from

pub seeking_start : (s : List ℕ) (from : ℕ) → Seeking s from from
seeking_start s from = record { is = refl }

module _ (s : List ℕ) (from i : ℕ) (k : Seeking s from i) where
  pub seeking_more : i < length s → (get_or s i 0 ≡ 39 → ⊥) → Seeking s from (i + 1)
  unfolding T.quote_end
  seeking_more h f = record { is = rw (at s i h, ne_eqb _ _ f) at k.is }

  pub seeking_here : i < length s → get_or s i 0 ≡ 39 → Some (i + 1) ≡ closed_for (T.quote_end (drop from s) from)
  unfolding T.quote_end
  seeking_here h f = ap closed_for (rw (at s i h, eq-eqb _ _ f) at k.is)

  pub seeking_never : length s ≤ i → None ≡ closed_for (T.quote_end (drop from s) from)
  unfolding T.quote_end
  seeking_never h = ap closed_for (rw (drop_of_length-le s h) at k.is)

pub quote_further : (l : List ℕ) (p q : ℕ) → T.quote_end l p ≡ T.closed_at q → p < q
unfolding T.quote_end
quote_further [] p q e = let z : ◌≡◌ {A = ℕ} 0 1 = cc in absurd (omega arith)
quote_further (b ∷ l) p q e = further (eqb b 39) (T.quote_end l (p + 1)) p q (quote_further l (p + 1) q) e

-- ---- spaces
told_closed : (c : T.Closed) (q : ℕ) → Some q ≡ closed_for c → c ≡ T.closed_at q
told_closed (T.closed_at r) q e = let z : q ≡ r = cc in ap T.closed_at (sym z)
told_closed T.never_closed q e = let z : ◌≡◌ {A = ℕ} 0 1 = cc in absurd (omega arith)

told_never : (c : T.Closed) → None ≡ closed_for c → c ≡ T.never_closed
told_never (T.closed_at q) e = let z : ◌≡◌ {A = ℕ} 0 1 = cc in absurd (omega arith)
told_never T.never_closed e = refl

-- a comment that is closed leads past its place
pub comment_past : (s : List ℕ) (p q : ℕ) (c : Option ℕ) → c ≡ closed_for (T.past_comment s p) → c ≡ Some q → p < q
comment_past s p q c e f =
    let z : p + 2 < q = comment_further false (drop (p + 2) s) (p + 2) q (told_closed (T.past_comment s p) q (sym f ∙ e)) in
    omega arith

spaces_end : (n : ℕ) (s : List ℕ) (p : ℕ) → length s ≤ p → T.up_to p ≡ T.spaces n s p
unfolding T.spaces T.is_space is_blank T.is_comment
spaces_end zero s p h = refl
spaces_end (suc n) s p h = rw (get_or-eq_default s 0 h)

-- the turns that are left reach the end
pub record Spacing (s : List ℕ) (e p : ℕ) : Type 0 where
  pub turns : ℕ
  pub enough : length s ≤ p + turns
  pub is : T.spaces turns s p ≡ T.spaces (length s) s e

pub spacing_start : (s : List ℕ) (e : ℕ) → Spacing s e e
spacing_start s e = record { turns = length s; enough = omega arith; is = refl }

module _ (s : List ℕ) (e p : ℕ) (k : Spacing s e p) where
  pub spacing_end : length s ≤ p → Ok p ≡ gap_for (T.spaces (length s) s e)
  spacing_end h = ap gap_for (spaces_end k.turns s p h ∙ k.is)

  module _ (h : p < length s) (t : Bool) (f : t ≡ T.is_space (get_or s p 0)) where
    turn : T.spaces (suc (k.turns - 1)) s p ≡ T.spaces (length s) s e
    turn = let z : k.turns ≡ suc (k.turns - 1) = omega (arith, k.enough) in rw z at k.is

    pub spacing_blank : t ≡ true → Spacing s e (p + 1)
    unfolding T.spaces
    spacing_blank g = record { turns = k.turns - 1; enough = omega (arith, k.enough); is = rw (← f, g) at turn }

    module _ (u : Bool) (g : t ≡ false) (i : u ≡ T.is_comment s p) where
      pub spacing_stop : u ≡ false → Ok p ≡ gap_for (T.spaces (length s) s e)
      unfolding T.spaces
      spacing_stop j = ap gap_for (rw (← f, g, ← i, j) at turn)

      module _ (j : u ≡ true) (c : Option ℕ) (l : c ≡ closed_for (T.past_comment s p)) where
        pub spacing_more : (q : ℕ) → c ≡ Some q → Spacing s e q
        unfolding T.spaces
        spacing_more q m = record {
          turns = k.turns - 1;
          enough = omega (arith, k.enough, comment_past s p q c l m);
          is = rw (← f, g, ← i, j, told_closed (T.past_comment s p) q (sym m ∙ l)) at turn;
        }

        pub spacing_open : c ≡ None → Err p ≡ gap_for (T.spaces (length s) s e)
        unfolding T.spaces
        spacing_open m = ap gap_for (rw (← f, g, ← i, j, told_never (T.past_comment s p) (sym m ∙ l)) at turn)

-- ---- runs of bytes
pub record Passing (s : List ℕ) (p : ℕ) (test : ℕ → Bool) (i : ℕ) : Type 0 where
  pub is : i + length (leading test (drop i s)) ≡ p + length (leading test (drop p s))

pub passing_start : (s : List ℕ) (p : ℕ) (test : ℕ → Bool) → Passing s p test p
passing_start s p test = record { is = refl }

module _ (s : List ℕ) (p : ℕ) (test : ℕ → Bool) (i : ℕ) (k : Passing s p test i) where
  pub passing_more : (t : Bool) → i < length s → t ≡ test (get_or s i 0) → t ≡ true → Passing s p test (i + 1)
  passing_more t h e f =
      let q : leading test (drop i s) ≡ get_or s i 0 ∷ leading test (drop (i + 1) s) = rw (at s i h, ← e, f) in
      record { is = omega (arith, k.is, ap length q) }

  pub passing_stop : (t : Bool) → i < length s → t ≡ test (get_or s i 0) → t ≡ false → i ≡ p + length (leading test (drop p s))
  passing_stop t h e f =
      let q : leading test (drop i s) ≡ [] = rw (at s i h, ← e, f) in
      omega (arith, k.is, ap length q)

  pub passing_end : length s ≤ i → i ≡ p + length (leading test (drop p s))
  passing_end h =
      let q : leading test (drop i s) ≡ [] = rw (drop_of_length-le s h) in
      omega (arith, k.is, ap length q)

-- ---- constants in quotes
plain_byte : (b : ℕ) (l bs : List ℕ) (p : ℕ) → eqb b 39 ≡ false → T.quoted_at (b ∷ l) bs p ≡ T.quoted_at l (bs ++ b ∷ []) (p + 1)
unfolding T.quoted_at
plain_byte b [] bs p e = rw e
plain_byte b (c ∷ l) bs p e = rw e

doubled_quote : (b c : ℕ) (l bs : List ℕ) (p : ℕ) → eqb b 39 ≡ true → eqb c 39 ≡ true → T.quoted_at (b ∷ c ∷ l) bs p ≡ T.quoted_at l (bs ++ b ∷ []) (p + 2)
unfolding T.quoted_at
doubled_quote b c l bs p e f = rw (e, f)

last_quote : (b : ℕ) (l bs : List ℕ) (p : ℕ) → eqb b 39 ≡ true → eqb (get_or l 0 0) 39 ≡ false → T.quoted_at (b ∷ l) bs p ≡ T.quoted bs (p + 1)
unfolding T.quoted_at
last_quote b [] bs p e f = rw e
last_quote b (c ∷ l) bs p e f = rw (e, f)

module _ (s : List ℕ) (i : ℕ) (h : i < length s) where
  second_inside : eqb (get_or s (i + 1) 0) 39 ≡ true → i + 1 < length s
  second_inside e = inside s (i + 1) (λ z. omega (arith, z, eqb-true (get_or s (i + 1) 0) 39 e))

  two_left : eqb (get_or s (i + 1) 0) 39 ≡ true → drop i s ≡ get_or s i 0 ∷ get_or s (i + 1) 0 ∷ drop (i + 2) s
  two_left e = let f : i + 1 + 1 ≡ i + 2 = omega arith in rw (at s i h, at s (i + 1) (second_inside e), f)

  after_byte : (bs : List ℕ) (w : ℕ) (x y : Bool) → eqb (get_or s i 0) 39 ≡ x → eqb (get_or s (i + 1) 0) 39 ≡ y → w ≡ cond x (cond y 2 0) 1 → 1 ≤ w
      → T.quoted_at (drop i s) bs i ≡ T.quoted_at (drop (i + w) s) (bs ++ get_or s i 0 ∷ []) (i + w)
  after_byte bs w false y p q e l = rw (e, at s i h) (plain_byte (get_or s i 0) (drop (i + 1) s) bs i p)
  after_byte bs w true true p q e l = rw (e, two_left q) (doubled_quote (get_or s i 0) (get_or s (i + 1) 0) (drop (i + 2) s) bs i p q)
  after_byte bs w true false p q e l = absurd (omega arith)

  at_last_lem : (bs : List ℕ) (w : ℕ) (x y : Bool) → eqb (get_or s i 0) 39 ≡ x → eqb (get_or s (i + 1) 0) 39 ≡ y → w ≡ cond x (cond y 2 0) 1 → w < 1
      → T.quoted_at (drop i s) bs i ≡ T.quoted bs (i + 1)
  at_last_lem bs w false y p q e l = absurd (omega arith)
  at_last_lem bs w true true p q e l = absurd (omega arith)
  at_last_lem bs w true false p q e l =
      let f : get_or (drop (i + 1) s) 0 0 ≡ get_or s (i + 1) 0 = rw (get_or-drop, add-zero) in
      rw (at s i h) (last_quote (get_or s i 0) (drop (i + 1) s) bs i p (rw f q))

  reaches : (w : ℕ) (x y : Bool) → eqb (get_or s (i + 1) 0) 39 ≡ y → w ≡ cond x (cond y 2 0) 1 → i + w ≤ length s
  reaches w false y q e = omega arith
  reaches w true true q e = omega (arith, second_inside q)
  reaches w true false q e = omega arith

  pub quoted_more : (bs : List ℕ) (w : ℕ) → w ≡ byte_width s i → 1 ≤ w → T.quoted_at (drop i s) bs i ≡ T.quoted_at (drop (i + w) s) (bs ++ get_or s i 0 ∷ []) (i + w)
  unfolding byte_width
  quoted_more bs w e l = after_byte bs w (eqb (get_or s i 0) 39) (eqb (get_or s (i + 1) 0) 39) refl refl e l

  pub quoted_last : (bs : List ℕ) (w : ℕ) → w ≡ byte_width s i → w < 1 → T.quoted_at (drop i s) bs i ≡ T.quoted bs (i + 1)
  unfolding byte_width
  quoted_last bs w e l = at_last_lem bs w (eqb (get_or s i 0) 39) (eqb (get_or s (i + 1) 0) 39) refl refl e l

  -- the bytes of a constant that stand for one lie inside
  pub width_inside : (w : ℕ) → w ≡ byte_width s i → i + w ≤ length s
  unfolding byte_width
  width_inside w e = reaches w (eqb (get_or s i 0) 39) (eqb (get_or s (i + 1) 0) 39) refl e

pub quoted_none : (s : List ℕ) (i : ℕ) (bs : List ℕ) → length s ≤ i → T.quoted_at (drop i s) bs i ≡ T.unquoted
unfolding T.quoted_at
quoted_none s i bs h = rw (drop_of_length-le s h)

all_more : (t : ℕ → Bool) (bs : List ℕ) (b : ℕ) → (all t bs && t b) ≡ all t (bs ++ b ∷ [])
all_more t [] b = sym (and_true (t b))
all_more t (x ∷ bs) b = sym (and_assoc (t x) (all t bs) (t b)) ∙ rw (all_more t bs b)

pub record Quoting (s : List ℕ) (from : ℕ) (bits : Bool) (i : ℕ) : Type 0 where
  pub bytes : List ℕ
  pub only : bits ≡ all T.is_bit bytes
  pub is : T.quoted_at (drop i s) bytes i ≡ T.quoted_at (drop from s) [] from

pub quoting_start : (s : List ℕ) (from : ℕ) → Quoting s from true from
quoting_start s from = record { bytes = []; only = refl; is = refl }

module _ (s : List ℕ) (from : ℕ) (bits : Bool) (i : ℕ) (k : Quoting s from bits i) where
  pub quoting_more : (w : ℕ) (t u : Bool) → i < length s → w ≡ byte_width s i → 1 ≤ w → t ≡ T.is_bit (get_or s i 0) → u ≡ (bits && t) → Quoting s from u (i + w)
  quoting_more w t u h e l f g = record {
    bytes = k.bytes ++ get_or s i 0 ∷ [];
    only = g ∙ rw (k.only, f) (all_more T.is_bit k.bytes (get_or s i 0));
    is = sym (quoted_more s i h k.bytes w e l) ∙ k.is;
  }

  pub quoting_last : (w : ℕ) → i < length s → w ≡ byte_width s i → w < 1 → Some (i + 1, bits) ≡ constant_for (T.quoted_at (drop from s) [] from)
  quoting_last w h e l = ap (λ (b : Bool). Some (i + 1, b)) k.only ∙ ap constant_for (sym (quoted_last s i h k.bytes w e l) ∙ k.is)

  pub quoting_open : length s ≤ i → None ≡ constant_for (T.quoted_at (drop from s) [] from)
  quoting_open h = ap constant_for (sym (quoted_none s i k.bytes h) ∙ k.is)

-- ---- signs
-- 0 is no delimiter's second byte
zero_second : (a : ℕ) → T.is_pair (a ∷ 0 ∷ []) ≡ false
unfolding T.is_pair
zero_second a = simp and_false

size_inside : (s : List ℕ) (p n : ℕ) (x : Bool) → p < length s → T.is_pair (part 2 p s) ≡ x → n ≡ cond x 2 1 → p + n ≤ length s
size_inside s p n false h e f = omega arith
size_inside s p n true h e f =
    let g : p + 1 < length s = inside s (p + 1) (λ z. let o : true ≡ false = sym e ∙ rw (part2 p s, z) (zero_second (get_or s p 0)) in let u : ◌≡◌ {A = ℕ} 0 1 = cc in omega arith) in
    omega arith

pub sign_inside : (s : List ℕ) (p n : ℕ) → p < length s → n ≡ sign_size s p → p + n ≤ length s
unfolding sign_size
sign_inside s p n h e = size_inside s p n (T.is_pair (part 2 p s)) h refl e
