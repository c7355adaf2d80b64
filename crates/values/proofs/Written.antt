-- FIXED to BIT and to CHARACTER: the digits go out from the last to the first.
-- Assumes nothing.
use mathlib.Core.Path.{◌≡◌, refl, sym, ap, subst, ◌∙◌}
use mathlib.Core.Bool.{Bool, true, false, not}
use mathlib.Core.List.{List, [], ◌∷◌, ◌++◌, append_assoc}
use Prim.Native.Nat.{ℕ, zero, suc, ◌+◌, ◌-◌, ◌/◌, ◌%◌, ◌^◌, ◌<◌, ◌≤◌}
use native.Mathlib.Nat.{zero-add, suc-add, sub_self, div-one, pow-zero, pow-suc, div-div-eq-div-mul, mod-lt, mod-eq_of_lt}
use native.Mathlib.Numerals.{add-one}
use native.Mathlib.Omega.{arith}
use borrow.Author.Tests.{lt-ltb, le-ltb, ltb-true}
use lib.Dec.{ltb, lit<}
use lib.IntN.{ℤ, pos, negsuc, nat_abs}
use lib.ListN.{length, drop, replicate, length-append, length-replicate, replicate-append-replicate}
use lib.Signed.{non_neg}
use Rattle.definition.specs.Choice.{when}
use Rattle.definition.specs.Room.{over}
use Rattle.definition.specs.Values.{binary, decimal_on, shortest as signed, fixed_text}
use Rattle.definition.proofs.Ranges.{decimal_length}
use Rattle.definition.proofs.Rooms.{length_over, over_nil, over_next_at, over_before, over_front}
use Rattle.values.specs.declared.Base.{Base}
use Rattle.values.specs.declared.Base.TheVariants.{Two, Ten}
use Rattle.values.specs.Digits.{base_of, last_digits}

-- ---- one digit
base_low : (b : Base) → 0 < base_of b
base_low Two = lit< tt
base_low Ten = lit< tt

base_high : (b : Base) → base_of b ≤ 10
base_high Two = omega arith
base_high Ten = omega arith

pub base_some : (b : Base) (t : ℕ) → t ≡ base_of b → 0 < t
base_some b t e = rw e (base_low b)

pub digit_small : (b : Base) (n t : ℕ) → t ≡ base_of b → n % t < 10
digit_small b n t e = rw e (omega (arith, mod-lt n (base_low b), base_high b))

-- ---- the last digits of a number
pub length_digits : (base k n : ℕ) → length (last_digits base k n) ≡ k
unfolding last_digits
length_digits base zero n = refl
length_digits base (suc k) n = ap suc (length_digits base k n)

pub record Putting (b : Base) (n k : ℕ) (r₀ : List ℕ) (at : ℕ) (r : List ℕ) (rest j : ℕ) : Type 0 where
  pub low : j ≤ k
  pub left : rest ≡ n / base_of b ^ (k - j)
  pub is : r ≡ over r₀ (at + j) (last_digits (base_of b) (k - j) n)
  pub size : length r ≡ length r₀

pub putting_start : (b : Base) (n k : ℕ) (r : List ℕ) (at : ℕ) → Putting b n k r at r n k
unfolding last_digits
putting_start b n k r at = record
    { low = omega arith; left = rw (sub_self, pow-zero, div-one); is = rw sub_self (sym (over_nil r (at + k))); size = refl }

module _ (b : Base) (n k : ℕ) (r₀ : List ℕ) (at : ℕ) (r : List ℕ) (rest j : ℕ) (p : Putting b n k r₀ at r rest j) where
  pub putting_more : (r' : List ℕ) (x t : ℕ) → 0 < j → x ≡ 48 + rest % base_of b → t ≡ base_of b → r' ≡ over r (at + (j - 1)) (x ∷ [])
      → Putting b n k r₀ at r' (rest / t) (j - 1)
  unfolding last_digits
  putting_more r' x t h e f g =
      let c : k - (j - 1) ≡ suc (k - j) = omega (arith, p.low) in
      let q : at + j ≡ suc (at + (j - 1)) = omega arith in
      let d : r' ≡ over r₀ (at + (j - 1)) (last_digits (base_of b) (k - (j - 1)) n) =
      g ∙ rw (p.is, q, over_before, e, p.left, c) in
      record {
        low = omega (arith, p.low);
        left = rw (f, p.left, c, div-div-eq-div-mul, pow-suc);
        is = d;
        size = ap length d ∙ length_over r₀ (at + (j - 1)) (last_digits (base_of b) (k - (j - 1)) n);
      }

  pub putting_done : j ≤ 0 → r ≡ over r₀ at (last_digits (base_of b) k n)
  putting_done h =
      let e : j ≡ 0 = omega arith in
      let f : k - j ≡ k = omega arith in
      let g : at + j ≡ at = omega arith in
      rw (f, g) at p.is

-- ---- FIXED to BIT
binary_is : (k n : ℕ) → binary k n ≡ last_digits 2 k n
unfolding binary last_digits
binary_is zero n = refl
binary_is (suc k) n = ap (λ (l : List ℕ). (48 + n / 2 ^ k % 2) ∷ l) (binary_is k n)

pub bits_put_lem : (z : ℤ) (m : ℕ) (r r' : List ℕ) (at : ℕ) → m ≡ nat_abs z → r' ≡ over r at (last_digits 2 17 m) → r' ≡ over r at (binary 17 (nat_abs z))
bits_put_lem z m r r' at e f = rw (binary_is 17 (nat_abs z), ← e) f

-- ---- how many digits the shortest decimal has
pub record Counting (n k rest : ℕ) : Type 0 where
  pub left : ℕ
  pub done : List ℕ
  pub turns : k + left ≡ 6
  pub size : suc (length done) ≡ k
  pub is : decimal_on (suc left) rest done ≡ decimal_on 6 n []

pub counting_start : (n : ℕ) → Counting n 1 n
counting_start n = record { left = 5; done = []; turns = refl; size = refl; is = refl }

module _ (n k rest : ℕ) (c : Counting n k rest) where
  pub counting_stop : rest < 10 → k ≡ length (decimal_on 6 n [])
  unfolding decimal_on
  counting_stop h = sym c.size ∙ ap length (rw (lt-ltb rest 10 h) at c.is)

  pub counting_more : k < 6 → 10 ≤ rest → Counting n (k + 1) (rest / 10)
  unfolding decimal_on
  counting_more l h =
      let e : c.left ≡ suc (c.left - 1) = omega (arith, c.turns) in
      record {
        left = c.left - 1;
        done = (48 + rest % 10) ∷ c.done;
        turns = omega (arith, c.turns);
        size = rw add-one (ap suc c.size);
        is = subst (λ (f : ℕ). decimal_on f (rest / 10) ((48 + rest % 10) ∷ c.done) ≡ decimal_on 6 n []) e (rw (le-ltb rest 10 h) at c.is);
      }

  pub counting_done : 6 ≤ k → 6 ≡ length (decimal_on 6 n [])
  unfolding decimal_on
  counting_done h =
      let e : c.left ≡ 0 = omega (arith, c.turns) in
      let f : 6 ≡ k = omega (arith, c.turns) in
      f ∙ sym c.size ∙ go (ltb rest 10) ∙ ap length (rw e at c.is)
    where
      go : (t : Bool) → suc (length c.done) ≡ length (when t (λ _. (48 + rest) ∷ c.done) (λ _. (48 + rest % 10) ∷ c.done))
      go true = refl
      go false = refl

-- ---- the shortest decimal is the last digits, as many as it has
pub record Shortest (n : ℕ) (l : List ℕ) : Type 0 where
  pub count : ℕ
  pub is : l ≡ last_digits 10 count n

module _ (n i f : ℕ) (more : Shortest n (decimal_on f (n / 10 ^ suc i) (last_digits 10 (suc i) n))) where
  shortest_next : (t : Bool) → ltb (n / 10 ^ i) 10 ≡ t
      → Shortest n (when t (λ _. (48 + n / 10 ^ i) ∷ last_digits 10 i n) (λ _. decimal_on f (n / 10 ^ i / 10) ((48 + n / 10 ^ i % 10) ∷ last_digits 10 i n)))
  unfolding last_digits
  shortest_next true e = record { count = suc i; is = rw (mod-eq_of_lt (ltb-true _ _ e)) }
  shortest_next false e = rw (div-div-eq-div-mul, ← pow-suc 10 i) more

shortest : (n f i : ℕ) → Shortest n (decimal_on f (n / 10 ^ i) (last_digits 10 i n))
unfolding decimal_on
shortest n zero i = record { count = i; is = refl }
shortest n (suc f) i = shortest_next n i f (shortest n f (suc i)) (ltb (n / 10 ^ i) 10) refl

decimal_is : (n : ℕ) → decimal_on 6 n [] ≡ last_digits 10 (length (decimal_on 6 n [])) n
unfolding last_digits
decimal_is n =
    let s : Shortest n (decimal_on 6 n []) = rw (pow-zero, div-one) at (shortest n 6 0) in
    let e : length (decimal_on 6 n []) ≡ s.count = ap length s.is ∙ length_digits 10 s.count n in
    rw e s.is

-- ---- blanks
pub record Blanking (n : ℕ) (r₀ : List ℕ) (at : ℕ) (r : List ℕ) (j : ℕ) : Type 0 where
  pub low : j ≤ n
  pub is : r ≡ over r₀ at (replicate j 32)
  pub size : length r ≡ length r₀

pub blanking_start : (n : ℕ) (r : List ℕ) (at : ℕ) → Blanking n r at r 0
blanking_start n r at = record { low = omega arith; is = sym (over_nil r at); size = refl }

blank_last : (j : ℕ) → ◌++◌ {A = ℕ} (replicate j 32) (32 ∷ []) ≡ replicate (j + 1) 32
blank_last j = replicate-append-replicate {A = ℕ} j 1 32

module _ (n : ℕ) (r₀ : List ℕ) (at : ℕ) (r : List ℕ) (j : ℕ) (p : Blanking n r₀ at r j) where
  pub blanking_more : (r' : List ℕ) → j < n → r' ≡ over r (at + j) (32 ∷ []) → Blanking n r₀ at r' (j + 1)
  blanking_more r' h e =
      let d : r' ≡ over r₀ at (replicate (j + 1) 32) =
      e ∙ rw p.is (over_next_at r₀ at (at + j) (replicate j 32) (32 ∷ []) (rw (length-replicate {A = ℕ}))) ∙ ap (over r₀ at) (blank_last j) in
      record { low = omega arith; is = d; size = ap length d ∙ length_over r₀ at (replicate (j + 1) 32) }

  pub blanking_done : n ≤ j → r ≡ over r₀ at (replicate n 32)
  blanking_done h =
      let e : j ≡ n = omega (arith, p.low) in
      rw e at p.is

-- ---- FIXED to CHARACTER: eight digits, then blanks and the sign over the first of them
-- the last digits are the end of more of them
last_of_more : (base i k n : ℕ) → drop i (last_digits base (i + k) n) ≡ last_digits base k n
unfolding last_digits
last_of_more base zero k n = rw zero-add
last_of_more base (suc i) k n = rw suc-add (last_of_more base i k n)

module _ (n k : ℕ) (f : k ≡ length (decimal_on 6 n [])) where
  digits_few : k ≤ 6
  digits_few = omega (arith, decimal_length 6 n [])

  pub digits_in_lem : k ≤ 8
  digits_in_lem = omega (arith, digits_few)

  pub sign_in_lem : 1 ≤ 8 - k
  sign_in_lem = omega (arith, digits_few)

  digits_are : drop (8 - k) (last_digits 10 8 n) ≡ decimal_on 6 n []
  digits_are =
      let c : 8 ≡ (8 - k) + k = omega (arith, digits_few) in
      let d : drop (8 - k) (last_digits 10 8 n) ≡ last_digits 10 k n = subst (λ (j : ℕ). drop (8 - k) (last_digits 10 j n) ≡ last_digits 10 k n) (sym c) (last_of_more 10 (8 - k) k n) in
      d ∙ ap (λ (j : ℕ). last_digits 10 j n) f ∙ sym (decimal_is n)

module _ (z : ℤ) (n k : ℕ) (negative : Bool) (e : n ≡ nat_abs z) (f : k ≡ length (decimal_on 6 n [])) (g : negative ≡ not (non_neg z)) where
  plain_text : negative ≡ false → fixed_text z ≡ replicate (8 - k) 32 ++ decimal_on 6 n []
  unfolding fixed_text
  plain_text h = rw (f, e) (go z (sym g ∙ h))
    where
      go : (x : ℤ) → not (non_neg x) ≡ false
          → replicate (8 - length (signed x)) 32 ++ signed x ≡ replicate (8 - length (decimal_on 6 (nat_abs x) [])) 32 ++ decimal_on 6 (nat_abs x) []
      go (pos n) c = refl
      go (negsuc n) c = cc

  minus_text : negative ≡ true → fixed_text z ≡ replicate (8 - k - 1) 32 ++ 45 ∷ decimal_on 6 n []
  unfolding fixed_text
  minus_text h = rw (f, e) (go z (sym g ∙ h))
    where
      go : (x : ℤ) → not (non_neg x) ≡ true
          → replicate (8 - length (signed x)) 32 ++ signed x ≡ replicate (8 - length (decimal_on 6 (nat_abs x) []) - 1) 32 ++ 45 ∷ decimal_on 6 (nat_abs x) []
      go (pos n) c = cc
      go (negsuc n) c =
          let d : 8 - suc (length (decimal_on 6 (suc n) [])) ≡ 8 - length (decimal_on 6 (suc n) []) - 1 = omega arith in
          rw d

  module _ (r r₁ r₂ : List ℕ) (at : ℕ) (p : r₁ ≡ over r at (last_digits 10 8 n)) (q : r₂ ≡ over r₁ at (replicate (8 - k) 32)) where
    -- what of the length of the blanks is written at last
    covered : (l : List ℕ) → length l ≡ 8 - k → over r₁ at l ≡ over r at (l ++ decimal_on 6 n [])
    covered l c =
        let d : drop (length l) (last_digits 10 8 n) ≡ decimal_on 6 n [] = rw c (digits_are n k f) in
        rw (p, over_front, d)

    pub plain_put : negative ≡ false → r₂ ≡ over r at (fixed_text z)
    plain_put h = q ∙ covered (replicate (8 - k) 32) (length-replicate (8 - k) 32) ∙ ap (over r at) (sym (plain_text h))

    pub minus_put : (r₃ : List ℕ) → negative ≡ true → r₃ ≡ over r₂ (at + (8 - k - 1)) (45 ∷ []) → r₃ ≡ over r at (fixed_text z)
    minus_put r₃ h s =
        let front : List ℕ = replicate (8 - k - 1) 32 in
        let size : length front ≡ 8 - k - 1 = length-replicate (8 - k - 1) 32 in
        let c : 8 - k ≡ (8 - k - 1) + 1 = omega (arith, digits_few n k f) in
        let d : replicate (8 - k) 32 ≡ front ++ 32 ∷ [] = ap (λ (j : ℕ). replicate j 32) c ∙ sym (blank_last (8 - k - 1)) in
        let blank : r₂ ≡ over (over r₁ at front) (at + (8 - k - 1)) (32 ∷ []) =
        q ∙ ap (over r₁ at) d ∙ sym (over_next_at r₁ at (at + (8 - k - 1)) front (32 ∷ []) (rw size)) in
        let sign : r₃ ≡ over r₁ at (front ++ 45 ∷ []) =
        s ∙ rw blank (over_front (over r₁ at front) (at + (8 - k - 1)) (32 ∷ []) (45 ∷ [])) ∙ over_next_at r₁ at (at + (8 - k - 1)) front (45 ∷ []) (rw size) in
        sign ∙ covered (front ++ 45 ∷ []) (length-append front (45 ∷ []) ∙ rw size (omega (arith, digits_few n k f)))
        ∙ ap (over r at) (append_assoc front (45 ∷ []) (decimal_on 6 n []) ∙ sym (minus_text h))
