-- Folded lists by their bytes.
-- Assumes nothing.
use Prim.Native.Nat.{ℕ, zero, suc, ◌≤◌, ◌-◌}
use native.Mathlib.Omega.{arith}
use mathlib.Core.Bool.{Bool, true, false, cond}
use mathlib.Core.List.{List, [], ◌∷◌}
use mathlib.Core.Path.{◌≡◌, refl, sym, ◌∙◌, ap}
use borrow.Author.Tests.{ne_eqb, leb-true}
use lib.Dec.{leb, eqb}
use lib.ListN.{length, get_or}
use Rattle.definition.specs.Bytes.{Letters, capitals, mixed, is_small, is_blank, capital, folded}
use Rattle.definition.specs.Lists.{part, all}
use Rattle.definition.proofs.Keeping.{and_left}

capital_none : (α : Letters) → capital α 0 ≡ 0
unfolding capital is_small
capital_none capitals = refl
capital_none mixed = refl

pub folded_at : (α : Letters) (l : List ℕ) (i : ℕ) → get_or (folded α l) i 0 ≡ capital α (get_or l i 0)
unfolding folded
folded_at α [] i = sym (capital_none α)
folded_at α (b ∷ l) zero = refl
folded_at α (b ∷ l) (suc i) = folded_at α l i

pub folded_part : (α : Letters) (n i : ℕ) (l : List ℕ) → folded α (part n i l) ≡ part n i (folded α l)
unfolding folded
folded_part α zero i l = refl
folded_part α (suc n) i l = λ j. sym (folded_at α l i) j ∷ folded_part α n (suc i) l j

pub length_folded : (α : Letters) (l : List ℕ) → length (folded α l) ≡ length l
unfolding folded
length_folded α [] = refl
length_folded α (b ∷ l) = ap suc (length_folded α l)

-- 01's letters fold nothing
pub folded_capitals : (l : List ℕ) → folded capitals l ≡ l
unfolding folded capital is_small
folded_capitals [] = refl
folded_capitals (b ∷ l) = ap (λ (t : List ℕ). b ∷ t) (folded_capitals l)

pub small_over : (b : ℕ) → is_small mixed b ≡ true → 97 ≤ b
unfolding is_small
small_over b h = leb-true 97 b (and_left (leb 97 b) (leb b 122) h)

-- a small letter is no number below a, nor is its capital below A
pub other_capital : (x b : ℕ) → x ≤ 64 → eqb (capital mixed b) x ≡ eqb b x
unfolding capital
other_capital x b k = by (is_small mixed b) refl
  where
    by : (t : Bool) → is_small mixed b ≡ t → eqb (cond t (b - 32) b) x ≡ eqb b x
    by true e =
        let h : 97 ≤ b = small_over b e in
        ne_eqb (b - 32) x (λ y. omega (arith, y, h, k)) ∙ sym (ne_eqb b x (λ y. omega (arith, y, h, k)))
    by false e = refl

pub blank_folded : (l : List ℕ) → all is_blank (folded mixed l) ≡ all is_blank l
unfolding folded is_blank
blank_folded [] = refl
blank_folded (b ∷ l) = rw (other_capital 32 b (omega arith), blank_folded l)
