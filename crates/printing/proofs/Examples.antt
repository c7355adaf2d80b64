-- M1 and M5 as they are printed; and a printed number reads back, so that ten digits are enough.
-- Assumes nothing.
use Prim.Native.Nat.{ℕ, zero, suc, ◌+◌, ◌*◌, ◌-◌, ◌/◌, ◌%◌, ◌^◌, ◌<◌}
use native.Mathlib.Nat.{div-add-mod, pow-succ', pow-zero}
use native.Mathlib.Omega.{arith}
use Prim.Native.String.{String}
use mathlib.Core.Bool.{Bool, true, false}
use mathlib.Core.Path.{◌≡◌, refl, ap, ◌∙◌}
use mathlib.Core.List.{List, [], ◌∷◌, ◌++◌}
use lib.Dec.{ltb}
use Rattle.definition.specs.Choice.{when}
use Rattle.definition.specs.Text.{bytes_of}
use Rattle.definition.specs.Values.{decimal_on, written}
use Rattle.definition.specs.Events.{line}
use Rattle.definition.specs.Expansion.{Expansion}
use Rattle.definition.specs.Printed.{decimal, numbers_line, letter, origin_line, origin_lines, printed}

abbrev page : List String → List ℕ
page [] = []
page (s ∷ ss) = bytes_of s ++ 10 ∷ page ss

abbrev m1 : Expansion
m1 = record {
  number = 0;
  member = 0;
  offset = 0;
  steps = 15;
  text = bytes_of "   X=       7;";
  lines = line 2 0 28 1 ∷ line 3 0 27 8 ∷ line 2 0 24 3 ∷ line 1 0 24 1 ∷ line 1 0 17 1 ∷ [];
}

pub m1_printed : printed m1 ≡ page ("0 0 0 15 14 5" ∷ "B 0 17 1" ∷ "B 0 24 1" ∷ "C 0 24 3" ∷ "V 0 27 8" ∷ "C 0 28 1" ∷ "   X=       7;" ∷ [])
unfolding printed numbers_line origin_lines origin_line letter decimal decimal_on
m1_printed = refl

abbrev m5 : Expansion
m5 = record { number = 10; member = 0; offset = 13; steps = 2; text = []; lines = [] }

pub m5_printed : printed m5 ≡ page ("10 0 13 2 0 0" ∷ "" ∷ [])
unfolding printed numbers_line origin_lines decimal decimal_on
m5_printed = refl

module _ (f n : ℕ) (ds : List ℕ) (more : written 10 0 (decimal_on f (n / 10) ((48 + n % 10) ∷ ds)) ≡ written 10 (n / 10) ((48 + n % 10) ∷ ds)) where
  back_by : (t : Bool) → written 10 0 (when t (λ _. (48 + n) ∷ ds) (λ _. decimal_on f (n / 10) ((48 + n % 10) ∷ ds))) ≡ written 10 n ds
  unfolding written
  back_by true =
      let e : 10 * 0 + (48 + n - 48) ≡ n = omega arith in
      ap (λ (z : ℕ). written 10 z ds) e
  back_by false =
      let e : 10 * (n / 10) + (48 + n % 10 - 48) ≡ n = omega (arith, div-add-mod n 10) in
      more ∙ ap (λ (z : ℕ). written 10 z ds) e

digits_back : (f n : ℕ) (ds : List ℕ) → n < 10 ^ f → written 10 0 (decimal_on f n ds) ≡ written 10 n ds
unfolding decimal_on
digits_back zero n ds h =
    let o : n < 1 = rw pow-zero at h in
    let e : 0 ≡ n = omega arith in
    ap (λ (z : ℕ). written 10 z ds) e
digits_back (suc f) n ds h =
    let o : n < 10 * 10 ^ f = rw pow-succ' at h in
    back_by f n ds (digits_back f (n / 10) ((48 + n % 10) ∷ ds) (omega (arith, div-add-mod n 10))) (ltb n 10)

pub reads_back : (n : ℕ) → n < 10000000000 → written 10 0 (decimal n) ≡ n
unfolding decimal written
reads_back n h = digits_back 10 n [] h
