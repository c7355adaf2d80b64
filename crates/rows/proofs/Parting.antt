-- The laws of parts; the rows of a part are rows of the table.
-- Assumes nothing.
use mathlib.Core.Path.{◌≡◌, ◌∙◌}
use mathlib.Core.List.{List}
use Prim.Native.Nat.{ℕ, ◌+◌, ◌*◌, ◌-◌, ◌<◌}
use native.Mathlib.Omega.{arith}
use borrow.Author.Tests.{lt-ltb}
use lib.ListN.{length, get_or, take, drop, set, length-drop}
use lib.Seq.{get_or-set_same, get_or-set_other, get_or-drop, take_all}
use Rattle.rows.specs.declared.Starts.{Starts}
use Rattle.rows.specs.Table.{row_in}
use Rattle.rows.specs.Parts.{start_in, StartsAt, PartPlace, part_in}

-- ---- where a member starts
pub with_there : (x : Starts) (m n k : ℕ) → k ≡ m → k < 32 → length x.at ≡ 32 → StartsAt x m n (record { at = set x.at k n })
unfolding start_in
with_there x m n k e h l = rw e record {
  here = λ i. rw (lt-ltb m 32 i) (get_or-set_same x.at m n 0 (omega (arith, i, l)));
  other = λ j d. rw (get_or-set_other x.at m j n 0 d);
}

pub part_is : (t : List ℕ) (x : Starts) (m n from : ℕ) (r : List ℕ) → r ≡ take (length t - from) (drop from t) → PartPlace t n from → n ≡ start_in x m → r ≡ part_in t x m
unfolding part_in
part_is t x m n from r e p f =
    let g : take (length t - from) (drop from t) ≡ drop from t = take_all (length t - from) (drop from t) (rw length-drop (omega arith)) in
    e ∙ g ∙ p.is ∙ rw f

-- ---- the rows of a part are rows of the table
pub row_part : (t : List ℕ) (a n : ℕ) → row_in (drop (16 * a) t) n ≡ row_in t (a + n)
unfolding row_in
row_part t a n =
    let in' : (i : ℕ) → get_or (drop (16 * a) t) (16 * n + i) 0 ≡ get_or t (16 * (a + n) + i) 0 = λ i. let e : 16 * a + (16 * n + i) ≡ 16 * (a + n) + i = omega arith in get_or-drop (16 * a) t (16 * n + i) 0 ∙ rw e in
    rw (in' 0, in' 1, in' 2, in' 3, in' 4, in' 5, in' 6, in' 7, in' 8, in' 9, in' 10, in' 11, in' 12, in' 13)
