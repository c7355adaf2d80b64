-- THE BODIES of a sound deck: each line has one, it lies in the deck where the line says, and reader and definition take the same.
-- Assumes nothing.
use Prim.Native.Nat.{ℕ, zero, suc, ◌+◌, ◌%◌, ◌≤◌, ◌<◌}
use native.Mathlib.Nat.{not-suc-le-zero, add-zero, mod-eq_of_lt}
use native.Mathlib.Omega.{arith}
use mathlib.Core.Bool.{Bool, true, false, cond}
use mathlib.Core.List.{List, ◌∷◌}
use mathlib.Core.Path.{◌≡◌, refl, sym, ap, subst, ◌∙◌}
use borrow.Author.Tests.{eqb-true, le-leb, ltb-true, ltb-false}
use lib.Dec.{ltb, eqb}
use lib.ListN.{length, get_or, take, drop}
use lib.Seq.{drop-cons}
use Rattle.definition.specs.Bytes.{mixed}
use Rattle.definition.specs.Lists.{part}
use Rattle.definition.specs.Deck.{Sought, count, line_place, line_at, lines_from, lines, line, find, is_called, follow, is_sound}
use Rattle.definition.specs.Run.{body_of}
use Rattle.definition.proofs.Joined.{place_first, place_up, Sound, sound_parts}
use Rattle.definition.proofs.Keeping.{and_left, and_right}
use Rattle.definition.proofs.Parts.{length_part}
use Rattle.deck.specs.Answer.{body_in}
use Rattle.statements.specs.Clauses.{Lies}
use Rattle.reading.specs.Members.{base_of}

-- ---- a line that is found is one of the deck
found_by : (t : Bool) (x : Sought) (d : List ℕ) (i n k : ℕ) → cond t (line i) (find mixed x (suc i) (lines_from d (suc i) n)) ≡ line k → (find mixed x (suc i) (lines_from d (suc i) n) ≡ line k → k < suc i + n) → k < i + suc n
found_by true x d i n k e h = let z : i ≡ k = cc in omega arith
found_by false x d i n k e h = omega (arith, h e)

found_low : (x : Sought) (d : List ℕ) (i n k : ℕ) → find mixed x i (lines_from d i n) ≡ line k → k < i + n
unfolding find lines_from
found_low x d i zero k e = let z : ◌≡◌ {A = ℕ} 0 1 = cc in absurd (omega arith)
found_low x d i (suc n) k e = found_by (is_called mixed x (line_at d i)) x d i n k e (found_low x d (suc i) n k)

pub find_low : (d : List ℕ) (x : Sought) (k : ℕ) → find mixed x 0 (lines d) ≡ line k → k < count d
find_low d x k e = omega (arith, found_low x d 0 (count d) k e)

-- ---- bodies follow in order, up to the end
follow_up : (d : List ℕ) (i n at end : ℕ) → follow at (lines_from d i n) end ≡ true → at ≤ end
unfolding follow lines_from
follow_up d i zero at end e = omega (arith, eqb-true at end e)
follow_up d i (suc n) at end e = omega (arith, follow_up d (suc i) n (at + (line_at d i).size) end (and_right (eqb (line_at d i).offset at) (follow (at + (line_at d i).size) (lines_from d (suc i) n) end) e))

record Between (d : List ℕ) (at end k : ℕ) : Type 0 where
  low : at ≤ (line_at d k).offset
  within : (line_at d k).offset + (line_at d k).size ≤ end

between : (d : List ℕ) (i n at end j : ℕ) → follow at (lines_from d i n) end ≡ true → j < n → Between d at end (i + j)
unfolding follow lines_from
between d i zero at end j e h = absurd (not-suc-le-zero h)
between d i (suc n) at end j e h =
    let here : (line_at d i).offset ≡ at = eqb-true (line_at d i).offset at (and_left (eqb (line_at d i).offset at) (follow (at + (line_at d i).size) (lines_from d (suc i) n) end) e) in
    let rest : follow (at + (line_at d i).size) (lines_from d (suc i) n) end ≡ true = and_right (eqb (line_at d i).offset at) (follow (at + (line_at d i).size) (lines_from d (suc i) n) end) e in
    by j h here (follow_up d (suc i) n (at + (line_at d i).size) end rest) λ m l. between d (suc i) n (at + (line_at d i).size) end m rest l
  where
    by : (j : ℕ) → j < suc n → (line_at d i).offset ≡ at → at + (line_at d i).size ≤ end → ((m : ℕ) → m < n → Between d (at + (line_at d i).size) end (suc i + m)) → Between d at end (i + j)
    by zero h f g k = rw add-zero (record { low = omega (arith, f); within = omega (arith, f, g) })
    by (suc m) h f g k =
        let b : Between d (at + (line_at d i).size) end (suc i + m) = k m (omega (arith, h)) in
        let e : suc i + m ≡ i + suc m = omega arith in
        subst (λ (v : ℕ). Between d at end v) e (record { low = omega (arith, b.low); within = b.within })

pub main_low : (d : List ℕ) → is_sound mixed d ≡ true → 0 < count d
main_low d h = (sound_parts d h).some

-- ---- THE BODY of line k
pub record Lined (d : List ℕ) (k : ℕ) : Type 0 where
  pub low : k < 32
  pub same : body_in d k ≡ body_of d k
  pub short : length (body_in d k) < 65536
  pub lies : Lies d (body_in d k) (base_of d k)

taken_part : (n from : ℕ) (d : List ℕ) → from + n ≤ length d → take n (drop from d) ≡ part n from d
taken_part zero from d h = refl
taken_part (suc n) from d h = ap (take (suc n)) (drop-cons d from 0 (omega arith)) ∙ ap (λ (l : List ℕ). get_or d from 0 ∷ l) (taken_part n (suc from) d (omega arith))

body_same : (d : List ℕ) (k : ℕ) → (line_at d k).offset + (line_at d k).size ≤ length d → body_in d k ≡ body_of d k
unfolding body_in body_of
body_same d k h = rw (le-leb ((line_at d k).offset + (line_at d k).size) (length d) h) (taken_part (line_at d k).size (line_at d k).offset d h)

-- an empty body may begin behind the last place that its number can say
lies_at : (d : List ℕ) (from n : ℕ) → from + n ≤ 65536 → Lies d (part n from d) (from % 65536)
lies_at d from n h = by (ltb from 65536) refl
  where
    by : (t : Bool) → ltb from 65536 ≡ t → Lies d (part n from d) (from % 65536)
    by true e = rw (mod-eq_of_lt (ltb-true from 65536 e)) (record { size = omega (arith, length_part n from d); same = ap (λ (m : ℕ). part m from d) (sym (length_part n from d)) })
    by false e =
        let z : n ≡ 0 = omega (arith, ltb-false from 65536 e) in
        let full : from ≡ 65536 = omega (arith, ltb-false from 65536 e) in
        rw (z, full) (record { size = omega arith; same = refl })

pub lined : (d : List ℕ) → is_sound mixed d ≡ true → (k : ℕ) → k < count d → Lined d k
unfolding body_of
lined d sound k l =
    let b : Sound d = sound_parts d sound in
    let z : 0 + k ≡ k = omega arith in
    let w : Between d (line_place d (count d)) (length d) k = subst (λ (v : ℕ). Between d (line_place d (count d)) (length d) v) z (between d 0 (count d) (line_place d (count d)) (length d) k b.following l) in
    let same : body_in d k ≡ body_of d k = body_same d k w.within in
    record {
      low = omega (arith, b.members);
      same = same;
      short = subst (λ (s : List ℕ). length s < 65536) (sym same) (short_of w b);
      lies = subst (λ (s : List ℕ). Lies d s (base_of d k)) (sym same) (lies_of w b);
    }
  where
    short_of : Between d (line_place d (count d)) (length d) k → Sound d → length (body_of d k) < 65536
    short_of w b =
        let z : 0 + count d ≡ count d = omega arith in
        let up : line_place d 0 ≤ line_place d (count d) = subst (λ (n : ℕ). line_place d 0 ≤ line_place d n) z (place_up d 0 (count d)) in
        omega (arith, length_part (line_at d k).size (line_at d k).offset d, w.low, w.within, b.few, place_first d, up)

    lies_of : Between d (line_place d (count d)) (length d) k → Sound d → Lies d (body_of d k) (base_of d k)
    lies_of w b = lies_at d (line_at d k).offset (line_at d k).size (omega (arith, w.within, b.few))
