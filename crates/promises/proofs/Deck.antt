-- A deck with another body in place of one of its own: the contents and the other bodies are as they were.
-- Assumes nothing.
use Prim.Native.Nat.{ℕ, zero, suc, ◌+◌, ◌-◌, ◌≤◌, ◌<◌}
use native.Mathlib.Nat.{not-suc-le-zero, add-zero, add-suc, suc-add}
use native.Mathlib.Omega.{arith}
use mathlib.Core.Bool.{Bool, true, false, cond, ◌&&◌}
use mathlib.Core.List.{List, [], ◌∷◌}
use mathlib.Core.Path.{◌≡◌, refl, sym, ap}
use lib.Dec.{leb, ltb, eqb}
use lib.ListN.{length}
use borrow.Author.Tests.{eqb-true, ltb-true, ltb-false}
use Rattle.definition.specs.Bytes.{mixed}
use Rattle.definition.specs.Lists.{part, number}
use Rattle.definition.specs.Limits.{deck_bytes, deck_lines}
use Rattle.definition.specs.Room.{over}
use Rattle.definition.specs.Deck.{Line, first, has_libraries, count, library_length, line_place, line_at, lines_from, lines, Sought, line, find, is_called, are_named, are_distinct, follow, is_sound}
use Rattle.definition.specs.Run.{body_of}
use Rattle.definition.proofs.Rooms.{length_over, get_d_over_low, get_d_over_high}
use Rattle.definition.proofs.Keeping.{and_left, and_right}
use Rattle.definition.proofs.Joined.{alike_length, alike_place, place_first, place_next, place_up}
use Rattle.promises.specs.Unread.{with_body}

-- ---- a part that does not meet what is written over
part_low : (n p at : ℕ) (b d : List ℕ) → p + n ≤ at → part n p (over d at b) ≡ part n p d
part_low zero p at b d h = refl
part_low (suc n) p at b d h = rw (get_d_over_low d at p b (omega arith), part_low n (suc p) at b d (omega arith))

part_high : (n p at : ℕ) (b d : List ℕ) → at + length b ≤ p → part n p (over d at b) ≡ part n p d
part_high zero p at b d h = refl
part_high (suc n) p at b d h = rw (get_d_over_high d at p b h, part_high n (suc p) at b d (omega arith))

-- ---- bodies follow in order
-- line i + j lies from `at` on
follows_low : (d : List ℕ) (i n at end j : ℕ) → follow at (lines_from d i n) end ≡ true → j < n → at ≤ (line_at d (i + j)).offset
unfolding follow lines_from
follows_low d i zero at end j e h = absurd (not-suc-le-zero h)
follows_low d i (suc n) at end zero e h = rw add-zero (omega (arith, eqb-true (line_at d i).offset at (and_left (eqb (line_at d i).offset at) _ e)))
follows_low d i (suc n) at end (suc j) e h =
    rw (add-suc, ← suc-add) (omega (arith, follows_low d (suc i) n (at + (line_at d i).size) end j (and_right (eqb (line_at d i).offset at) _ e) (omega arith)))

-- a later line lies behind an earlier one
follows_apart : (d : List ℕ) (i n at end j k : ℕ) → follow at (lines_from d i n) end ≡ true → j < k → k < n → (line_at d (i + j)).offset + (line_at d (i + j)).size ≤ (line_at d (i + k)).offset
unfolding follow lines_from
follows_apart d i zero at end j k e h g = absurd (not-suc-le-zero g)
follows_apart d i (suc n) at end zero zero e h g = absurd (not-suc-le-zero h)
follows_apart d i (suc n) at end zero (suc k) e h g =
    rw (add-zero, add-suc, ← suc-add) (omega (arith, eqb-true (line_at d i).offset at (and_left (eqb (line_at d i).offset at) _ e), follows_low d (suc i) n (at + (line_at d i).size) end k (and_right (eqb (line_at d i).offset at) _ e) (omega arith)))
follows_apart d i (suc n) at end (suc j) zero e h g = absurd (not-suc-le-zero h)
follows_apart d i (suc n) at end (suc j) (suc k) e h g =
    rw (add-suc, add-suc, ← suc-add, ← suc-add) (follows_apart d (suc i) n (at + (line_at d i).size) end j k (and_right (eqb (line_at d i).offset at) _ e) (omega arith) (omega arith))

-- ---- how a member is found
pub find_range : (x : Sought) (i : ℕ) (ls : List Line) (j : ℕ) → find mixed x i ls ≡ line j → j < i + length ls
unfolding find
find_range x i [] j e = let z : ◌≡◌ {A = ℕ} 0 1 = cc in absurd (omega arith)
find_range x i (l ∷ ls) j e = go (is_called mixed x l) e (find_range x (suc i) ls j)
  where
    go : (t : Bool) → cond t (line i) (find mixed x (suc i) ls) ≡ line j → (find mixed x (suc i) ls ≡ line j → j < suc i + length ls) → j < i + suc (length ls)
    go true f h = let z : i ≡ j = cc in omega arith
    go false f h = omega (arith, h f)

-- what is written behind the first number does not change the layout, nor the lines before it
module _ (d b : List ℕ) (at : ℕ) (behind : 2 ≤ at) where
  first_low : first (over d at b) ≡ first d
  first_low = ap number (part_low 2 0 at b d behind)

  layout_low : has_libraries (over d at b) ≡ has_libraries d
  unfolding has_libraries
  layout_low = rw first_low

  count_low : count (over d at b) ≡ count d
  unfolding count
  count_low = rw (layout_low, first_low)

  place_low : (k : ℕ) → line_place (over d at b) k ≡ line_place d k
  place_low k = alike_place d (over d at b) k layout_low

  line_low : (j : ℕ) → line_place d (suc j) ≤ at → line_at (over d at b) j ≡ line_at d j
  unfolding line_at
  line_low j h =
      let n : ℕ = library_length d in
      let p : ℕ = line_place d j in
      let o : p + (n + 16) ≤ at = omega (arith, place_next d j) in
      let l : library_length (over d at b) ≡ n = alike_length d (over d at b) layout_low in
      let w : part n p (over d at b) ≡ part n p d = part_low n p at b d (omega arith) in
      let x : part 8 (p + n) (over d at b) ≡ part 8 (p + n) d = part_low 8 (p + n) at b d (omega arith) in
      let y : part 4 (p + (n + 8)) (over d at b) ≡ part 4 (p + (n + 8)) d = part_low 4 (p + (n + 8)) at b d (omega arith) in
      let z : part 4 (p + (n + 12)) (over d at b) ≡ part 4 (p + (n + 12)) d = part_low 4 (p + (n + 12)) at b d (omega arith) in
      rw (place_low j, l) (λ i. record { library = w i; name = x i; offset = number (y i); size = number (z i) })

  lines_low : (i n : ℕ) → line_place d (i + n) ≤ at → lines_from (over d at b) i n ≡ lines_from d i n
  unfolding lines_from
  lines_low i zero h = refl
  lines_low i (suc n) h =
      let e : suc i + n ≡ i + suc n = omega arith in
      let f : line_place d (suc i + n) ≡ line_place d (i + suc n) = ap (line_place d) e in
      rw (line_low i (omega (arith, f, place_up d (suc i) n)), lines_low (suc i) n (omega (arith, f)))

module _ (d : List ℕ) (k : ℕ) (b : List ℕ) (sound : is_sound mixed d ≡ true) (member : k < count d) (fits : length b ≡ (line_at d k).size) where
  followed : follow (line_place d (count d)) (lines d) (length d) ≡ true
  unfolding is_sound
  followed = and_right (leb (length d) deck_bytes && leb 1 (count d) && leb (count d) deck_lines && leb (line_place d (count d)) (length d) && are_named mixed (has_libraries d) (lines d) && are_distinct mixed (lines d)) (follow (line_place d (count d)) (lines d) (length d)) sound

  at_zero : (j : ℕ) → 0 + j ≡ j
  at_zero j = omega arith

  table : line_place d (count d) ≤ (line_at d k).offset
  table = rw (at_zero k) at (follows_low d 0 (count d) (line_place d (count d)) (length d) k followed member)

  behind : 2 ≤ (line_at d k).offset
  behind = omega (arith, table, place_first d, place_up d 0 (count d), ap (line_place d) (at_zero (count d)))

  pub layout_same : has_libraries (with_body k b d) ≡ has_libraries d
  layout_same = layout_low d b (line_at d k).offset behind

  pub count_same : count (with_body k b d) ≡ count d
  count_same = count_low d b (line_at d k).offset behind

  -- the places of lines lie in order
  within : (j : ℕ) → j < count d → line_place d (suc j) ≤ (line_at d k).offset
  within j h =
      let e : suc j + (count d - suc j) ≡ count d = omega arith in
      omega (arith, table, place_up d (suc j) (count d - suc j), ap (line_place d) e)

  pub line_same : (j : ℕ) → j < count d → line_at (with_body k b d) j ≡ line_at d j
  line_same j h = line_low d b (line_at d k).offset behind j (within j h)

  pub lines_same : lines (with_body k b d) ≡ lines d
  lines_same = rw count_same (lines_low d b (line_at d k).offset behind 0 (count d) (omega (arith, table, ap (line_place d) (at_zero (count d)))))

  pub sound_same : is_sound mixed (with_body k b d) ≡ is_sound mixed d
  unfolding is_sound
  sound_same = rw (lines_same, count_same, layout_same, place_low d b (line_at d k).offset behind (count d), length_over d (line_at d k).offset b)

  pub body_same : (m : ℕ) → m < count d → (m ≡ k → ⊥) → body_of d m ≡ body_of (with_body k b d) m
  unfolding body_of
  body_same m h n = sym (rw (line_same m h) (go (ltb m k) refl))
    where
      go : (t : Bool) → ltb m k ≡ t → part (line_at d m).size (line_at d m).offset (over d (line_at d k).offset b) ≡ part (line_at d m).size (line_at d m).offset d
      go true e = part_low (line_at d m).size (line_at d m).offset (line_at d k).offset b d (rw (at_zero m, at_zero k) at (follows_apart d 0 (count d) (line_place d (count d)) (length d) m k followed (ltb-true m k e) member))
      go false e = part_high (line_at d m).size (line_at d m).offset (line_at d k).offset b d (rw fits (rw (at_zero m, at_zero k) at (follows_apart d 0 (count d) (line_place d (count d)) (length d) k m followed (omega (arith, ltb-false m k e, n)) h)))
