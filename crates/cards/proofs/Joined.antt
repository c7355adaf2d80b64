-- The joined deck in a room: how long its lines are, and where it stands.
-- Assumes nothing.
use mathlib.Core.Path.{◌≡◌, refl, ap}
use mathlib.Core.Bool.{true}
use mathlib.Core.List.{List, [], ◌∷◌}
use Prim.Native.Nat.{ℕ, ◌+◌, ◌≤◌}
use native.Mathlib.Nat.{not-suc-le-zero, le_of_suc-le-suc}
use native.Mathlib.Omega.{arith}
use lib.ListN.{length, take, length-append}
use Rattle.definition.specs.Bytes.{mixed}
use Rattle.definition.specs.Room.{over}
use Rattle.definition.specs.Deck.{library_length, line_place, line_at, is_sound}
use Rattle.definition.specs.Cards.{joined}
use Rattle.definition.proofs.Joined.{sound_parts, joined_shorter}
use Rattle.definition.proofs.Parts.{length_part}
use Rattle.cards.specs.Joins.{joined_line, Joins}

pub length_line : (at : ℕ) (d : List ℕ) (k : ℕ) → length (joined_line at (line_at d k)) ≡ library_length d + 16
unfolding joined_line line_at
length_line at d k = simp length-append (omega (arith, length_part (library_length d) (line_place d k) d))

joined_small : (d : List ℕ) → is_sound mixed d ≡ true → length (joined d) ≤ 65536
joined_small d h = omega (arith, joined_shorter d h, (sound_parts d h).few)

-- ---- where it stands: the bytes that a caller lends on
take_over : (t xs : List ℕ) → length xs ≤ length t → take (length xs) (over t 0 xs) ≡ xs
take_over t [] h = refl
take_over [] (x ∷ xs) h = absurd (not-suc-le-zero h)
take_over (y ∷ t) (x ∷ xs) h = ap (λ (l : List ℕ). x ∷ l) (take_over t xs (le_of_suc-le-suc h))

pub joins_fits : (d t t' : List ℕ) (r : ℕ) → Joins d t t' r → is_sound mixed d ≡ true → 65536 ≤ length t → r ≤ length t'
joins_fits d t t' r j h k = omega (arith, j.size, j.room, joined_small d h)

pub joins_stands : (d t t' : List ℕ) (r : ℕ) → Joins d t t' r → is_sound mixed d ≡ true → 65536 ≤ length t → take r t' ≡ joined d
joins_stands d t t' r j h k = rw (j.is, j.size) (take_over t (joined d) (omega (arith, joined_small d h)))
