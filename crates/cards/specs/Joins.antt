-- What joining a deck of card images ensures, for any bytes d and any room.
use Rattle.std.specs.Prelude.{ℕ, ◌+◌, List, ◌++◌, ◌≡◌, length}
use Rattle.definition.specs.Lists.{bytes}
use Rattle.definition.specs.Room.{over}
use Rattle.definition.specs.Deck.{Line, line_place, lines_from}
use Rattle.definition.specs.Cards.{joined, joined_size, joined_bodies}

-- a line of the joined contents, whose body begins at a place
unfoldable pub joined_line : ℕ → Line → List ℕ
joined_line at l = l.library ++ l.name ++ bytes 4 at ++ bytes 4 (joined_size l)

-- the bodies of n lines, joined, stand behind as many contents lines of the room, which was t and is t', and end at r
pub record PutsBodies (d : List ℕ) (n : ℕ) (t t' : List ℕ) (r : ℕ) : Type 0 where
  pub is : t' ≡ over t (line_place d n) (joined_bodies (lines_from d 0 n) d)
  pub end : r ≡ line_place d n + length (joined_bodies (lines_from d 0 n) d)

-- the joined deck stands over the start of the room, and has r bytes
pub record Joins (d t t' : List ℕ) (r : ℕ) : Type 0 where
  pub is : t' ≡ over t 0 (joined d)
  pub size : r ≡ length (joined d)
  pub room : length t' ≡ length t
