-- Writing one line: what is ensured of a line and a cursor that lie in the rooms.
use Rattle.std.specs.Prelude.{ℕ, ◌+◌, ◌*◌, ◌-◌, ◌/◌, ◌≤◌, ◌≡◌, cond, List, leb, length, Some}
use Rattle.definition.specs.Room.{over}
use Rattle.definition.specs.Events.{line_bytes}
use Rattle.sums.specs.Numbers.{greatest}
use Rattle.output.specs.declared.Newest.{Newest}
use Rattle.output.specs.declared.Out.{Out}
use Rattle.output.specs.Shows.{line_in}

-- the place of line k, or the greatest number
unfoldable pub line_at : ℕ → ℕ
line_at k = cond (leb k (greatest / 12)) (12 * k) greatest

-- the twelve bytes of a line, where numbers reach behind them
pub record PutsLine (l : List ℕ) (at : ℕ) (x : Newest) (l' : List ℕ) : Type 0 where
  pub is : at + 12 ≤ greatest → l' ≡ over l at (line_bytes (line_in x))

-- line k is the newest or the next, and there is room for it and for n bytes
pub record At (l : List ℕ) (o : Out) (k n : ℕ) : Type 0 where
  pub place : 12 * k + 12 ≤ length l
  pub lines : o.lines ≤ k + 1
  pub free : k + 1 - o.lines ≤ o.free
  pub room : n ≤ o.room
  pub most : o.text + o.room ≤ 4294967295

pub record Wrote (l : List ℕ) (o : Out) (k : ℕ) (x : Newest) (n : ℕ) (r : Out) (l' : List ℕ) : Type 0 where
  pub list : l' ≡ over l (12 * k) (line_bytes (line_in x))
  pub out : r ≡ record { text = o.text + n; room = o.room - n; lines = k + 1; free = o.free - (k + 1 - o.lines); newest = Some x }

-- THE ENSURES, for such a line
pub record Writes (l : List ℕ) (o : Out) (k : ℕ) (x : Newest) (n : ℕ) (r : Out) (l' : List ℕ) : Type 0 where
  pub is : At l o k n → Wrote l o k x n r l'
