-- Where the rows of a member lie: they are a part of the table, from the member's start on.
use Rattle.std.specs.Prelude.{ℕ, ◌*◌, ◌<◌, ◌≤◌, cond, ◌≡◌, List, ltb, length, get_or, drop, replicate}
use Rattle.rows.specs.declared.Starts.{Starts}

unfoldable pub no_starts : Starts
no_starts = record { at = replicate 32 0 }

-- the row of the table that is the first of member m; row 0 where no deck has such a line
unfoldable pub start_in : Starts → ℕ → ℕ
start_in x m = cond (ltb m 32) (get_or x.at m 0) 0

-- member m starts at row n, and each other where it did
pub record StartsAt (x : Starts) (m n : ℕ) (r : Starts) : Type 0 where
  pub here : m < 32 → start_in r m ≡ n
  pub other : (k : ℕ) → (k ≡ m → ⊥) → start_in r k ≡ start_in x k

-- a place of the table t, behind which are the rows from n on
pub record PartPlace (t : List ℕ) (n r : ℕ) : Type 0 where
  pub within : r ≤ length t
  pub is : drop r t ≡ drop (16 * n) t

-- the rows of member m, and what lies behind them
unfoldable pub part_in : List ℕ → Starts → ℕ → List ℕ
part_in t x m = drop (16 * start_in x m) t
