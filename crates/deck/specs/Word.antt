-- What a run of bytes at a place ensures.
use Rattle.std.specs.Prelude.{ℕ, ◌+◌, ◌-◌, ◌≤◌, List, ◌≡◌}
use Rattle.definition.specs.Lists.{part, past}
use Rattle.definition.specs.Bytes.{mixed, is_alphameric}

-- of the n bytes at a place, a name goes on with the first r, and what is past them begins with no such byte
pub record Word (d : List ℕ) (at n r : ℕ) : Type 0 where
  pub low : r ≤ n
  pub is : part (n - r) (at + r) d ≡ past (is_alphameric mixed) (part n at d)
