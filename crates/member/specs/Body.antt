-- The body that begins at an offset of the deck: its bytes, or none where the deck does not have them all.
use Rattle.std.specs.Prelude.{ℕ, ◌+◌, cond, List, [], leb, length, take, drop}

abbrev pub body_bytes : List ℕ → ℕ → ℕ → List ℕ
body_bytes d offset size = cond (leb (offset + size) (length d)) (take size (drop offset d)) []
