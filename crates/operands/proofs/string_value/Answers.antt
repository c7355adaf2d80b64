-- Too long, or no room, or it lies there as what it is.
use Rattle.operands.proofs.Leaves.{string_long, string_bits, string_text, string_full}
use Rattle.operands.proofs.string_value.Goals as goal
use Rattle.operands.proofs.string_value.Goals.{then-n-gt-LONGEST-via-then-n-gt-LONGEST, then-n-gt-LONGEST-via-else-n-gt-LONGEST+then-not-fits}

pub returns-then-n-gt-LONGEST : goal.returns-then-n-gt-LONGEST
returns-then-n-gt-LONGEST c = elim c.then-n-gt-LONGEST.branch [
  | then-n-gt-LONGEST-via-then-n-gt-LONGEST w ↦ search string_long
  | then-n-gt-LONGEST-via-else-n-gt-LONGEST+then-not-fits w ↦ search string_full
]

pub returns-then-is_bits : goal.returns-then-is_bits
returns-then-is_bits c = search string_bits

pub returns-else-is_bits : goal.returns-else-is_bits
returns-else-is_bits c = search string_text
