-- The form of all the bytes first, and then the range.
use Rattle.values.proofs.Numbers.{digits_none, digits_wrong, digits_read}
use Rattle.values.proofs.unsigned_number.Goals as goal
use Rattle.values.proofs.unsigned_number.Goals.{then-end-i-via-then-end-i, then-end-i-via-else-end-i+then-not-are_blanks}

pub returns-then-end-i : goal.returns-then-end-i
returns-then-end-i c =
    elim c.then-end-i.branch [ then-end-i-via-then-end-i w ↦ search digits_none | then-end-i-via-else-end-i+then-not-are_blanks w ↦ search digits_wrong ]

pub returns : goal.returns
returns c = search digits_read
