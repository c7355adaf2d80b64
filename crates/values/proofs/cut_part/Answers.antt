-- The signs, and then the places.
use Rattle.values.proofs.Substr.{part_from, part_count, part_is}
use Rattle.values.proofs.cut_part.Goals as goal
use Rattle.values.proofs.cut_part.Goals.{then-is_negative-via-then-is_negative, then-is_negative-via-else-is_negative+then-is_negative-2}

pub returns-then-is_negative : goal.returns-then-is_negative
returns-then-is_negative c =
    elim c.then-is_negative.branch [ then-is_negative-via-then-is_negative w ↦ search part_from | then-is_negative-via-else-is_negative+then-is_negative-2 w ↦ search part_count ]

pub returns : goal.returns
returns c = search part_is
