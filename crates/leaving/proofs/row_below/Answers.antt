use Rattle.leaving.proofs.Standing.{looking_start, looking_done, looking_free, looking_here, looking_on}
use Rattle.leaving.proofs.row_below.Goals as goal
use Rattle.leaving.proofs.row_below.Goals.{else-i-b-via-then-i-b+else-b-i, else-i-b-via-else-i-b}

pub loop-i-init : goal.loop-i-init
loop-i-init c = looking_start _ _

pub returns-then-b-i : goal.returns-then-b-i
returns-then-b-i c = search looking_here

pub loop-i-preserved : goal.loop-i-preserved
loop-i-preserved c =
    elim c.else-i-b.branch [ else-i-b-via-then-i-b+else-b-i w ↦ search looking_on | else-i-b-via-else-i-b w ↦ search looking_free ]

pub returns : goal.returns
returns c = search looking_done
