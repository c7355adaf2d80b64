-- What was gone over is alike.
use Rattle.std.proofs.Common.{◌≡◌, take}
use Rattle.values.proofs.alike.Given as goal

abbrev pub invariant-loop-j : goal.invariant-loop-j
invariant-loop-j l = take l.j l.x ≡ take l.j l.y
