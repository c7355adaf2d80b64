-- What is behind from here is what is behind the row.
use Prim.Native.Nat.{◌+◌}
use Rattle.flow.specs.Walks.{behind_on}
use Rattle.flow.proofs.Steps.{Walking}
use Rattle.flow.proofs.behind.Given as goal

abbrev pub invariant-loop : goal.invariant-loop
invariant-loop l = Walking l.rows l.fs (behind_on l.rows l.fs (l.n + 1) l.n) l.at (l.n + 1) l.counter
