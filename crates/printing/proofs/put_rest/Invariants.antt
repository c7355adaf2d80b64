-- The first j numbers stand on the page.
use Rattle.printing.proofs.Laws.{Wording}
use Rattle.printing.proofs.put_rest.Given as goal

abbrev pub invariant-loop-j : goal.invariant-loop-j
invariant-loop-j l = Wording l.initial.page l.from l.numbers l.first l.n l.page l.at l.j
