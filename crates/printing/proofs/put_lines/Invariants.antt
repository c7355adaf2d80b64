-- The lines before i stand on the page.
use Rattle.printing.proofs.Laws.{Listing}
use Rattle.printing.proofs.put_lines.Given as goal

abbrev pub invariant-loop-i : goal.invariant-loop-i
invariant-loop-i l = Listing l.initial.page l.list l.first l.end l.page l.at l.i
