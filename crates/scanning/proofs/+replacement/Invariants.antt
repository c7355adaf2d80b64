-- The levels of replacement that are left fall from a name to what is scanned for it.
use Prim.Native.Nat.{◌+◌, ◌-◌, ◌*◌}
use Rattle.scanning.proofs.Looping.{Scanning}
use Rattle.scanning.proofs.Arguing.{Arguing}
use Rattle.scanning.proofs.+replacement.Given as goal

abbrev pub decreases-call_with : goal.decreases-call_with
decreases-call_with l = 8 * l.n + 5

abbrev pub decreases-replace : goal.decreases-replace
decreases-replace l = 8 * l.left

abbrev pub decreases-replace_entry : goal.decreases-replace_entry
decreases-replace_entry l = 8 * l.n + 6

abbrev pub decreases-rescan : goal.decreases-rescan
decreases-rescan l = 8 * l.n + 4

abbrev pub decreases-scan : goal.decreases-scan
decreases-scan l = 8 * l.n + 2

abbrev pub decreases-scan_arguments : goal.decreases-scan_arguments
decreases-scan_arguments l = 8 * l.n + 5

abbrev pub decreases-token : goal.decreases-token
decreases-token l = 8 * l.n + 1

abbrev pub invariant-scan-loop : goal.invariant-scan-loop
invariant-scan-loop l = Scanning l.deck l.s l.rows l.names l.initial.cells l.initial.low l.initial.high l.initial.work l.initial.text l.x l.d l.u l.n l.c l.initial.m (l.end - l.counter) l.k l.p l.m l.cells l.low l.high l.work l.text

abbrev pub invariant-scan_arguments-loop-i : goal.invariant-scan_arguments-loop-i
invariant-scan_arguments-loop-i l = Arguing l.deck l.s l.rows l.names l.initial.cells l.initial.low l.initial.high l.initial.work l.initial.text l.x l.first l.u l.n l.c l.initial.m l.y.place l.initial.listed l.y.count l.held l.from l.listed l.top l.m l.i l.cells l.low l.high l.work l.text
