-- Turn by turn, as the definition.
use Rattle.reading.proofs.Membering.{Loop}
use Rattle.reading.proofs.read_member.Given as goal

abbrev pub invariant-loop-left : goal.invariant-loop-left
invariant-loop-left l = Loop l.deck l.initial.rows l.initial.names l.member l.entered l.name_count l.s l.rows l.names l.st l.mode l.at l.left
