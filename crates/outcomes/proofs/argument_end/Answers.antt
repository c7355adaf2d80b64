use Rattle.std.proofs.Common.{arith}
use Rattle.outcomes.proofs.Cutting.{ending_start, ending_past, ending_none, ending_close, ending_comma, ending_opened, ending_closed, ending_piece}
use Rattle.outcomes.proofs.argument_end.Goals as goal
use Rattle.outcomes.proofs.argument_end.Goals.{in-40, in-41-2, in_default, in_default-via-in-44+else-open-lt1-2, in_default-via-in_default-1}

pub loop-init : goal.loop-init
loop-init c = ending_start _ _

pub returns-then-t-p : goal.returns-then-t-p
returns-then-t-p c = search ending_past

pub returns-in-41 : goal.returns-in-41
returns-in-41 c = search ending_close

pub returns-in-44 : goal.returns-in-44
returns-in-44 c = search ending_comma

pub loop-preserved : goal.loop-preserved
loop-preserved c = elim c.match-t-p.branch [
  | in-40 w ↦ rw (w.p-is, w.open-is) (search ending_opened)
  | in-41-2 w ↦ rw (w.p-is, w.open-is) (search ending_closed)
  | in_default w ↦ rw (w.p-is, w.open-is) (elim w.in_default.branch [
    | in_default-via-in-44+else-open-lt1-2 v ↦ ending_piece _ _ _ _ _ c.loop.invariant c.if-t-p.false _ (λ z. omega (arith, z, v.in-44.is)) (λ z. omega (arith, z, v.in-44.is)) (λ z. v.if-open-lt1-2.false) w.piece_at-p.ensures
    | in_default-via-in_default-1 v ↦ ending_piece _ _ _ _ _ c.loop.invariant c.if-t-p.false _ (λ z. omega arith) (λ z. omega arith) (λ z. absurd (omega arith)) w.piece_at-p.ensures
  ])
]

pub returns : goal.returns
returns c = search ending_none
