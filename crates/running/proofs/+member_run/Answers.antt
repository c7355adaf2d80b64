use Rattle.std.proofs.Common.{arith, refl, sym, Ok, ap, ◌∙◌, ◌≡◌}
use Rattle.stepping.specs.declared.Ended.TheVariants.{Ran}
use Rattle.running.proofs.Turning.{begin_due, begin_include, begin_statement, turn_begin, turn_again, turn_over}
use Rattle.running.proofs.Looping.{runs_start, runs_out, runs_over, runs_more, runs_end, source_runs, source_bad}
use Rattle.running.proofs.Entering.{enter_runs, enter_refused}
use Rattle.running.proofs.Naming.{include_unknown, include_deep, include_enters, going_start, going_more, all_left, all_ran, all_turned}
use Rattle.running.proofs.+member_run.Goals as goal

pub begin-returns-in-Err : goal.begin-returns-in-Err
begin-returns-in-Err t c = let step = rw c.in-Err.is at c.charged.ensures in begin_due _ _ _ _ _ _ _ _ _ _ _ _ _ _ _ _ _ c.part_here.ensures _ c.row_at-r.ensures _ step.is _ c.with_meter.ensures refl _ (rw (c.from.ensures, step.why _ _ refl) at c.refused-t.ensures) _ c.turned_at.ensures

pub begin-returns-then-is_include : goal.begin-returns-then-is_include
begin-returns-then-is_include t c = let step = rw c.in-Ok.is at c.charged.ensures in begin_include _ _ _ _ _ _ _ _ _ _ _ _ _ _ _ _ _ c.part_here.ensures _ c.row_at-r.ensures _ step.is _ c.with_meter-g.ensures refl _ c.is_include.ensures c.if-is_include.true _ _ _ _ _ _ _ _ _ c.include_all-e.ensures _ c.on_ended.ensures

pub begin-returns : goal.begin-returns
begin-returns t c = let step = rw c.in-Ok.is at c.charged.ensures in begin_statement _ _ _ _ _ _ _ _ _ _ _ _ _ _ _ _ _ c.part_here.ensures _ c.row_at-r.ensures _ step.is _ c.with_meter-g.ensures refl _ c.is_include.ensures c.if-is_include.false _ c.part_here-2.ensures _ _ _ _ _ _ _ _ c.statement-t.ensures _ c.turned_at-2.ensures

pub enter_and_run-returns-in-Ok : goal.enter_and_run-returns-in-Ok
enter_and_run-returns-in-Ok t c = enter_runs _ _ _ _ _ _ _ _ _ _ _ _ _ _ _ _ c.read_behind-x.ensures _ _ _ _ _ _ _ _ _ _ _ _ c.in-Ok.is c.forget.ensures c.entered.ensures c.with_source.ensures c.run_source.ensures

pub enter_and_run-returns-in-Err : goal.enter_and_run-returns-in-Err
enter_and_run-returns-in-Err t c = enter_refused _ _ _ _ _ _ _ _ _ _ _ _ _ _ _ _ c.read_behind-x.ensures _ _ _ _ c.in-Err.is c.stopped.ensures c.left_at.ensures

pub include_all-loop-init : goal.include_all-loop-init
include_all-loop-init t c = going_start _ _ _ _ _ _ _ _ _ _ _ _ _ _ _ _ _ c.body-s.ensures _ (omega arith)

pub include_all-returns-in_default : goal.include_all-returns-in_default
include_all-returns-in_default t c = all_left _ _ _ _ _ _ _ _ _ _ _ _ _ _ _ c.with_below-inner.ensures _ c.part_here.ensures _ c.row_at-r.ensures _ c.body-s.ensures _ _ _ _ _ _ _ _ _ _ _ _ (rw (c.from-place.ensures, c.from-at.ensures) at c.loop.invariant) _ c.item_at-item.ensures _ _ _ _ _ _ _ _ _ (rw c.from-place.ensures at c.include_one-x.ensures) _ c.resumed-here.ensures (λ h q. c.in_default.not-Ok (Ran h) q) _ c.left_at.ensures

pub include_all-returns-in_default-ended : goal.include_all-returns-in_default-ended
include_all-returns-in_default-ended t c = all_left _ _ _ _ _ _ _ _ _ _ _ _ _ _ _ c.with_below-inner.ensures _ c.part_here.ensures _ c.row_at-r.ensures _ c.body-s.ensures _ _ _ _ _ _ _ _ _ _ _ _ (rw (c.from-place.ensures, c.from-at.ensures) at c.loop.invariant) _ c.item_at-item.ensures _ _ _ _ _ _ _ _ _ (rw c.from-place.ensures at c.include_one-x.ensures) _ c.resumed-here.ensures (λ h q. c.in_default-ended.not-Ran h (let o : Ok c.in-Ok.ended ≡ Ok (Ran h) = sym c.in-Ok.is ∙ q in cc)) _ c.left_at-in_default-ended.ensures

pub include_all-loop-preserved : goal.include_all-loop-preserved
include_all-loop-preserved t c = going_more _ _ _ _ _ _ _ _ _ _ _ _ _ _ _ _ _ c.body-s.ensures _ _ _ _ _ _ _ _ _ _ _ _ c.loop.invariant _ c.item_at-item.ensures _ _ _ _ _ _ _ _ _ c.include_one-x.ensures _ c.resumed-here.ensures _ (c.in-Ok.is ∙ ap Ok c.in-Ran.is) _ c.token_at-comma.ensures _ c.is_sign.ensures c.if-not-is_sign.false _ (omega arith)

pub include_all-returns-then-not-is_sign : goal.include_all-returns-then-not-is_sign
include_all-returns-then-not-is_sign t c = all_ran _ _ _ _ _ _ _ _ _ _ _ _ _ _ _ c.with_below-inner.ensures _ c.part_here.ensures _ c.row_at-r.ensures _ c.body-s.ensures _ _ _ _ _ _ _ _ _ _ _ _ (rw (c.from-place.ensures, c.from-at.ensures) at c.loop.invariant) _ c.item_at-item.ensures _ _ _ _ _ _ _ _ _ (rw c.from-place.ensures at c.include_one-x.ensures) _ c.resumed-here.ensures _ (c.in-Ok.is ∙ ap Ok c.in-Ran.is) _ c.token_at-comma.ensures _ c.is_sign.ensures c.if-not-is_sign.true _ c.left_at-then-not-is_sign.ensures

pub include_all-returns : goal.include_all-returns
include_all-returns t c = all_turned _ _ _ _ _ _ _ _ _ _ _ _ _ _ _ c.with_below-inner.ensures _ c.part_here.ensures _ c.row_at-r.ensures _ _ _ _ _ _ _ _ _ _ _ _ (rw (c.from-place.ensures, c.from-at.ensures) at c.loop.invariant) (omega (arith, c.loop-test.false)) _

pub include_one-returns-then-left-lt1 : goal.include_one-returns-then-left-lt1
include_one-returns-then-left-lt1 t c = include_deep _ _ _ _ _ _ _ _ _ _ _ _ _ _ _ _ c.member_named.ensures _ _ _ c.in-Some.is c.if-left-lt1.true c.stopped-then-left-lt1.ensures c.left_at-then-left-lt1.ensures

pub include_one-returns-in-None : goal.include_one-returns-in-None
include_one-returns-in-None t c = include_unknown _ _ _ _ _ _ _ _ _ _ _ _ _ _ _ _ c.member_named.ensures _ _ c.in-None.is c.stopped.ensures c.left_at.ensures

pub include_one-returns-else-left-lt1 : goal.include_one-returns-else-left-lt1
include_one-returns-else-left-lt1 t c = include_enters _ _ _ _ _ _ _ _ _ _ _ _ _ _ _ _ c.member_named.ensures _ _ _ _ _ _ _ _ _ _ _ c.in-Some.is c.if-left-lt1.false c.in_member.ensures c.enter_and_run.ensures

pub run_rows-loop-init : goal.run_rows-loop-init
run_rows-loop-init t c = runs_start _ _ _ _ _ _ _ _ _ _ _ _ _ _ _ c.body-s.ensures _ c.no_frames-fs.ensures _ (omega (arith, c.turns_left-end.ensures))

pub run_rows-returns-then-is_over : goal.run_rows-returns-then-is_over
run_rows-returns-then-is_over t c = runs_over _ _ _ _ _ _ _ _ _ _ _ _ _ _ _ _ _ _ _ _ _ _ _ _ _ _ _ _ c.loop.invariant _ c.is_over.ensures c.if-is_over.true _ c.left_at.ensures

pub run_rows-loop-preserved : goal.run_rows-loop-preserved
run_rows-loop-preserved t c = runs_more _ _ _ _ _ _ _ _ _ _ _ _ _ _ _ _ _ _ _ _ _ _ _ _ _ _ _ _ c.loop.invariant _ c.is_over.ensures c.if-is_over.false _ _ _ _ _ _ _ _ _ c.turn-t.ensures _ c.since-here.ensures _ _ _ _ _ _ _ c.settle.ensures _ _ c.in-On.is _ (omega arith)

pub run_rows-returns-in-End : goal.run_rows-returns-in-End
run_rows-returns-in-End t c = runs_end _ _ _ _ _ _ _ _ _ _ _ _ _ _ _ _ _ _ _ _ _ _ _ _ _ _ _ _ c.loop.invariant _ c.is_over.ensures c.if-is_over.false _ _ _ _ _ _ _ _ _ c.turn-t.ensures _ c.since-here.ensures _ _ _ _ _ _ _ c.settle.ensures _ c.in-End.is _ c.left_at-in-End.ensures

pub run_rows-returns : goal.run_rows-returns
run_rows-returns t c = runs_out _ _ _ _ _ _ _ _ _ _ _ _ _ _ _ _ _ _ _ _ _ _ _ _ _ _ _ _ c.loop.invariant (omega (arith, c.loop-test.false)) _

pub run_source-returns-in-Ok : goal.run_source-returns-in-Ok
run_source-returns-in-Ok t c = source_runs _ _ _ _ _ _ _ _ _ _ _ _ _ _ _ c.body-s.ensures _ _ _ _ _ _ _ c.lead_out.ensures _ c.in-Ok.is c.lead_out.auto.cells _ c.first_of.ensures _ _ _ _ _ _ _ _ _ c.run_rows.ensures

pub run_source-returns-in-Err : goal.run_source-returns-in-Err
run_source-returns-in-Err t c = source_bad _ _ _ _ _ _ _ _ _ _ _ _ _ _ _ c.body-s.ensures _ _ _ _ _ _ _ c.lead_out.ensures _ _ c.in-Err.is _ c.left_at.ensures

pub turn-returns-in-Begin : goal.turn-returns-in-Begin
turn-returns-in-Begin t c = turn_begin _ _ _ _ _ _ _ _ _ _ _ _ _ _ _ _ _ c.in-Begin.is _ _ _ _ _ _ _ _ _ c.begin.ensures

pub turn-returns-in-Again : goal.turn-returns-in-Again
turn-returns-in-Again t c = turn_again _ _ _ _ _ _ _ _ _ _ _ _ _ _ _ _ _ c.in-Again.is _ c.part_here.ensures _ _ _ _ _ _ _ c.into_again-t.ensures _ c.turned_at.ensures

pub turn-returns-in-Over : goal.turn-returns-in-Over
turn-returns-in-Over t c = turn_over _ _ _ _ _ _ _ _ _ _ _ _ _ _ _ _ c.in-Over.is _
