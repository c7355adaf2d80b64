use Rattle.std.proofs.Common.{arith, refl, rules, ap, ◌∙◌, Ok}
use Rattle.std.proofs.lemmas.Result.{err_from_is_err_and}
use Rattle.evaluating.proofs.Cycle.{levels_operand, levels_chain, levels_failed, chaining_start, chaining_more, chaining_failed, chaining_done, chaining_end, operand_done, none_one, inside_over, inside_some, primitive_word, primitive_integer, primitive_string, primitive_bits, primitive_sign, primitive_none, whole, reference_listed, reference_plain, named_other}
use Rattle.evaluating.proofs.Entries.{entry_called, entry_many, entry_fails}
use Rattle.evaluating.proofs.Calling.{call_running, call_deep, call_body}
use Rattle.evaluating.proofs.Arguing.{taking_start, taking_more, taking_failed, taking_end}
use Rattle.evaluating.proofs.Listing.{listed_call, listed_substr, listed_refused, listed_fails}
use Rattle.evaluating.proofs.Stating.{assign_done, assign_none, test_done}
use Rattle.evaluating.proofs.Bounding.{bounded_some, bounded_none, bounded_bad, bounds_done, bounds_bad, start_done, start_none}
use Rattle.evaluating.proofs.Bodying.{row_other, row_assign, row_test, row_start, row_group, row_goto, row_return}
use Rattle.evaluating.proofs.Looping.{turn_over, turn_due, turn_begin, turn_again, runs_start, runs_more, runs_gave, runs_bad, runs_end}
use Rattle.evaluating.proofs.+evaluation.Goals as goal

pub arguments-loop-i-init : goal.arguments-loop-i-init
arguments-loop-i-init t c = search (rules, taking_start)

pub arguments-returns-in_err-v : goal.arguments-returns-in_err-v
arguments-returns-in_err-v t c = let p = err_from_is_err_and c.from_residual.result c.from_residual.ensures.1 in rw (p.1, p.2) (taking_failed _ _ _ _ _ _ _ _ _ _ _ _ _ _ _ _ _ _ _ _ _ _ _ _ _ c.loop-i.invariant (omega (arith, c.loop-i-test.true, c.wanted_count-i-end.ensures)) _ c.wish_for-w.ensures _ _ _ _ c.inside-x.auto.work _ c.inside-x.ensures _ _ c.with_wish.ensures _ c.in_err-v.was)

pub arguments-loop-i-preserved : goal.arguments-loop-i-preserved
arguments-loop-i-preserved t c = taking_more _ _ _ _ _ _ _ _ _ _ _ _ _ _ _ _ _ _ _ _ _ _ _ _ _ c.loop-i.invariant (omega (arith, c.loop-i-test.true, c.wanted_count-i-end.ensures)) _ c.wish_for-w.ensures _ _ _ _ c.inside-x.auto.work _ c.inside-x.ensures _ _ c.with_wish.ensures _ _ _ c.in_ok-v.was _ c.with_held-held.ensures _ c.first_kept-first.ensures _ _ c.size_of.ensures c.above-top.ensures _ c.token_at-at.ensures _ refl c.with_wish.auto.work

pub arguments-returns : goal.arguments-returns
arguments-returns t c = taking_end _ _ _ _ _ _ _ _ _ _ _ _ _ _ _ _ _ _ _ _ _ _ _ _ _ c.loop-i.invariant (omega (arith, c.loop-i-test.false, c.wanted_count-i-end.ensures))

pub call-returns-then-is_running : goal.call-returns-then-is_running
call-returns-then-is_running t c = search call_running

pub call-returns-then-c-lt1 : goal.call-returns-then-c-lt1
call-returns-then-c-lt1 t c = search call_deep

pub call-returns : goal.call-returns
call-returns t c = call_body _ _ _ _ _ _ _ _ _ _ _ _ _ c.is_running.ensures c.if-is_running.false c.if-c-lt1.false _ _ _ c.store_all.ensures _ c.started.ensures _ _ _ _ _ _ _ c.body.ensures c.part_of.ensures c.run_body.ensures

pub chain-loop-init : goal.chain-loop-init
chain-loop-init t c = chaining_start _ _ _ _ _ _ _ _ _ _ _ _ _ _ _ _ (omega arith)

pub chain-loop-preserved : goal.chain-loop-preserved
chain-loop-preserved t c = chaining_more _ _ _ _ _ _ _ _ _ _ _ _ _ _ _ _ _ _ _ _ _ _ _ c.loop.invariant (omega (arith, c.loop-test.true)) _ c.infix_at.ensures _ _ c.in-Some.is _ _ c.size_of.ensures c.above-top.ensures _ _ _ _ c.levels-y.auto.work _ c.levels-y.ensures _ _ c.with_infix.ensures _ _ _ c.in_ok-w.was c.with_infix.auto.work _ (omega arith)

pub chain-returns-in_err-w : goal.chain-returns-in_err-w
chain-returns-in_err-w t c = let p = err_from_is_err_and c.from_residual.result c.from_residual.ensures.1 in rw (p.1, p.2) (chaining_failed _ _ _ _ _ _ _ _ _ _ _ _ _ _ _ _ _ _ _ _ _ _ _ c.loop.invariant (omega (arith, c.loop-test.true)) _ c.infix_at.ensures _ _ c.in-Some.is _ _ c.size_of.ensures c.above-top.ensures _ _ _ _ c.levels-y.auto.work _ c.levels-y.ensures _ _ c.with_infix.ensures _ c.in_err-w.was)

pub chain-returns-in_default : goal.chain-returns-in_default
chain-returns-in_default t c = chaining_done _ _ _ _ _ _ _ _ _ _ _ _ _ _ _ _ _ _ _ _ _ _ _ c.loop.invariant (omega (arith, c.loop-test.true)) _ c.infix_at.ensures (none_one _ c.in_default.not-Some)

pub chain-returns : goal.chain-returns
chain-returns t c = chaining_end _ _ _ _ _ _ _ _ _ _ _ _ _ _ _ _ _ _ _ _ _ _ _ c.loop.invariant (omega (arith, c.loop-test.false)) _

pub deeds::assign-returns : goal.deeds::assign-returns
deeds::assign-returns t c = assign_done _ _ _ _ _ _ _ _ _ _ _ _ _ c.token_at-t.ensures _ c.target_at.ensures _ _ c.in-Some.is _ c.token_at-sign.ensures _ _ _ _ c.evaluate-x.auto.work _ c.evaluate-x.ensures _ _ _ _ _ c.stored.ensures

pub deeds::assign-returns-in_default : goal.deeds::assign-returns-in_default
deeds::assign-returns-in_default t c = search (assign_none, c.token_at-t.ensures, c.target_at.ensures, none_one _ c.in_default.not-Some)

pub deeds::begun-returns-in-Assign : goal.deeds::begun-returns-in-Assign
deeds::begun-returns-in-Assign t c = row_assign _ _ _ _ _ _ _ _ _ _ _ _ _ _ _ _ c.row_at-r.ensures (search c.in-Assign) _ _ _ _ _ (rw c.from-at.ensures at c.assign-d.ensures) _ c.on_behind.ensures

pub deeds::begun-returns-in-Conditional : goal.deeds::begun-returns-in-Conditional
deeds::begun-returns-in-Conditional t c = row_test _ _ _ _ _ _ _ _ _ _ _ _ _ _ _ _ c.row_at-r.ensures (search c.in-Conditional) _ _ _ _ _ (rw c.from-at.ensures at c.test-t.ensures) _ c.on_test.ensures

pub deeds::begun-returns-in-Iterated : goal.deeds::begun-returns-in-Iterated
deeds::begun-returns-in-Iterated t c = row_start _ _ _ _ _ _ _ _ _ _ _ _ _ _ _ _ c.row_at-r.ensures (search c.in-Iterated) _ _ _ _ _ (rw c.from-at.ensures at c.start-t.ensures) _ c.on_start.ensures

pub deeds::begun-returns-in-Return : goal.deeds::begun-returns-in-Return
deeds::begun-returns-in-Return t c = row_return _ _ _ _ _ _ _ _ _ _ _ _ _ _ _ _ c.row_at-r.ensures (search c.in-Return) _ (rw c.from-at.ensures at c.token_at-open.ensures) _ _ _ _ c.evaluate-v.auto.work _ c.evaluate-v.ensures _ c.row_at.ensures _ _ c.on_return.ensures

pub deeds::begun-returns-in-Group : goal.deeds::begun-returns-in-Group
deeds::begun-returns-in-Group t c = row_group _ _ _ _ _ _ _ _ _ _ _ _ _ _ _ _ c.row_at-r.ensures (search c.in-Group) _ c.into_group.ensures _ c.with_step.ensures

pub deeds::begun-returns-in-Goto : goal.deeds::begun-returns-in-Goto
deeds::begun-returns-in-Goto t c = row_goto _ _ _ _ _ _ _ _ _ _ _ _ _ _ _ _ c.row_at-r.ensures (search c.in-Goto) _ c.jump_in.ensures

pub deeds::begun-returns-in-Null : goal.deeds::begun-returns-in-Null
deeds::begun-returns-in-Null t c = row_other _ _ _ _ _ _ _ _ _ _ _ _ _ _ _ _ c.row_at-r.ensures c.in-Null.is _ c.on_behind-in-Null.ensures

pub deeds::body_turn-returns-in-Ok : goal.deeds::body_turn-returns-in-Ok
deeds::body_turn-returns-in-Ok t c = turn_begin _ _ _ _ _ _ _ _ _ _ _ _ _ _ _ _ c.in-Begin.is _ c.in-Ok.ensures _ _ _ _ _ c.begun.ensures

pub deeds::body_turn-returns-in-Err : goal.deeds::body_turn-returns-in-Err
deeds::body_turn-returns-in-Err t c = turn_due _ _ _ _ _ _ _ _ _ _ _ _ _ _ _ _ c.in-Begin.is _ _ c.in-Err.ensures _ c.with_step.ensures

pub deeds::body_turn-returns-in-Again : goal.deeds::body_turn-returns-in-Again
deeds::body_turn-returns-in-Again t c = turn_again _ _ _ _ _ _ _ _ _ _ _ _ _ _ _ _ c.in-Again.is _ c.frame_of.ensures _ _ c.stepped-t.ensures _ c.on_again.ensures

pub deeds::body_turn-returns-in-Over : goal.deeds::body_turn-returns-in-Over
deeds::body_turn-returns-in-Over t c = turn_over _ _ _ _ _ _ _ _ _ _ _ _ _ _ _ (search c.in-Over) _ c.with_step-in-Over.ensures

pub deeds::bounded-returns : goal.deeds::bounded-returns
deeds::bounded-returns t c = bounded_some _ _ _ _ _ _ _ _ _ _ _ _ _ _ c.in_ok-f.was _ c.bound_word.ensures _ _ c.in-Some.is _ _ _ _ _ c.evaluate-e.ensures _ c.bound_of.ensures _ c.bounded_by.ensures

pub deeds::bounded-returns-in_default : goal.deeds::bounded-returns-in_default
deeds::bounded-returns-in_default t c = search (bounded_none, c.in_ok-f.was, c.bound_word.ensures, none_one _ c.in_default.not-Some)

pub deeds::bounded-returns-in_err-f : goal.deeds::bounded-returns-in_err-f
deeds::bounded-returns-in_err-f t c = let p = err_from_is_err_and c.from_residual.result c.from_residual.ensures.1 in rw (p.1, p.2) (bounded_bad _ _ _ _ _ _ _ _ _ _ _ _ c.in_err-f.was)

pub deeds::bounds-returns : goal.deeds::bounds-returns
deeds::bounds-returns t c = bounds_done _ _ _ _ _ _ _ _ _ _ _ _ _ _ _ c.in_ok-x.was _ _ _ _ c.bounded-one.auto.work _ c.bounded-one.ensures _ _ _ _ _ c.bounded-two.ensures _ _ c.set_off.ensures

pub deeds::bounds-returns-in_err-x : goal.deeds::bounds-returns-in_err-x
deeds::bounds-returns-in_err-x t c = let p = err_from_is_err_and c.from_residual.result c.from_residual.ensures.1 in rw (p.1, p.2) (bounds_bad _ _ _ _ _ _ _ _ _ _ _ _ _ c.in_err-x.was)

pub deeds::run_body-loop-init : goal.deeds::run_body-loop-init
deeds::run_body-loop-init t c = runs_start _ _ _ _ _ _ _ _ _ _ _ _ _ _ c.row_at.ensures _ c.first_of-next.ensures _ c.no_frames-fs.ensures _ (omega (arith, c.turns_left-end.ensures))

pub deeds::run_body-loop-preserved : goal.deeds::run_body-loop-preserved
deeds::run_body-loop-preserved t c = runs_more _ _ _ _ _ _ _ _ _ _ _ _ _ _ _ _ _ _ _ _ _ c.loop.invariant _ _ _ _ _ c.body_turn-t.ensures _ _ (c.in_ok-step.was ∙ ap Ok c.in-On.is) c.body_turn-t.auto.work _ (omega arith)

pub deeds::run_body-returns-in-Gave : goal.deeds::run_body-returns-in-Gave
deeds::run_body-returns-in-Gave t c = runs_gave _ _ _ _ _ _ _ _ _ _ _ _ _ _ _ _ _ _ _ _ _ c.loop.invariant _ _ _ _ _ c.body_turn-t.ensures _ _ (c.in_ok-step.was ∙ ap Ok c.in-Gave.is)

pub deeds::run_body-returns-in_err-step : goal.deeds::run_body-returns-in_err-step
deeds::run_body-returns-in_err-step t c = let p = err_from_is_err_and c.from_residual.result c.from_residual.ensures.1 in rw (p.1, p.2) (runs_bad _ _ _ _ _ _ _ _ _ _ _ _ _ _ _ _ _ _ _ _ _ c.loop.invariant _ _ _ _ _ c.body_turn-t.ensures _ c.in_err-step.was)

pub deeds::run_body-returns : goal.deeds::run_body-returns
deeds::run_body-returns t c = runs_end _ _ _ _ _ _ _ _ _ _ _ _ _ _ _ _ _ _ _ _ _ c.loop.invariant (omega (arith, c.loop-test.false)) _

pub deeds::start-returns : goal.deeds::start-returns
deeds::start-returns t c = start_done _ _ _ _ _ _ _ _ _ _ _ _ _ _ c.token_at-t.ensures _ c.target_at.ensures _ c.control_address.ensures _ c.in-Some.is _ c.token_at-sign.ensures _ _ _ _ c.evaluate-e.auto.work _ c.evaluate-e.ensures _ c.bound_of-b.ensures _ c.new_frame.ensures _ _ _ _ _ c.bounds.ensures

pub deeds::start-returns-in_default : goal.deeds::start-returns-in_default
deeds::start-returns-in_default t c = search (start_none, c.token_at-t.ensures, c.target_at.ensures, c.control_address.ensures, none_one _ c.in_default.not-Some)

pub deeds::test-returns : goal.deeds::test-returns
deeds::test-returns t c = search (test_done, c.evaluate-x.ensures, c.evaluate-x.auto.work, c.truth_of.ensures)

pub evaluate-returns : goal.evaluate-returns
evaluate-returns t c = search (whole, c.levels.ensures)

pub inside-returns-then-left-lt1 : goal.inside-returns-then-left-lt1
inside-returns-then-left-lt1 t c = search (inside_over, c.if-left-lt1.true)

pub inside-returns : goal.inside-returns
inside-returns t c = search (inside_some, c.if-left-lt1.false, c.levels.ensures)

pub levels-returns-then-n-lt1 : goal.levels-returns-then-n-lt1
levels-returns-then-n-lt1 t c = search (levels_operand, c.if-n-lt1.true, c.operand.ensures)

pub levels-returns : goal.levels-returns
levels-returns t c = search (levels_chain, c.if-n-lt1.false, c.levels.ensures, c.in_ok-v.was, c.levels.auto.work, c.chain.ensures)

pub levels-returns-in_err-v : goal.levels-returns-in_err-v
levels-returns-in_err-v t c = let p = err_from_is_err_and c.from_residual.result c.from_residual.ensures.1 in rw (p.1, p.2) (search (levels_failed, c.if-n-lt1.false, c.levels.ensures, c.in_err-v.was))

pub listed-returns-in-Entry : goal.listed-returns-in-Entry
listed-returns-in-Entry t c = listed_call _ _ _ _ _ _ _ _ _ _ _ _ _ _ _ c.count_arguments-n.ensures _ c.aim_of.ensures _ c.in-Ok.is _ _ _ _ c.arguments.auto.work _ c.arguments.ensures _ c.in_ok-a-in-Ok.was _ c.in-Entry.is _ _ _ _ _ c.call-v.ensures _ c.up_to.ensures

pub listed-returns-in-Substr : goal.listed-returns-in-Substr
listed-returns-in-Substr t c = search (listed_substr, c.count_arguments-n.ensures, c.aim_of.ensures, c.in-Ok.is, c.arguments.auto.work, c.arguments.ensures, c.in_ok-a-in-Ok.was, c.in-Substr, c.substr_of.ensures)

pub listed-returns-in_err-a-in-Ok : goal.listed-returns-in_err-a-in-Ok
listed-returns-in_err-a-in-Ok t c = let p = err_from_is_err_and c.from_residual.result c.from_residual.ensures.1 in rw (p.1, p.2) (listed_refused _ _ _ _ _ _ _ _ _ _ _ _ _ _ _ c.count_arguments-n.ensures _ c.aim_of.ensures _ c.in-Ok.is _ _ _ _ c.arguments.auto.work _ c.arguments.ensures _ c.in_err-a-in-Ok.was)

pub listed-returns-in-Err : goal.listed-returns-in-Err
listed-returns-in-Err t c = search (listed_fails, c.count_arguments-n.ensures, c.aim_of.ensures, c.in-Err.is)

pub operand-returns : goal.operand-returns
operand-returns t c = search (operand_done, c.past_prefixes-p.ensures, c.primitive-x.ensures, c.primitive-x.auto.work, c.prefixes_done.ensures)

pub plain-returns-then-z-eq0 : goal.plain-returns-then-z-eq0
plain-returns-then-z-eq0 t c = entry_called _ _ _ _ _ _ _ _ _ _ _ _ c.callee_of.ensures _ c.in-AnEntry.is _ _ c.in-Ok.is c.if-z-eq0.true _ _ _ _ _ _ c.call-v.ensures _ c.up_to.ensures

pub plain-returns-else-z-eq0 : goal.plain-returns-else-z-eq0
plain-returns-else-z-eq0 t c = search entry_many

pub plain-returns-in-Err : goal.plain-returns-in-Err
plain-returns-in-Err t c = search entry_fails

pub plain-returns-in-AVariable : goal.plain-returns-in-AVariable
plain-returns-in-AVariable t c = search (named_other, c.in-AVariable.is)

pub primitive-returns-in-Word : goal.primitive-returns-in-Word
primitive-returns-in-Word t c = search (primitive_word, c.token_at-t.ensures, c.in-Word, c.reference.ensures)

pub primitive-returns-in-Integer : goal.primitive-returns-in-Integer
primitive-returns-in-Integer t c = search (primitive_integer, c.token_at-t.ensures, c.in-Integer, c.integer_value.ensures)

pub primitive-returns-in-String : goal.primitive-returns-in-String
primitive-returns-in-String t c = search (primitive_string, c.token_at-t.ensures, c.in-String, c.string_value.ensures)

pub primitive-returns-in-Bits : goal.primitive-returns-in-Bits
primitive-returns-in-Bits t c = search (primitive_bits, c.token_at-t.ensures, c.in-Bits, c.string_value-in-Bits.ensures)

pub primitive-returns-in-Sign : goal.primitive-returns-in-Sign
primitive-returns-in-Sign t c = search (primitive_sign, c.token_at-t.ensures, c.in-Sign, c.inside-x.ensures, c.closed.ensures)

pub primitive-returns-in-Nothing : goal.primitive-returns-in-Nothing
primitive-returns-in-Nothing t c = search (primitive_none, c.token_at-t.ensures, c.in-Nothing.is)

pub reference-returns-then-is_sign : goal.reference-returns-then-is_sign
reference-returns-then-is_sign t c = search (reference_listed, c.meant_by-x.ensures, c.token_at-next.ensures, c.is_sign.ensures, c.if-is_sign.true, c.listed.ensures)

pub reference-returns : goal.reference-returns
reference-returns t c = search (reference_plain, c.meant_by-x.ensures, c.token_at-next.ensures, c.is_sign.ensures, c.if-is_sign.false, c.plain.ensures)
