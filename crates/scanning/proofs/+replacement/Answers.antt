use Rattle.std.proofs.Common.{arith}
use mathlib.Core.Path.{refl}
use Rattle.std.proofs.lemmas.Result.{err_from_is_err_and}
use Rattle.scanning.proofs.Looping.{scanning_start, scanning_end, scanning_out, scanning_none, scanning_bad, scanning_more}
use Rattle.scanning.proofs.Tokens.{token_copied, token_replaced}
use Rattle.scanning.proofs.Values.{rescan_bad, rescan_scanned, call_rescanned, call_copied}
use Rattle.scanning.proofs.Replacing.{replace_deep, replace_rescanned, replace_copied, replace_wrong, replace_fails, replace_some}
use Rattle.scanning.proofs.Entries.{entry_plain, entry_none, entry_many, entry_refused, entry_called}
use Rattle.scanning.proofs.Arguing.{arguing_start, arguing_done, arguing_failed, arguing_more}
use Rattle.scanning.proofs.+replacement.Goals as goal

pub call_with-returns-then-is_rescanned : goal.call_with-returns-then-is_rescanned
call_with-returns-then-is_rescanned t c = call_rescanned _ _ _ _ _ _ _ _ _ _ _ _ _ _ _ _ _ _ _ _ _ _ c.call-v.ensures c.call-v.auto.work _ _ c.value_given-g.ensures c.meter_of-k.ensures _ c.is_rescanned.ensures _ _ _ _ _ _ c.if-is_rescanned.true c.rescan.ensures

pub call_with-returns : goal.call_with-returns
call_with-returns t c = call_copied _ _ _ _ _ _ _ _ _ _ _ _ _ _ _ _ _ _ _ _ _ _ c.call-v.ensures c.call-v.auto.work _ _ c.value_given-g.ensures c.meter_of-k.ensures _ c.is_rescanned.ensures _ _ _ c.if-is_rescanned.false c.copied_result.ensures

pub replace-returns-then-left-lt1 : goal.replace-returns-then-left-lt1
replace-returns-then-left-lt1 t c = replace_deep _ _ _ _ _ _ _ _ _ _ _ _ _ _ _ _ _ _ c.if-left-lt1.true

pub replace-returns-then-is_rescanned : goal.replace-returns-then-is_rescanned
replace-returns-then-is_rescanned t c = replace_rescanned _ _ _ _ _ _ _ _ _ _ _ _ _ _ _ _ _ _ c.if-left-lt1.false _ c.name_at.ensures _ c.in-Variable.is _ c.is_rescanned.ensures _ _ _ _ _ _ _ _ _ c.if-is_rescanned.true c.variable_value-g.ensures c.in_ok-size-in-Variable.ensures c.variable_value-g.auto.work refl

pub replace-returns-in_err-size-in-Variable : goal.replace-returns-in_err-size-in-Variable
replace-returns-in_err-size-in-Variable t c =
    let p = err_from_is_err_and c.from_residual.result c.from_residual.ensures.1 in
    rw (p.1, p.2) (replace_rescanned _ _ _ _ _ _ _ _ _ _ _ _ _ _ _ _ _ _ c.if-left-lt1.false _ c.name_at.ensures _ c.in-Variable.is _ c.is_rescanned.ensures _ _ _ _ _ _ _ _ _ c.if-is_rescanned.true c.variable_value-g.ensures c.in_err-size-in-Variable.ensures c.variable_value-g.auto.work refl)

pub replace-returns-in_ok-more-in-Variable : goal.replace-returns-in_ok-more-in-Variable
replace-returns-in_ok-more-in-Variable t c = replace_copied _ _ _ _ _ _ _ _ _ _ _ _ _ _ _ _ _ _ c.if-left-lt1.false _ c.name_at.ensures _ c.in-Variable.is _ c.is_rescanned.ensures _ _ _ _ c.if-is_rescanned.false c.in_ok-more-in-Variable.ensures refl

pub replace-returns-in_err-more-in-Variable : goal.replace-returns-in_err-more-in-Variable
replace-returns-in_err-more-in-Variable t c =
    let p = err_from_is_err_and c.from_residual-in_err-more-in-Variable.result c.from_residual-in_err-more-in-Variable.ensures.1 in
    rw (p.1, p.2) (replace_copied _ _ _ _ _ _ _ _ _ _ _ _ _ _ _ _ _ _ c.if-left-lt1.false _ c.name_at.ensures _ c.in-Variable.is _ c.is_rescanned.ensures _ _ _ _ c.if-is_rescanned.false c.in_err-more-in-Variable.ensures refl)

pub replace-returns-in-Ok : goal.replace-returns-in-Ok
replace-returns-in-Ok t c = replace_some _ _ _ _ _ _ _ _ _ _ _ _ _ _ _ _ _ _ c.if-left-lt1.false _ c.name_at.ensures _ c.in-EntryName.is _ c.callee_of.ensures _ _ _ _ _ _ _ c.in-Ok.is c.replace_entry.ensures

pub replace-returns-in-Err : goal.replace-returns-in-Err
replace-returns-in-Err t c = replace_fails _ _ _ _ _ _ _ _ _ _ _ _ _ _ _ _ _ _ c.if-left-lt1.false _ c.name_at.ensures _ c.in-EntryName.is _ c.callee_of.ensures _ c.in-Err.is

pub replace-returns-in-LabelName : goal.replace-returns-in-LabelName
replace-returns-in-LabelName t c = replace_wrong _ _ _ _ _ _ _ _ _ _ _ _ _ _ _ _ _ _ c.if-left-lt1.false _ c.name_at.ensures c.in-LabelName.is

pub replace_entry-returns-then-y-lt1 : goal.replace_entry-returns-then-y-lt1
replace_entry-returns-then-y-lt1 t c = entry_plain _ _ _ _ _ _ _ _ _ _ _ _ _ _ _ _ _ _ _ _ _ _ _ _ _ _ c.if-y-lt1.true c.in_ok-size.ensures refl

pub replace_entry-returns-in_err-size : goal.replace_entry-returns-in_err-size
replace_entry-returns-in_err-size t c =
    let p = err_from_is_err_and c.from_residual.result c.from_residual.ensures.1 in
    rw (p.1, p.2) (entry_plain _ _ _ _ _ _ _ _ _ _ _ _ _ _ _ _ _ _ _ _ _ _ _ _ _ _ c.if-y-lt1.true c.in_err-size.ensures refl)

pub replace_entry-returns-then-count-y : goal.replace_entry-returns-then-count-y
replace_entry-returns-then-count-y t c = entry_many _ _ _ _ _ _ _ _ _ _ _ _ _ _ _ _ _ _ c.if-y-lt1.false _ c.list_of.ensures _ _ _ c.in-Some.is c.if-count-y.true

pub replace_entry-returns : goal.replace_entry-returns
replace_entry-returns t c = entry_called _ _ _ _ _ _ _ _ _ _ _ _ _ _ _ _ _ _ c.if-y-lt1.false _ c.list_of.ensures _ _ _ c.in-Some.is c.if-count-y.false _ _ _ _ _ _ c.scan_arguments.ensures _ _ _ _ _ _ _ _ _ c.in_ok-held.was c.in_ok-more.ensures refl

pub replace_entry-returns-in_err-more : goal.replace_entry-returns-in_err-more
replace_entry-returns-in_err-more t c =
    let p = err_from_is_err_and c.from_residual-in_err-more.result c.from_residual-in_err-more.ensures.1 in
    rw (p.1, p.2) (entry_called _ _ _ _ _ _ _ _ _ _ _ _ _ _ _ _ _ _ c.if-y-lt1.false _ c.list_of.ensures _ _ _ c.in-Some.is c.if-count-y.false _ _ _ _ _ _ c.scan_arguments.ensures _ _ _ _ _ _ _ _ _ c.in_ok-held.was c.in_err-more.ensures refl)

pub replace_entry-returns-in_err-held : goal.replace_entry-returns-in_err-held
replace_entry-returns-in_err-held t c =
    let p = err_from_is_err_and c.from_residual-in_err-held.result c.from_residual-in_err-held.ensures.1 in
    rw (p.1, p.2) (entry_refused _ _ _ _ _ _ _ _ _ _ _ _ _ _ _ _ _ _ c.if-y-lt1.false _ c.list_of.ensures _ _ _ c.in-Some.is c.if-count-y.false _ _ _ _ _ _ c.scan_arguments.ensures _ _ c.in_err-held.was)

pub replace_entry-returns-in_default : goal.replace_entry-returns-in_default
replace_entry-returns-in_default t c = entry_none _ _ _ _ _ _ _ _ _ _ _ _ _ _ _ _ _ _ c.if-y-lt1.false _ c.list_of.ensures (λ k f q. c.in_default.not-Some (k, f, q))

pub rescan-returns : goal.rescan-returns
rescan-returns t c = rescan_scanned _ _ _ _ _ _ _ _ _ _ _ _ _ _ _ _ _ c.as_text.ensures c.as_text.auto.work _ _ c.in_ok-size.was _ _ _ _ _ _ _ _ c.settled.ensures _ c.above-top.ensures c.scan-y.ensures

pub rescan-returns-in_err-size : goal.rescan-returns-in_err-size
rescan-returns-in_err-size t c =
    let p = err_from_is_err_and c.from_residual.result c.from_residual.ensures.1 in
    rw (p.1, p.2) (rescan_bad _ _ _ _ _ _ _ _ _ _ _ _ _ _ _ _ _ c.as_text.ensures c.as_text.auto.work _ _ c.in_err-size.was)

pub scan-loop-init : goal.scan-loop-init
scan-loop-init t c = scanning_start _ _ _ _ _ _ _ _ _ _ _ _ _ _ _ _ _ c.less-size.ensures (omega (arith, c.sum-end.ensures))

pub scan-returns-then-size-p : goal.scan-returns-then-size-p
scan-returns-then-size-p t c = scanning_end _ _ _ _ _ _ _ _ _ _ _ _ _ _ _ _ _ _ _ _ _ _ _ _ c.loop.invariant _ c.less-size.ensures c.if-size-p.true

pub scan-returns-in_err-left : goal.scan-returns-in_err-left
scan-returns-in_err-left t c =
    let p = err_from_is_err_and c.from_residual.result c.from_residual.ensures.1 in
    rw (p.1, p.2) (scanning_none _ _ _ _ _ _ _ _ _ _ _ _ _ _ _ _ _ _ _ _ _ _ _ _ c.loop.invariant _ c.less-size.ensures c.if-size-p.false (omega (arith, c.loop-test.true)) _ c.charged.ensures _ _ c.in_err-left.was)

pub scan-loop-preserved : goal.scan-loop-preserved
scan-loop-preserved t c = scanning_more _ _ _ _ _ _ _ _ _ _ _ _ _ _ _ _ _ _ _ _ _ _ _ _ c.loop.invariant _ c.less-size.ensures c.if-size-p.false (omega (arith, c.loop-test.true)) _ c.in_ok-left.ensures.is _ _ _ _ _ _ c.token.ensures refl _ _ _ _ c.in_ok-more.was c.sum-k.ensures _ (omega arith)

pub scan-returns-in_err-more : goal.scan-returns-in_err-more
scan-returns-in_err-more t c =
    let p = err_from_is_err_and c.from_residual-in_err-more.result c.from_residual-in_err-more.ensures.1 in
    rw (p.1, p.2) (scanning_bad _ _ _ _ _ _ _ _ _ _ _ _ _ _ _ _ _ _ _ _ _ _ _ _ c.loop.invariant _ c.less-size.ensures c.if-size-p.false (omega (arith, c.loop-test.true)) _ c.in_ok-left.ensures.is _ _ _ _ _ _ c.token.ensures refl _ _ c.in_err-more.was)

pub scan-returns : goal.scan-returns
scan-returns t c = scanning_out _ _ _ _ _ _ _ _ _ _ _ _ _ _ _ _ _ _ _ _ _ _ _ _ c.loop.invariant (omega (arith, c.loop-test.false))

pub scan_arguments-loop-i-init : goal.scan_arguments-loop-i-init
scan_arguments-loop-i-init t c = arguing_start _ _ _ _ _ _ _ _ _ _ _ _ _ _ _ _ _ _ _ c.nothing_held-held.ensures

pub scan_arguments-returns-in_err-w : goal.scan_arguments-returns-in_err-w
scan_arguments-returns-in_err-w t c =
    let p = err_from_is_err_and c.from_residual.result c.from_residual.ensures.1 in
    rw (p.1, p.2) (arguing_failed _ _ _ _ _ _ _ _ _ _ _ _ _ _ _ _ _ _ _ _ _ _ _ _ _ _ _ c.loop-i.invariant c.loop-i-test.true _ c.body.ensures _ c.parameter_at-parameter.ensures _ c.end_of-to.ensures _ c.part_of.ensures _ c.into_work.ensures _ _ _ _ _ _ c.scan-z.ensures _ c.type_of.ensures _ _ c.converted.ensures c.converted.auto.work _ _ c.in_err-w.was)

pub scan_arguments-loop-i-preserved : goal.scan_arguments-loop-i-preserved
scan_arguments-loop-i-preserved t c = arguing_more _ _ _ _ _ _ _ _ _ _ _ _ _ _ _ _ _ _ _ _ _ _ _ _ _ _ _ c.loop-i.invariant c.loop-i-test.true _ c.body.ensures _ c.parameter_at-parameter.ensures _ c.end_of-to.ensures _ c.part_of.ensures _ c.into_work.ensures _ _ _ _ _ _ c.scan-z.ensures _ c.type_of.ensures _ _ c.converted.ensures c.converted.auto.work _ _ _ _ _ _ _ _ c.in_ok-w.was c.with_held-held.ensures c.size_of.ensures c.above-top.ensures c.place_after-from.ensures c.next_of-listed.ensures

pub scan_arguments-returns : goal.scan_arguments-returns
scan_arguments-returns t c = arguing_done _ _ _ _ _ _ _ _ _ _ _ _ _ _ _ _ _ _ _ _ _ _ _ _ _ _ _ c.loop-i.invariant c.loop-i-test.false

pub token-returns-in-None : goal.token-returns-in-None
token-returns-in-None t c = token_copied _ _ _ _ _ _ _ _ _ _ _ _ _ _ _ _ _ _ c.piece_of-y.ensures _ c.active_in.ensures _ _ _ c.in-None.is c.copy_token.ensures

pub token-returns-in-Some : goal.token-returns-in-Some
token-returns-in-Some t c = token_replaced _ _ _ _ _ _ _ _ _ _ _ _ _ _ _ _ _ _ c.piece_of-y.ensures _ c.active_in.ensures _ _ _ _ _ _ _ _ _ _ c.in-Some.is c.after.ensures c.waiting.ensures c.replace.ensures
