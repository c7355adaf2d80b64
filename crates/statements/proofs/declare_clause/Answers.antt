use Rattle.statements.proofs.Items.{if_start, if_more, if_done, if_refused, if_none}
use Rattle.statements.proofs.declare_clause.Goals as goal

pub loop-left-init : goal.loop-left-init
loop-left-init c = search if_start

pub loop-left-preserved : goal.loop-left-preserved
loop-left-preserved c = search (if_more, c.loop-left.invariant, c.loop-left-test.true, c.item_at-x.ensures, c.item_means-y.ensures, c.meaning_of.ensures, c.declare_names-tally.ensures, c.declare_names-tally.auto.names, c.in-Ok.is, c.token_at-t.ensures, c.is_sign.ensures, c.if-not-is_sign.false)

pub returns-then-not-is_sign : goal.returns-then-not-is_sign
returns-then-not-is_sign c = search (if_done, c.loop-left.invariant, c.loop-left-test.true, c.item_at-x.ensures, c.item_means-y.ensures, c.meaning_of.ensures, c.declare_names-tally.ensures, c.declare_names-tally.auto.names, c.in-Ok.is, c.token_at-t.ensures, c.is_sign.ensures, c.if-not-is_sign.true, c.expect_sign.ensures, c.read_up_to-read.ensures)

pub returns-in-Err : goal.returns-in-Err
returns-in-Err c = search if_refused

pub returns : goal.returns
returns c = search if_none
