-- Each kind of statement has its law.
use Rattle.stepping.proofs.Acting.{row_assign, row_test, row_start, row_group, row_idle}
use Rattle.stepping.proofs.Waking.{row_declare, row_activate, row_deactivate}
use Rattle.stepping.proofs.Jumping.{row_goto}
use Rattle.stepping.proofs.statement.Goals as goal

pub returns-in-Assign : goal.returns-in-Assign
returns-in-Assign c = row_assign _ _ _ _ _ _ _ _ _ _ _ _ _ _ _ _ _ c.row_at-r.ensures (search c.in-Assign) _ c.scene.ensures _ _ _ _ c.assign-d.auto.cells c.assign-d.auto.work _ c.assign-d.ensures _ c.on_done.ensures

pub returns-in-Conditional : goal.returns-in-Conditional
returns-in-Conditional c = row_test _ _ _ _ _ _ _ _ _ _ _ _ _ _ _ _ _ c.row_at-r.ensures (search c.in-Conditional) _ c.scene-in-Conditional.ensures _ _ _ _ c.test-t.auto.cells c.test-t.auto.work _ c.test-t.ensures _ c.on_test.ensures

pub returns-in-Iterated : goal.returns-in-Iterated
returns-in-Iterated c = row_start _ _ _ _ _ _ _ _ _ _ _ _ _ _ _ _ _ c.row_at-r.ensures (search c.in-Iterated) _ c.scene-in-Iterated.ensures _ _ _ _ c.start-y.auto.cells c.start-y.auto.work _ c.start-y.ensures _ _ _ _ _ _ _ c.into_started.ensures

pub returns-in-Group : goal.returns-in-Group
returns-in-Group c = row_group _ _ _ _ _ _ _ _ _ _ _ _ _ _ _ _ _ c.row_at-r.ensures (search c.in-Group) _ _ _ _ _ _ _ c.into.ensures

pub returns-in-Goto : goal.returns-in-Goto
returns-in-Goto c = row_goto _ _ _ _ _ _ _ _ _ _ _ _ _ _ _ _ _ c.row_at-r.ensures (search c.in-Goto) _ c.jump_from-j.ensures _ c.on_jump.ensures

pub returns-in-Declare : goal.returns-in-Declare
returns-in-Declare c = row_declare _ _ _ _ _ _ _ _ _ _ _ _ _ _ _ _ _ c.row_at-r.ensures (search c.in-Declare) _ _ c.declare_all-b.ensures _ c.on_activated.ensures

pub returns-in-Activate : goal.returns-in-Activate
returns-in-Activate c = row_activate _ _ _ _ _ _ _ _ _ _ _ _ _ _ _ _ _ c.row_at-r.ensures (search c.in-Activate) _ _ c.activate_all-b.ensures _ c.on_activated-in-Activate.ensures

pub returns-in-Deactivate : goal.returns-in-Deactivate
returns-in-Deactivate c = row_deactivate _ _ _ _ _ _ _ _ _ _ _ _ _ _ _ _ _ c.row_at-r.ensures (search c.in-Deactivate) _ _ c.deactivate_all-b.ensures _ c.on_activated-in-Deactivate.ensures

pub returns-in-Null : goal.returns-in-Null
returns-in-Null c = row_idle _ _ _ _ _ _ _ _ _ _ _ _ _ _ _ _ _ c.row_at-r.ensures c.in-Null.is _ c.with_step.ensures
