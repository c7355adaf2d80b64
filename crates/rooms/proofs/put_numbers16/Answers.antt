use Rattle.std.proofs.Common.{sym, ◌∙◌, ap, take_all}
use Rattle.definition.specs.Room.{over}
use Rattle.definition.proofs.Rooms.{over_nil}
use Rattle.rooms.proofs.Laws.{numbers_more}
use Rattle.rooms.proofs.put_numbers16.Goals as goal

pub loop-k-init : goal.loop-k-init
loop-k-init c = sym (over_nil c.args.room.now c.args.at)

pub loop-k-preserved : goal.loop-k-preserved
loop-k-preserved c = search numbers_more

pub returns : goal.returns
returns c = c.loop-k.invariant ∙ ap (over c.args.room.now c.args.at) (take_all _ _ c.loop-k-test.false)
