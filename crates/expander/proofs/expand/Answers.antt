-- The text room and the list room are made zero, the answer is decided, the working rooms are made zero, and after a refusal the two
-- again.
use Rattle.std.proofs.Common.{◌∙◌}
use Rattle.expander.proofs.Laws.{expanded}
use Rattle.expander.proofs.expand.Goals as goal

pub shape_of-text : goal.shape_of-text
shape_of-text c = c.empty_refused.auto.text ∙ c.decide-x.auto.text ∙ c.zero_u8.auto.room

pub shape_of-list : goal.shape_of-list
shape_of-list c = c.empty_refused.auto.list ∙ c.decide-x.auto.list ∙ c.zero_u8-2.auto.room

pub returns : goal.returns
returns c = expanded _ _ _ c.zero_u8.new.room c.decide-x.new.text _ _ c.zero_u8-2.new.room c.decide-x.new.list _ _ _ _ _ _ c.zero_u8.ensures c.zero_u8-2.ensures c.decide-x.ensures c.decide-x.auto.text c.decide-x.auto.list record { rows = c.decide-x.auto.rows; names = c.decide-x.auto.names; cells = c.decide-x.auto.cells; low = c.decide-x.auto.low; high = c.decide-x.auto.high; work = c.decide-x.auto.work; joined = c.decide-x.auto.joined } c.clear.ensures c.empty_refused.ensures
