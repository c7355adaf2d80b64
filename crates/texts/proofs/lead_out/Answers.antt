-- An empty text is none.
use Rattle.texts.proofs.Looping.{lead_some, lead_none}
use Rattle.texts.proofs.lead_out.Goals as goal

pub returns-then-x : goal.returns-then-x
returns-then-x c = lead_some _ _ _ _ _ _ _ _ _ _ _ _ _ _ _ _ _ _ _ _ c.if-x.true c.text_out.ensures

pub returns : goal.returns
returns c = lead_none _ _ _ _ _ _ _ _ _ _ _ _ _ c.if-x.false
