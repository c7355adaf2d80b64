-- The line says where its body begins and how long it is.
use Rattle.deck.proofs.Laws.{body_line}
use Rattle.deck.proofs.body.Goals as goal

pub returns : goal.returns
returns c = search body_line
