-- A deck is malformed, or its lines are counted.
use Rattle.std.proofs.Common.{◌∙◌}
use Rattle.deck.proofs.Laws.{of_deck}
use Rattle.deck.proofs.Deck.of.Goals as goal

pub returns : goal.returns
returns c = c.then_some.ensures ∙ of_deck _ _ _ c.is_sound.ensures c.count.ensures
