-- The contents are sound just where the deck is.
use Rattle.expander.proofs.Laws.{sound_not, sound_is}
use Rattle.expander.proofs.is_sound.Goals as goal

pub returns-in-Some : goal.returns-in-Some
returns-in-Some c = sound_is c.args.deck.now c.in-Some.field-0 c.in-Some.ensures

pub returns-in_default : goal.returns-in_default
returns-in_default c = sound_not c.args.deck.now c.in_default.ensures
