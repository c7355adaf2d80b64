-- By the layout.
use Rattle.origin.proofs.Telling.{place_plain, place_cards}
use Rattle.origin.proofs.told_place.Goals as goal

pub returns-in-Plain : goal.returns-in-Plain
returns-in-Plain c = search place_plain

pub returns-in-Cards : goal.returns-in-Cards
returns-in-Cards c = search place_cards
