-- By the layout.
use Rattle.origin.proofs.Telling.{plain_told, cards_told}
use Rattle.origin.proofs.tell_copied.Goals as goal

pub returns-in-Plain : goal.returns-in-Plain
returns-in-Plain c = plain_told _ _ _ _ _ _ _ _ _ _ _ _ _ _ c.in-Plain.is c.place32-in-Plain.ensures c.less.ensures c.place32.ensures c.put_copied.ensures

pub returns-in-Cards : goal.returns-in-Cards
returns-in-Cards c = cards_told _ _ _ _ _ _ _ _ _ _ _ c.in-Cards.is c.put_pieces.ensures
