-- By the last of the list.
use Rattle.reading.proofs.Adding.{listed_first, listed_next}
use Rattle.reading.proofs.link_listed.Goals as goal

pub returns-in-None : goal.returns-in-None
returns-in-None c = search listed_first

pub returns-in-Some : goal.returns-in-Some
returns-in-Some c = search listed_next
