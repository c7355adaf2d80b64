-- The names in the body are the same bytes in the deck.
use Rattle.running.proofs.Seeking.{found_bare, found_library}
use Rattle.running.proofs.member_named.Goals as goal

pub returns-in-Bare : goal.returns-in-Bare
returns-in-Bare c = search found_bare

pub returns-in-InLibrary : goal.returns-in-InLibrary
returns-in-InLibrary c = search found_library
