-- One more than the length, and the bytes in low or in high.
use Rattle.store.proofs.Laws.{stored_low, stored_high}
use Rattle.store.proofs.store_characters.Goals as goal

pub returns-then-a-lt128 : goal.returns-then-a-lt128
returns-then-a-lt128 c = search stored_low

pub returns-else-a-lt128 : goal.returns-else-a-lt128
returns-else-a-lt128 c = search stored_high
