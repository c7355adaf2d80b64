-- As long as it was made, without counting.
use Rattle.std.proofs.Common.{sym, ℕ}
use Rattle.std.proofs.lemmas.List.{length-replicate}
use Rattle.writing.proofs.large_room.Goals as goal

pub returns : goal.returns
returns c = sym (length-replicate {A = ℕ} 1048576 0)
