use Rattle.rooms.proofs.Laws.{put_is}
use Rattle.rooms.proofs.put_number32.Goals as goal

pub returns : goal.returns
returns c = search put_is
