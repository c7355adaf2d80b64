-- What is made of how members have ended, and of a turn, with where the rows of each member start since: equations of answers.
use Rattle.texts.specs.declared.Stop.{Stop}
use Rattle.texts.specs.declared.Progress.{Progress}
use Rattle.std.specs.Prelude.{ℕ, List, Ok, Err, Result}
use Rattle.flow.specs.declared.Frames.{Frames}
use Rattle.flow.specs.declared.Walk.TheVariants.{Up}
use Rattle.texts.specs.declared.Here.{Here}
use Rattle.stepping.specs.declared.Step.TheVariants as St
use Rattle.stepping.specs.declared.Turned.{Turned}
use Rattle.stepping.specs.declared.Ended.{Ended}
use Rattle.stepping.specs.declared.Ended.TheVariants as En
use Rattle.stepping.specs.Stage.{part_here}
use Rattle.stepping.specs.Ways.{turned_by, went_to}
use Rattle.running.specs.declared.Left.{Left}
use Rattle.running.specs.declared.Begun.{Begun}
use Rattle.running.specs.Members.{here_at}

abbrev pub left_at : Here → Result Ended (Stop × Progress) → Left
left_at here e = record { ended = e; starts = here.starts }

abbrev pub begun_at : Here → Turned → Begun
begun_at here t = record { turned = t; starts = here.starts }

-- the INCLUDE of row n of member m, whose rows are `part`: it is passed, or a GOTO came out of a member
abbrev pub ended_to : List ℕ → Frames → ℕ → ℕ → Result Ended (Stop × Progress) → Turned
ended_to part fs n m (Ok (En.Ran g)) = turned_by fs (Ok (St.On (Up n) g))
ended_to part fs n m (Ok (En.Went l g)) = went_to part fs m l g
ended_to part fs n m (Err (x, g)) = turned_by fs (Err (x, g))

abbrev pub ended_at : List ℕ → Frames → ℕ → Here → Left → Begun
ended_at rows fs n here x = begun_at (here_at here.member x.starts) (ended_to (part_here rows (here_at here.member x.starts)) fs n here.member x.ended)
