-- HOW THE ROOMS SHOW A RUN OF MEMBERS: the world B, with what was put out, and the rows of its members in the table. And the member that
-- runs.
use Rattle.std.specs.Prelude.{ℕ, ◌<◌, ◌≤◌, ◌≡◌, true, List, length, Some}
use Rattle.definition.specs.Bytes.{mixed}
use Rattle.definition.specs.Reading.{read_member}
use Rattle.definition.specs.World.{World, Res, rows_of}
use Rattle.definition.specs.Flow as F
use Rattle.definition.specs.Calls.{Place}
use Rattle.definition.specs.Run as Run
use Rattle.definition.specs.Run.{body_of, member_machine}
use Rattle.deck.specs.Answer.{body_in}
use Rattle.names.specs.declared.Label.{Label}
use Rattle.rows.specs.Parts.{part_in}
use Rattle.rows.specs.declared.Starts.{Starts}
use Rattle.flow.specs.declared.Walk.{Walk}
use Rattle.flow.specs.Shown.{walked}
use Rattle.showing.specs.Worlds.{Placed, Laid}
use Rattle.leaving.specs.Places.{row_for}
use Rattle.texts.specs.declared.Progress.{Progress}
use Rattle.texts.specs.declared.Here.{Here}
use Rattle.texts.specs.Shown.{Onstage}

-- the working rooms are as long as docs/ROOMS.md says
pub record Roomy (rows names c : List ℕ) : Type 0 where
  pub table : 32768 ≤ length rows
  pub book : 4096 ≤ length names
  pub cells : 256 ≤ length c

-- THE STAGE: the rooms show the world B
pub record Stage (deck rows names c l h w t ls : List ℕ) (starts : Starts) (g : Progress) (B : World) : Type 0 where
  pub onstage : Onstage deck rows names c l h w t ls starts g B
  pub placed : Placed (body_in deck) B
  pub laid : Laid deck rows starts g.rows B
  pub sentences : B.sentences ≡ g.rows
  pub few : g.rows ≤ 2048
  pub roomy : Roomy rows names c

-- ---- THE MEMBER that runs: its body s, and its rows in the table
pub record InMember (deck s rows : List ℕ) (here : Here) (B : World) : Type 0 where
  pub body : s ≡ body_in deck here.member
  pub whole : body_in deck here.member ≡ body_of deck here.member
  pub short : length s < 65536
  pub low : here.member < 32
  pub entered : rows_of here.member B ≡ (read_member mixed (body_of deck here.member)).rows

abbrev pub part_here : List ℕ → Here → List ℕ
part_here rows here = part_in rows here.starts here.member

-- the definition's machine for member m, with the members `on` below it
abbrev pub machine_of : Run.Level → List ℕ → ℕ → List Place → F.Machine Run.Stop
machine_of inner deck m on = member_machine mixed inner deck m on (read_member mixed (body_of deck m))

-- where a walk leads in the definition, with the texts on the way
abbrev pub goes : F.Machine Run.Stop → List F.Frame → Walk → World → Res Run.Stop F.Next
goes M G x w = walked x (λ n v. F.behind M G n v) w

-- ---- GOTO out of a member: the label, in a member below, which may be gone to from where that member stands
abbrev pub target_for : Label → F.Target
target_for l = record { member = l.place.member; row = l.place.row; is_end = l.is_end }

pub record Reaches (on : List Place) (l : Label) (B : World) : Type 0 where
  pub at : ℕ
  pub stands : row_for on l.place.member ≡ Some at
  pub may : F.may_go (rows_of l.place.member B) at l.place.row l.is_end ≡ true
  pub there : l.place.row < length (rows_of l.place.member B)
