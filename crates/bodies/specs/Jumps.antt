-- GOTO in a body: "local names first, every global label is 13".
use Rattle.names.specs.declared.Label.{Label}
use Rattle.std.specs.Prelude.{ℕ, ◌-◌, cond, ◌≡◌, List, Result, Ok, Err}
use Rattle.definition.specs.Bytes.{mixed, folded}
use Rattle.definition.specs.Lists.{part}
use Rattle.definition.specs.Program as P
use Rattle.definition.specs.Values as Val
use Rattle.definition.specs.World as W
use Rattle.definition.specs.World.{World, Res, bad, Address, address, unknown, variable_of, entry_of, label_at, builtin_name, everyone, address_of, denotation}
use Rattle.definition.specs.Flow as F
use Rattle.definition.specs.Flow.{Target}
use Rattle.definition.specs.Calls.{jump_to}
use Rattle.definition.specs.declared.Why.{Why}
use Rattle.definition.specs.declared.Why.TheVariants.{WrongName, WrongGoto}
use Rattle.meter.specs.declared.Meter.{Meter}
use Rattle.names.specs.declared.Owner.{Owner}
use Rattle.names.specs.Table.{owner_of}
use Rattle.rows.specs.Table.{row_in}
use Rattle.tokens.specs.declared.Lexeme.{Lexeme}
use Rattle.flow.specs.declared.Frames.{Frames}
use Rattle.flow.specs.Walks.{arrived_at, may_go_on, label_from, landing_walk}
use Rattle.callees.specs.Shown.{names_world}
use Rattle.callees.specs.Answer.{spelled_at}
use Rattle.operands.specs.declared.Scene.{Scene}
use Rattle.bodies.specs.declared.Step.{Step}
use Rattle.bodies.specs.declared.Step.TheVariants as St
use Rattle.bodies.specs.declared.Turned.{Turned}
use Rattle.bodies.specs.Ways.{turned_by}

-- ---- the label that a name stands for, or why there is none
abbrev pub jump_for : Result Label Why → Val.Answer Target
jump_for (Ok l) = Val.gives (record { member = l.place.member; row = l.place.row; is_end = l.is_end })
jump_for (Err e) = Val.fails e

abbrev pub local_target : W.Denotation → Val.Answer Target
local_target (variable_of t) = Val.fails WrongName
local_target (entry_of e b) = Val.fails WrongName
local_target (label_at m r x) = Val.gives (record { member = m; row = r; is_end = x })
local_target builtin_name = Val.fails WrongName

abbrev pub global_target : W.Denotation → Val.Answer Target
global_target (variable_of t) = Val.fails WrongName
global_target (entry_of e b) = Val.fails WrongName
global_target (label_at m r x) = Val.fails WrongGoto
global_target builtin_name = Val.fails WrongName

abbrev pub out_target : Address → World → Val.Answer Target
out_target (address a) w = global_target (denotation a w)
out_target unknown w = Val.fails WrongName

abbrev pub target_for : Address → List ℕ → World → Val.Answer Target
target_for (address a) l w = local_target (denotation a w)
target_for unknown l w = out_target (address_of l everyone w) w

-- the definition's jump to it from row n of rs
abbrev pub jump_by : Val.Answer Target → List P.Row → ℕ → World → Res Why F.Jump
jump_by (Val.gives q) rs n w = jump_to rs n q.row q.is_end w
jump_by (Val.fails e) rs n w = bad e w.used

-- ---- of the name l in the scope o; the names are those of the table
abbrev pub target_in : List ℕ → List ℕ → ℕ → W.Owner → List ℕ → Val.Answer Target
target_in d t n o l = target_for (address_of l o (names_world d t n)) l (names_world d t n)

pub record LabelIs (deck s names : List ℕ) (n : ℕ) (o : Owner) (t : Lexeme) (r : Result Label Why) : Type 0 where
  pub is : jump_for r ≡ target_in deck names n (owner_of o) (folded mixed (part (t.to - t.from) t.from s))

-- ---- the GOTO of row n, whose label's name stands behind the row's place
abbrev pub after_jump : List ℕ → Frames → ℕ → Result Label Why → Meter → Result Step (Why × Meter)
after_jump t fs n (Ok l) m =
    cond (may_go_on t n 2048 (label_from t l.place.row l.is_end))
    (Ok (St.On (arrived_at t fs (landing_walk t fs l.place.row l.is_end)) m)) (Err (WrongGoto, m))
after_jump t fs n (Err e) m = Err (e, m)

pub record JumpsIn (deck s t names : List ℕ) (fs : Frames) (n : ℕ) (x : Scene) (m : Meter) (r : Turned) : Type 0 where
  pub jump : Result Label Why
  pub is : jump_for jump ≡ target_in deck names x.names (owner_of x.owner) (spelled_at s (row_in t n).content)
  pub turned : r ≡ turned_by fs (after_jump t fs n jump m)
