-- 01, "Reading": "A body never included, replaced by any other of that length, changes nothing in the answer, text or
-- list." Whether a run includes the member k is asked of a run that is the definition's but for one thing: where it is
-- to include k, it ends at a bar.
use Rattle.std.specs.Prelude.{ℕ, zero, suc, ◌-◌, ◌<◌, Bool, true, cond, List, [], ◌∷◌, ◌≡◌, eqb, length}
use Rattle.definition.specs.declared.Why.TheVariants.{UnknownMember as unknown_member, TooDeep as too_deep}
use Rattle.definition.specs.Bytes.{mixed}
use Rattle.definition.specs.Choice.{when}
use Rattle.definition.specs.Limits.{include_levels}
use Rattle.definition.specs.Room.{over}
use Rattle.definition.specs.Deck as Deck
use Rattle.definition.specs.Program.{Statement, null, declare, procedure, assign, conditional, group, iterated, goto, include, activate, deactivate, return, Source}
use Rattle.definition.specs.Reading.{read_member}
use Rattle.definition.specs.World.{World, Res, good, bad, bind, placed, row_of}
use Rattle.definition.specs.Names.{Entering, entered, unreadable, enter}
use Rattle.definition.specs.Flow.{Deed, passed, jumps, away, End, ran, returned, went, Machine, lead_out, run_on}
use Rattle.definition.specs.Calls.{Place, first_of}
use Rattle.definition.specs.Run.{Stop, stop, body_of, landing, no_level, act_as, member_machine}
use Rattle.definition.specs.Expansion.{main_world, expansion}

-- a run with a bar that does not end well: as the definition's run does, or at the bar
pub data Halt : Type 0 where
  halted : Stop → Halt
  barred : Halt

-- ---- the run that may not include k: `Run.Inner` to `Run.runMember`, with the one test more
abbrev pub InnerBut : Type 0
InnerBut = ℕ → List Place → World → Res Halt End

pub data LevelBut : Type 0 where
  no_level_but : LevelBut
  level_but : InnerBut → LevelBut

abbrev pub came_out_but : ℕ → End → World → (World → Res Halt Deed) → Res Halt Deed
came_out_but m ran w next = next w
came_out_but m (returned v) w next = next w
came_out_but m (went t) w next = good (jumps (cond (eqb t.member m) (landing t.row t.is_end) (away t))) w

abbrev pub include_entered_but : Entering → InnerBut → ℕ → ℕ → ℕ → List Place → World → (World → Res Halt Deed)
    → Res Halt Deed
include_entered_but (unreadable e p) inner j m n on w next = bad (halted (stop j p e)) w.used
include_entered_but (entered v) inner j m n on w next =
    bind (inner j (record { member = m; row = n } ∷ on) v) λ x y. came_out_but m x y next

abbrev pub include_line_but : LevelBut → ℕ → List ℕ → ℕ → ℕ → ℕ → List Place → World → (World → Res Halt Deed)
    → Res Halt Deed
include_line_but no_level_but j d p m n on w next = bad (halted (stop m p too_deep)) w.used
include_line_but (level_but inner) j d p m n on w next =
    include_entered_but (enter j (read_member mixed (body_of d j)) w) inner j m n on w next

abbrev pub include_at_but : ℕ → Deck.Found → LevelBut → List ℕ → ℕ → ℕ → ℕ → List Place → World → (World → Res Halt Deed)
    → Res Halt Deed
include_at_but k Deck.none inner d p m n on w next = bad (halted (stop m p unknown_member)) w.used
include_at_but k (Deck.line j) inner d p m n on w next =
    when (eqb j k) (λ _. bad barred w.used) (λ _. include_line_but inner j d p m n on w next)

unfoldable pub include_all_but : ℕ → LevelBut → List ℕ → ℕ → ℕ → ℕ → List Place → List Deck.Sought → World → Res Halt Deed
include_all_but k inner d p m n on [] w = good passed w
include_all_but k inner d p m n on (x ∷ xs) w =
    include_at_but k (Deck.find mixed x 0 (Deck.lines d)) inner d p m n on w (λ v. include_all_but k inner d p m n on xs v)

abbrev pub act_but : ℕ → Statement → LevelBut → List ℕ → ℕ → ℕ → ℕ → List Place → World → Res Halt Deed
act_but k null inner d p m n on w = placed halted (act_as mixed null no_level d p m n on w)
act_but k (declare ns) inner d p m n on w = placed halted (act_as mixed (declare ns) no_level d p m n on w)
act_but k (procedure ns t) inner d p m n on w = placed halted (act_as mixed (procedure ns t) no_level d p m n on w)
act_but k (assign t x) inner d p m n on w = placed halted (act_as mixed (assign t x) no_level d p m n on w)
act_but k (conditional x) inner d p m n on w = placed halted (act_as mixed (conditional x) no_level d p m n on w)
act_but k group inner d p m n on w = placed halted (act_as mixed group no_level d p m n on w)
act_but k (iterated t x bs) inner d p m n on w = placed halted (act_as mixed (iterated t x bs) no_level d p m n on w)
act_but k (goto t) inner d p m n on w = placed halted (act_as mixed (goto t) no_level d p m n on w)
act_but k (include ns) inner d p m n on w = include_all_but k inner d p m n on ns w
act_but k (activate xs) inner d p m n on w = placed halted (act_as mixed (activate xs) no_level d p m n on w)
act_but k (deactivate ns) inner d p m n on w = placed halted (act_as mixed (deactivate ns) no_level d p m n on w)
act_but k (return x) inner d p m n on w = placed halted (act_as mixed (return x) no_level d p m n on w)

-- a member's machine, all but INCLUDE as it is
unfoldable pub machine_but : ℕ → LevelBut → List ℕ → ℕ → List Place → Source → Machine Halt
machine_but k inner d m on s = record {
  rows = (member_machine mixed no_level d m on s).rows;
  owner = (member_machine mixed no_level d m on s).owner;
  fault = λ r e. halted ((member_machine mixed no_level d m on s).fault r e);
  value = (member_machine mixed no_level d m on s).value;
  waiting = (member_machine mixed no_level d m on s).waiting;
  out = λ x w. placed halted ((member_machine mixed no_level d m on s).out x w);
  act = λ n w. act_but k (row_of s.rows n).statement inner d (row_of s.rows n).place m n on w;
  jump = λ n t w. placed halted ((member_machine mixed no_level d m on s).jump n t w);
}

unfoldable pub run_source_but : ℕ → LevelBut → List ℕ → ℕ → List Place → Source → World → Res Halt End
run_source_but k inner d m on s w =
    bind (lead_out (machine_but k inner d m on s) s.lead w) λ _ v.
    run_on (machine_but k inner d m on s) (v.limit - v.used) (first_of s.first) [] v

unfoldable pub run_but : ℕ → ℕ → List ℕ → InnerBut
run_but k zero d m on w = run_source_but k no_level_but d m on (read_member mixed (body_of d m)) w
run_but k (suc n) d m on w = run_source_but k (level_but (run_but k n d)) d m on (read_member mixed (body_of d m)) w

-- ---- the run of the deck d never includes the member k
abbrev pub AtBar : Res Halt End → Type 0
AtBar (good x w) = ⊥
AtBar (bad (halted s) u) = ⊥
AtBar (bad barred u) = Unit {0}

abbrev pub MainAtBar : ℕ → Entering → List ℕ → Type 0
MainAtBar k (unreadable e p) d = ⊥
MainAtBar k (entered w) d = AtBar (run_but k include_levels d 0 [] w)

abbrev pub NeverIncluded : ℕ → List ℕ → ℕ → ℕ → ℕ → Type 0
NeverIncluded k d text_room list_room steps =
    MainAtBar k (enter 0 (read_member mixed (body_of d 0)) (main_world text_room list_room steps)) d → ⊥

-- the deck d with the bytes b in place of the body of member k
abbrev pub with_body : ℕ → List ℕ → List ℕ → List ℕ
with_body k b d = over d (Deck.line_at d k).offset b

-- UNREAD: of a sound deck, the body of a member that is not the main program and is never included may be any of its
-- length
abbrev pub Unread : List ℕ → Type 0
Unread d =
    (roomy : Bool) (k : ℕ) (b : List ℕ) (text_room list_room steps : ℕ)
    → Deck.is_sound mixed d ≡ true → 0 < k → k < Deck.count d → length b ≡ (Deck.line_at d k).size
    → NeverIncluded k d text_room list_room steps
    → expansion mixed roomy (with_body k b d) text_room list_room steps ≡ expansion mixed roomy d text_room list_room steps
