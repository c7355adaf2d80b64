-- The statements of a body: each leads where the definition's does.
-- Assumes nothing.
use Rattle.bodies.specs.Types.{Done, Tested, Started}
use Rattle.operands.specs.Types.{Evaluated}
use Rattle.std.proofs.Common.{Result, Ok, Err}
use mathlib.Core.Logic.{◌⊎◌, inl, inr}
use mathlib.Core.Path.{◌≡◌, refl, sym, ap, subst, ◌∙◌}
use mathlib.Core.Bool.{Bool, true, false, cond}
use mathlib.Core.List.{List, ◌∷◌}
use Prim.Native.Nat.{ℕ, ◌+◌, ◌<◌}
use native.Mathlib.Omega.{arith}
use lib.ListN.{length, get_or}
use Rattle.definition.specs.Bytes.{mixed}
use Rattle.definition.specs.Choice.{when}
use Rattle.definition.specs.Expressions.{Tree, whole_expression}
use Rattle.definition.specs.Program as D
use Rattle.definition.specs.Values as Val
use Rattle.definition.specs.World as W
use Rattle.definition.specs.World.{World, Res, good, bad, bind, placed, variable_of, entry_of, label_at, builtin_name, seen_from, row_of, rows_of}
use Rattle.definition.specs.Evaluate as Ev
use Rattle.definition.specs.Evaluate.{put, evaluate}
use Rattle.definition.specs.Flow as F
use Rattle.definition.specs.Flow.{Machine}
use Rattle.definition.specs.Calls as Calls
use Rattle.definition.specs.Calls.{body_machine}
use Rattle.definition.specs.declared.Why.{Why}
use Rattle.definition.specs.declared.Why.TheVariants.{WrongGoto}
use Rattle.definition.specs.declared.ValueType.{ValueType}
use Rattle.definition.specs.declared.ValueType.TheVariants.{FixedType, CharacterType}
use Rattle.meter.specs.declared.Meter.{Meter}
use Rattle.tokens.specs.declared.Lexeme.{Lexeme}
use Rattle.tokens.specs.Answer.{Lexed}
use Rattle.names.specs.declared.Place.{Place}
use Rattle.names.specs.declared.Label.{Label}
use Rattle.names.specs.Table.{owner_of}
use Rattle.rows.specs.declared.Row.{Row}
use Rattle.rows.specs.declared.Statement.{Statement}
use Rattle.rows.specs.declared.Statement.TheVariants as S
use Rattle.rows.specs.Table.{row_in}
use Rattle.rows.specs.Tabled.{kind_of}
use Rattle.callees.specs.Shown.{world_in}
use Rattle.callees.specs.Answer.{spelled_at}
use Rattle.callees.proofs.Listing.{name_is}
use Rattle.flow.specs.declared.Frame.{Frame}
use Rattle.flow.specs.declared.Frames.{Frames}
use Rattle.flow.specs.declared.Next.{Next}
use Rattle.flow.specs.declared.Walk.{Walk}
use Rattle.flow.specs.Walks.{frames_with, frame_in, behind_on, arrived_at, chosen_walk, may_go_on, label_from, landing_walk}
use Rattle.flow.specs.Shown as Fl
use Rattle.flow.specs.Shown.{FrameShown, FrameOf, having, Framed, next_from, Linked, AtRow, AtNext, AtWalk, Owns, walked}
use Rattle.flow.proofs.Flows.{behind_is, chosen_is, landing_row_is, landing_end_is, arrived_as, may_go_is}
use Rattle.flow.proofs.Framing.{once_of, has_entered, framed_entered, start_own, end_own}
use Rattle.flow.proofs.Arriving.{chosen_stands, chosen_walk_stands, landing_code_stands, arrived_stands}
use Rattle.operators.specs.Stands.{value_in}
use Rattle.operands.specs.declared.Scene.{Scene}
use Rattle.operands.specs.Shown.{Stated, Shows}
use Rattle.operands.specs.Answer.{Gave, run_in, value_of, Turns}
use Rattle.operands.specs.Takes.{wished_on}
use Rattle.operands.proofs.Trees.{clash, expect_is}
use Rattle.bodies.specs.declared.Step.TheVariants as St
use Rattle.bodies.specs.declared.Turned.{Turned}
use Rattle.bodies.specs.Deeds.{Serves, scene_machine, Leaves, done_in, done_meter, tested_in, tested_meter}
use Rattle.bodies.specs.Ways.{turned_by, after_done, after_test, into_group, after_start, step_of, ReturnIs}
use Rattle.bodies.specs.Jumps.{jump_for, local_target, global_target, out_target, target_for, target_in, jump_by, after_jump, JumpsIn}
use Rattle.bodies.proofs.Doing.{truth_same, assigned_same, start_same}
use Rattle.bodies.proofs.Jumping.{jump_is, target_there}
use Rattle.evaluating.proofs.Ways.{quiet, behind_goes, behind_at, into_goes, into_at}
use Rattle.evaluating.specs.Cycle.{Evaluates}
use Rattle.evaluating.specs.Statements.{AssignIs, TestIs, StartsAs, started_meter, StartIs, InBody, body_of, TurnsTo, step_meter, StatementIs}

-- ---- statements that do nothing in a body
abbrev is_passed : D.Statement → Bool
is_passed D.null = true
is_passed (D.declare ns) = true
is_passed (D.procedure ns v) = true
is_passed (D.assign v e) = false
is_passed (D.conditional e) = false
is_passed D.group = false
is_passed (D.iterated v e bs) = false
is_passed (D.goto v) = false
is_passed (D.include ns) = true
is_passed (D.activate ns) = true
is_passed (D.deactivate ns) = true
is_passed (D.return e) = false

abbrev pub passed_kind : Statement → Bool
passed_kind S.Null = true
passed_kind S.Declare = true
passed_kind S.Procedure = true
passed_kind S.Assign = false
passed_kind S.Conditional = false
passed_kind S.Group = false
passed_kind S.Iterated = false
passed_kind S.Goto = false
passed_kind S.Include = true
passed_kind S.Activate = true
passed_kind S.Deactivate = true
passed_kind S.Return = false

kind_passed : (st : D.Statement) → passed_kind (kind_of st) ≡ is_passed st
kind_passed D.null = refl
kind_passed (D.declare ns) = refl
kind_passed (D.procedure ns v) = refl
kind_passed (D.assign v e) = refl
kind_passed (D.conditional e) = refl
kind_passed D.group = refl
kind_passed (D.iterated v e bs) = refl
kind_passed (D.goto v) = refl
kind_passed (D.include ns) = refl
kind_passed (D.activate ns) = refl
kind_passed (D.deactivate ns) = refl
kind_passed (D.return e) = refl

-- ---- small things of the definition
pub placed_same : {A : Type 0} (R : Res Why A) → placed (λ e. e) R ≡ R
placed_same (good a w) = refl
placed_same (bad e n) = refl

returned_as : (R : Res Why Val.Value) (u : ℕ) (t : ValueType) (k : F.Deed → World → Res Why F.Turn) → ((v : Val.Value) (w : World) → k (F.gave v) w ≡ good (F.ended (F.returned v)) w)
    → bind (bind R (λ v y. bind (put u (Val.convert t v) y) (λ c z. good (F.gave c) z))) k ≡ bind (wished_on u (Ev.as_type t) R) (λ v z. good (F.ended (F.returned v)) z)
unfolding wished_on
returned_as (good v y) u t k e = by (put u (Val.convert t v) y)
  where
    by : (R : Res Why Val.Value) → bind (bind R (λ c z. good (F.gave c) z)) k ≡ bind R (λ v z. good (F.ended (F.returned v)) z)
    by (good c z) = e c z
    by (bad f n) = refl
returned_as (bad f n) u t k e = refl

-- the variable of a group that started
pub record Controls (g : ℕ) (d : F.Frame) (w : World) : Type 0 where
  pub group : d.group ≡ g
  pub variable : get_or w.denotations d.at builtin_name ≡ variable_of FixedType

module _ {E : Type 0} (M : Machine E) (g : ℕ) (t : Tree) (bs : List D.Bound) (w : World) (st : F.Started) (v : World) where
  controls_as : (k : ValueType) (a : ℕ) → W.denotation a w ≡ variable_of k → F.start_as M k g a t bs w ≡ good st v → Controls g st.frame w
  controls_as CharacterType a e q = clash (cc)
  controls_as FixedType a e q =
      let o : Owns g a st.frame = start_own M g a t bs w st v q in
      record { group = o.group; variable = rw o.variable e }

  controls_in : (d : W.Denotation) (a : ℕ) → W.denotation a w ≡ d → F.start_in M d a g t bs w ≡ good st v → Controls g st.frame w
  controls_in (variable_of k) a e q = controls_as k a e q
  controls_in (entry_of x b) a e q = clash (cc)
  controls_in (label_at m r x) a e q = clash (cc)
  controls_in builtin_name a e q = clash (cc)

  pub controls : (y : W.Address) → F.start_at M y g t bs w ≡ good st v → Controls g st.frame w
  controls (W.address a) q = controls_in (W.denotation a w) a refl q
  controls W.unknown q = clash (cc)

-- a label that a name stands for locally
local_by : (d : W.Denotation) (q : F.Target) → local_target d ≡ Val.gives q → d ≡ label_at q.member q.row q.is_end
local_by (variable_of t) q e = clash (cc)
local_by (entry_of x b) q e = clash (cc)
local_by (label_at m r x) q e = let f : ◌≡◌ {A = F.Target} (record { member = m; row = r; is_end = x }) q = cc in ap (λ (i : F.Target). label_at i.member i.row i.is_end) f
local_by builtin_name q e = clash (cc)

global_no : {A : Type 0} (d : W.Denotation) (q : F.Target) → global_target d ≡ Val.gives q → A
global_no (variable_of t) q e = clash (cc)
global_no (entry_of x b) q e = clash (cc)
global_no (label_at m r x) q e = clash (cc)
global_no builtin_name q e = clash (cc)

out_no : {A : Type 0} (x : W.Address) (w : World) (q : F.Target) → out_target x w ≡ Val.gives q → A
out_no (W.address a) w q e = global_no (W.denotation a w) q e
out_no W.unknown w q e = clash (cc)

local_row : (P : ℕ → Type 0) (x : W.Address) (l : List ℕ) (w : World) (q : F.Target) → ((a : ℕ) → x ≡ W.address a → get_or w.denotations a builtin_name ≡ label_at q.member q.row q.is_end → P q.row) → target_for x l w ≡ Val.gives q → P q.row
local_row P (W.address a) l w q k e = k a refl (local_by (W.denotation a w) q e)
local_row P W.unknown l w q k e = out_no (W.address_of l W.everyone w) w q e

-- ---- a statement of the row n in the body of the procedure at p
module _ (deck s t rows names c l h w : List ℕ) (p : Place) (n : ℕ) (fs : Frames) (u : ℕ) (x : Scene) (m : Meter) where
  pub record Here (B : World) (G : List F.Frame) : Type 0 where
    pub shows : Shows deck rows names c l h w u x m B
    pub inside : InBody deck s t rows x p B
    pub at : AtRow (body_of x p u B) t B.denotations fs G n

  module _ (B : World) (G : List F.Frame) (k : Here B G) where
    abbrev machine : Machine Why
    machine = body_of x p u B

    abbrev lines : List D.Row
    lines = rows_of p.member B

    abbrev now : World
    now = world_in B c l h m.used

    shown : Fl.Shown t lines
    shown = rw k.inside.part (k.shows.rowed.shown p.member)

    linked : Linked lines
    linked = k.shows.rowed.linked p.member

    stated : Stated s (row_in t n).content (row_of lines n).statement
    unfolding body_machine
    stated = rw (k.inside.part, k.inside.body) (k.shows.rowed.stated p.member n k.at.within)

    kind_is : (row_in t n).statement ≡ kind_of (row_of lines n).statement
    unfolding body_machine
    kind_is = shown.tabled.kind n k.at.within

    owner_is : W.procedure_at p.member p.row ≡ owner_of x.owner
    owner_is = rw k.inside.owner

    serves : Serves machine x u
    unfolding body_machine value_of
    serves = record { owner = owner_is; waiting = refl; value = λ e v. ap (λ (i : W.Owner). evaluate (run_in x) i e u v) owner_is }

    -- ---- where control goes
    behind_good : (v : World) → F.behind machine G n v ≡ good (next_from (behind_on t fs (n + 1) n)) v
    unfolding body_machine
    behind_good v = behind_goes x p u B t shown linked fs G n k.at.within k.at.framed v

    behind_stands_here : AtNext machine t B.denotations fs G (behind_on t fs (n + 1) n)
    unfolding body_machine
    behind_stands_here = behind_at x p u B t shown linked fs G n k.at.within k.at.framed

    arrives : (y : Walk) (v : World) → AtWalk machine t B.denotations fs G y → walked y (λ g z. F.behind machine G g z) v ≡ good (next_from (arrived_at t fs y)) v
    unfolding body_machine
    arrives y v aw = arrived_as machine (quiet x p u B) t shown fs G y v (λ q e. behind_is machine (quiet x p u B) t shown fs G q v (aw.up q e).within (aw.up q e).framed)

    done_turns : (c' l' h' w' : List ℕ) (d : Done) (R : Res Why (Unit {0})) → done_in B c' l' h' d ≡ R → Leaves B u w c' l' h' w' (done_meter d)
        → TurnsTo machine t B u c' l' h' w' (bind R (λ _ v. F.onward machine G (F.behind machine G n v))) fs (after_done d (behind_on t fs (n + 1) n)) × Leaves B u w c' l' h' w' (step_meter (after_done d (behind_on t fs (n + 1) n)))
    unfolding body_machine
    done_turns c' l' h' w' (Ok m₁) R e lv = ((G, ap (λ (i : Res Why (Unit {0})). bind i (λ _ v. F.onward machine G (F.behind machine G n v))) (sym e) ∙ ap (F.onward machine G) (behind_good (world_in B c' l' h' m₁.used)), behind_stands_here), lv)
    done_turns c' l' h' w' (Err (f, m₁)) R e lv = (ap (λ (i : Res Why (Unit {0})). bind i (λ _ v. F.onward machine G (F.behind machine G n v))) (sym e), lv)

    -- ---- IF
    chosen_goes : (b : Bool) (v : World) → D.is_iterated (row_of lines n).statement ≡ false → F.chosen machine (F.alternative_of machine b n) G n v ≡ good (F.on (next_from (arrived_at t fs (chosen_walk t n b))) G) v
    unfolding body_machine
    chosen_goes b v i = chosen_is machine t shown fs G v n b k.at.within ∙ ap (F.onward machine G) (arrives (chosen_walk t n b) v (chosen_walk_stands machine t B.denotations fs G shown linked n b k.at.within k.at.framed i))

    test_turns : (c' l' h' w' : List ℕ) (y : Tested) (R : Res Why Bool) → tested_in B c' l' h' y ≡ R → D.is_iterated (row_of lines n).statement ≡ false → Leaves B u w c' l' h' w' (tested_meter y)
        → TurnsTo machine t B u c' l' h' w' (bind R (λ b v. F.chosen machine (F.alternative_of machine b n) G n v)) fs (after_test y (λ b. arrived_at t fs (chosen_walk t n b))) × Leaves B u w c' l' h' w' (step_meter (after_test y (λ b. arrived_at t fs (chosen_walk t n b))))
    unfolding body_machine
    test_turns c' l' h' w' (Ok (b, m₁)) R e i lv = (
      (
        G,
        ap (λ (j : Res Why Bool). bind j (λ b v. F.chosen machine (F.alternative_of machine b n) G n v)) (sym e) ∙ chosen_goes b (world_in B c' l' h' m₁.used) i,
        chosen_stands machine t B.denotations fs G shown linked n b k.at.within k.at.framed i,
      ),
      lv,
    )
    test_turns c' l' h' w' (Err (f, m₁)) R e i lv = (ap (λ (j : Res Why Bool). bind j (λ b v. F.chosen machine (F.alternative_of machine b n) G n v)) (sym e), lv)

    -- ---- DO
    plain : D.is_iterated (row_of lines n).statement ≡ false → D.is_iterated (row_of lines n).statement ≡ true → FrameOf B.denotations (frame_in t fs n) n G
    plain i j = clash (let q : true ≡ false = sym j ∙ i in cc)

    module _ (i : D.is_iterated (row_of lines n).statement ≡ true) (f : Frame) (d : F.Frame) (sh : FrameShown f d) (co : Controls n d B) where
      entered : Framed machine t B.denotations (frames_with t fs n f) (d ∷ G) n
      unfolding body_machine
      entered = framed_entered machine t shown B.denotations fs G n k.at.within i f d sh co.group co.variable k.at.framed

      own : D.is_iterated (row_of lines n).statement ≡ true → FrameOf B.denotations (frame_in t (frames_with t fs n f) n) n (d ∷ G)
      unfolding body_machine
      own j = having (has_entered machine t shown B.denotations fs G n k.at.within i f d sh co.group co.variable k.at.framed)

      enter_goes : (v : World) → F.into machine (d ∷ G) n v ≡ good (next_from (into_group t (frames_with t fs n f) n)) v
      unfolding body_machine
      enter_goes v = into_goes x p u B t shown linked (frames_with t fs n f) (d ∷ G) n k.at.within entered own v

      enter_at : AtNext machine t B.denotations (frames_with t fs n f) (d ∷ G) (into_group t (frames_with t fs n f) n)
      unfolding body_machine
      enter_at = into_at x p u B t shown linked (frames_with t fs n f) (d ∷ G) n k.at.within entered own

    abbrev starts : F.Started → World → Res Why F.Turn
    starts y v = when y.begins (λ _. F.onward machine (y.frame ∷ G) (F.into machine (y.frame ∷ G) n v)) (λ _. F.onward machine G (F.behind machine G n v))

    start_turns : (c' l' h' w' : List ℕ) (y : Started) (R : Res Why F.Started) → StartsAs B c' l' h' R y → ((d : F.Frame) (b : Bool) (v : World) → R ≡ good (record { frame = d; begins = b }) v → Controls n d B) → D.is_iterated (row_of lines n).statement ≡ true
        → Leaves B u w c' l' h' w' (started_meter y) → (r : Turned) → r ≡ after_start t fs n y
        → TurnsTo machine t B u c' l' h' w' (bind R starts) r.frames r.step × Leaves B u w c' l' h' w' (step_meter r.step)
    unfolding body_machine
    start_turns c' l' h' w' (Err (f, m₁)) R e co i lv r er = rw er (ap (λ (j : Res Why F.Started). bind j starts) e, lv)
    start_turns c' l' h' w' (Ok (f, true, m₁)) R e co i lv r er =
        let cc₁ : Controls n e.0 B = co e.0 true (world_in B c' l' h' m₁.used) e.2 in
        rw er ((e.0 ∷ G, ap (λ (j : Res Why F.Started). bind j starts) e.2 ∙ ap (F.onward machine (e.0 ∷ G)) (enter_goes i f e.0 e.1 cc₁ (world_in B c' l' h' m₁.used)), enter_at i f e.0 e.1 cc₁), lv)
    start_turns c' l' h' w' (Ok (f, false, m₁)) R e co i lv r er =
        rw er ((G, ap (λ (j : Res Why F.Started). bind j starts) e.2 ∙ ap (F.onward machine G) (behind_good (world_in B c' l' h' m₁.used)), behind_stands_here), lv)

    -- ---- GOTO
    module _ (a : Label) (within : a.place.row < length lines) where
      abbrev to : ℕ
      to = a.place.row

      lands : (b : Bool) → (v : World) → AtWalk machine t B.denotations fs G (landing_walk t fs to b) → F.may_go lines n to b ≡ true → F.follow machine (cond b (F.to_end to) (F.to_row to)) G v ≡ good (F.on (next_from (arrived_at t fs (landing_walk t fs to b))) G) v
      unfolding body_machine
      lands true v aw g = landing_end_is machine t shown fs G v to within (λ i. once_of (end_own machine t shown fs G n to k.at.within within k.at.framed g i)) ∙ ap (F.onward machine G) (arrives (landing_walk t fs to true) v aw)
      lands false v aw g = landing_row_is machine t shown fs G v to ∙ ap (F.onward machine G) (arrives (landing_walk t fs to false) v aw)

      goes_by : (b : Bool) → may_go_on t n 2048 (label_from t to a.is_end) ≡ b
          → TurnsTo machine t B u c l h w (bind (Calls.jump_to lines n to a.is_end now) (λ j v. F.follow machine j G v)) fs
          (cond b (Ok (St.On (arrived_at t fs (landing_walk t fs to a.is_end)) m)) (Err (WrongGoto, m)))
      unfolding body_machine
      goes_by true e =
          let g : F.may_go lines n to a.is_end ≡ true = may_go_is t lines shown n k.at.within (k.shows.rowed.few p.member) to a.is_end within ∙ e in
          let aw : AtWalk machine t B.denotations fs G (landing_walk t fs to a.is_end) = landing_code_stands machine t B.denotations fs G shown linked n to a.is_end (k.shows.rowed.few p.member) k.at.within within k.at.framed e in
          (G, rw g (lands a.is_end now aw g), arrived_stands machine t B.denotations fs G shown linked (landing_walk t fs to a.is_end) aw)
      goes_by false e =
          let g : F.may_go lines n to a.is_end ≡ false = may_go_is t lines shown n k.at.within (k.shows.rowed.few p.member) to a.is_end within ∙ e in
          rw g

      goes_there : TurnsTo machine t B u c l h w (bind (Calls.jump_to lines n to a.is_end now) (λ j v. F.follow machine j G v)) fs (after_jump t fs n (Ok a) m)
      unfolding body_machine
      goes_there = by (may_go_on t n 2048 (label_from t to a.is_end)) refl
        where
          by : (b : Bool) → may_go_on t n 2048 (label_from t to a.is_end) ≡ b
              → TurnsTo machine t B u c l h w (bind (Calls.jump_to lines n to a.is_end now) (λ j v. F.follow machine j G v)) fs
              (cond b (Ok (St.On (arrived_at t fs (landing_walk t fs to a.is_end)) m)) (Err (WrongGoto, m)))
          by b e = goes_by b e

    jump_turns : (v : List ℕ) (j : Result Label Why) → jump_for j ≡ target_in deck names x.names (owner_of x.owner) v
        → TurnsTo machine t B u c l h w (bind (Calls.jump_in (W.address_of v (W.procedure_at p.member p.row) now) v lines n now) (λ i z. F.follow machine i G z)) fs (after_jump t fs n j m)
    unfolding body_machine
    jump_turns v j e = by j e
      where
        there : target_for (W.address_of v (W.procedure_at p.member p.row) now) v now ≡ target_in deck names x.names (owner_of x.owner) v
        there = rw owner_is (target_there deck names x.names now k.shows.named.identifiers k.shows.named.denotations (owner_of x.owner) v)

        goes : (i : Result Label Why) → jump_for i ≡ target_in deck names x.names (owner_of x.owner) v → Calls.jump_in (W.address_of v (W.procedure_at p.member p.row) now) v lines n now ≡ jump_by (jump_for i) lines n now
        goes i f = jump_is (W.address_of v (W.procedure_at p.member p.row) now) v lines n now ∙ ap (λ (q : Val.Answer F.Target). jump_by q lines n now) (there ∙ sym f)

        by : (i : Result Label Why) → jump_for i ≡ target_in deck names x.names (owner_of x.owner) v
            → TurnsTo machine t B u c l h w (bind (Calls.jump_in (W.address_of v (W.procedure_at p.member p.row) now) v lines n now) (λ i z. F.follow machine i G z)) fs (after_jump t fs n i m)
        by (Err f) q = ap (λ (o : Res Why F.Jump). bind o (λ i z. F.follow machine i G z)) (goes (Err f) q)
        by (Ok a) q =
            let within : a.place.row < length lines = local_row (λ r. r < length lines) (W.address_of v (W.procedure_at p.member p.row) now) v now (record { member = a.place.member; row = a.place.row; is_end = a.is_end })
            (λ b y z. k.shows.rowed.labels v p.member p.row b a.place.member a.place.row a.is_end y z) (there ∙ sym q) in
            subst (λ (o : Res Why F.Jump). TurnsTo machine t B u c l h w (bind o (λ i z. F.follow machine i G z)) fs (after_jump t fs n (Ok a) m)) (sym (goes (Ok a) q)) (goes_there a within)

    -- ---- RETURN
    type_is : (row_in t p.row).value_type ≡ Calls.type_of (row_of lines p.row).statement
    unfolding body_machine
    type_is = rw k.inside.procedure.is (shown.tabled.typed p.row k.inside.procedure.names k.inside.procedure.type k.inside.procedure.within k.inside.procedure.is)

    return_turns : (c₁ l₁ h₁ w₁ : List ℕ) → length w₁ ≡ length w → (b : Evaluated) (e : Tree) (q : ℕ) → Gave B u w c₁ l₁ h₁ w₁ b q (value_of x e u now) → (w₂ : List ℕ) (r : Turned) → ReturnIs w₁ u fs (row_in t p.row).value_type b w₂ r
        → TurnsTo machine t B u c₁ l₁ h₁ w₂ (bind (wished_on u (Ev.as_type (row_in t p.row).value_type) (value_of x e u now)) (λ v z. good (F.ended (F.returned v)) z)) r.frames r.step × Leaves B u w c₁ l₁ h₁ w₂ (step_meter r.step)
    unfolding body_machine
    return_turns c₁ l₁ h₁ w₁ z₁ b e q gv w₂ r ri = rw ri.step (by ri.answer (ri.is.is (omega (arith, z₁, k.shows.work)) gv.fits))
      where
        by : (a : Evaluated) → Turns w₁ u u b (wished_on u (Ev.as_type (row_in t p.row).value_type)) w₂ a
            → TurnsTo machine t B u c₁ l₁ h₁ w₂ (bind (wished_on u (Ev.as_type (row_in t p.row).value_type) (value_of x e u now)) (λ v z. good (F.ended (F.returned v)) z)) r.frames (step_of a) × Leaves B u w c₁ l₁ h₁ w₂ (step_meter (step_of a))
        by (Ok (v, o, m₁)) tu =
            let R : good (value_in w₂ u v) (world_in B c₁ l₁ h₁ m₁.used) ≡ wished_on u (Ev.as_type (row_in t p.row).value_type) (value_of x e u now) = tu.is B c₁ l₁ h₁ ∙ ap (wished_on u (Ev.as_type (row_in t p.row).value_type)) gv.is in
            ((ap (λ (i : Res Why Val.Value). bind i (λ v z. good (F.ended (F.returned v)) z)) (sym R), tu.fits), record { below = tu.below ∙ gv.below; limit = tu.limit ∙ gv.limit; slots = gv.slots })
        by (Err (f, m₁)) tu =
            let R : bad f m₁.used ≡ wished_on u (Ev.as_type (row_in t p.row).value_type) (value_of x e u now) = tu.is B c₁ l₁ h₁ ∙ ap (wished_on u (Ev.as_type (row_in t p.row).value_type)) gv.is in
            (ap (λ (i : Res Why Val.Value). bind i (λ v z. good (F.ended (F.returned v)) z)) (sym R), record { below = tu.below ∙ gv.below; limit = tu.limit ∙ gv.limit; slots = gv.slots })

  -- ---- THE WAYS OUT of the match on the row's statement
  stays_here : (B : World) (G : List F.Frame) → Here B G → Leaves B u w c l h w m
  stays_here B G k = record { below = refl; limit = k.shows.limit; slots = k.shows.slots }

  abbrev Turning : List ℕ → List ℕ → List ℕ → List ℕ → Turned → World → List F.Frame → D.Statement → Type 0
  Turning c' l' h' w' r B G st = TurnsTo (body_of x p u B) t B u c' l' h' w' (F.statement (body_of x p u B) st G n (world_in B c l h m.used)) r.frames r.step × Leaves B u w c' l' h' w' (step_meter r.step)

  statement_by : (c' l' h' w' : List ℕ) (r : Turned) → ((B : World) (G : List F.Frame) (k : Here B G) → Turning c' l' h' w' r B G (row_of (rows_of p.member B) n).statement) → StatementIs deck s t rows names c l h w p n fs u x m c' l' h' w' r
  statement_by c' l' h' w' r f = record { is = λ B sh ib G at. f B G (record { shows = sh; inside = ib; at = at }) }

  -- passed
  passed_is : (B : World) (G : List F.Frame) (st : D.Statement) → (row_of (rows_of p.member B) n).statement ≡ st → is_passed st ≡ true → (v : World) → F.statement (body_of x p u B) st G n v ≡ F.onward (body_of x p u B) G (F.behind (body_of x p u B) G n v)
  unfolding F.statement body_machine
  passed_is B G D.null q e v = refl
  passed_is B G (D.declare ns) q e v = rw q
  passed_is B G (D.procedure ns t₁) q e v = refl
  passed_is B G (D.assign a b) q e v = clash (cc)
  passed_is B G (D.conditional a) q e v = clash (cc)
  passed_is B G D.group q e v = clash (cc)
  passed_is B G (D.iterated a b bs) q e v = clash (cc)
  passed_is B G (D.goto a) q e v = clash (cc)
  passed_is B G (D.include ns) q e v = rw q
  passed_is B G (D.activate ns) q e v = rw q
  passed_is B G (D.deactivate ns) q e v = rw q
  passed_is B G (D.return a) q e v = clash (cc)

  statement_passed : passed_kind (row_in t n).statement ≡ true → (r : Turned) → r ≡ turned_by fs (after_done (Ok m) (behind_on t fs (n + 1) n)) → StatementIs deck s t rows names c l h w p n fs u x m c l h w r
  unfolding body_machine
  statement_passed e r er = rw er (statement_by c l h w (turned_by fs (after_done (Ok m) (behind_on t fs (n + 1) n))) (λ B G k.
      let i : is_passed (row_of (rows_of p.member B) n).statement ≡ true = sym (kind_passed (row_of (rows_of p.member B) n).statement) ∙ ap passed_kind (sym (kind_is B G k)) ∙ e in
      let D₁ : TurnsTo (body_of x p u B) t B u c l h w (F.onward (body_of x p u B) G (F.behind (body_of x p u B) G n (world_in B c l h m.used))) fs (Ok (St.On (behind_on t fs (n + 1) n) m)) × Leaves B u w c l h w m = done_turns B G k c l h w (Ok m) (good tt (world_in B c l h m.used)) refl (stays_here B G k) in
      rw (passed_is B G (row_of (rows_of p.member B) n).statement refl i (world_in B c l h m.used)) D₁))

  -- those that evaluate
  statement_assign : (row_in t n).statement ≡ S.Assign → (c' l' h' w' : List ℕ) (d : Done) → AssignIs deck s rows names c l h w (row_in t n).content u x m c' l' h' w' d → (r : Turned) → r ≡ turned_by fs (after_done d (behind_on t fs (n + 1) n))
      → StatementIs deck s t rows names c l h w p n fs u x m c' l' h' w' r
  unfolding F.statement body_machine
  statement_assign e c' l' h' w' d ai r er = rw er (statement_by c' l' h' w' (turned_by fs (after_done d (behind_on t fs (n + 1) n))) (λ B G k. of B G k (row_of (rows_of p.member B) n).statement (stated B G k) (sym (kind_is B G k) ∙ e)))
    where
      assigned : (B : World) (G : List F.Frame) (k : Here B G) (v : List ℕ) (a : Tree) → Stated s (row_in t n).content (D.assign v a) → Turning c' l' h' w' (turned_by fs (after_done d (behind_on t fs (n + 1) n))) B G (D.assign v a)
      assigned B G k v a st =
          let A : (done_in B c' l' h' d ≡ F.assigned (scene_machine x u) v a (world_in B c l h m.used)) × Leaves B u w c' l' h' w' (done_meter d) = ai.is B k.shows v a st in
          done_turns B G k c' l' h' w' d (placed (λ i. i) (F.assigned (body_of x p u B) v a (world_in B c l h m.used))) (A.0 ∙ sym (assigned_same (body_of x p u B) x u (serves B G k) v a (world_in B c l h m.used)) ∙ sym (placed_same (F.assigned (body_of x p u B) v a (world_in B c l h m.used)))) A.1

      of : (B : World) (G : List F.Frame) (k : Here B G) (st : D.Statement) → Stated s (row_in t n).content st → kind_of st ≡ S.Assign → Turning c' l' h' w' (turned_by fs (after_done d (behind_on t fs (n + 1) n))) B G st
      of B G k D.null st i = clash (cc)
      of B G k (D.declare ns) st i = clash (cc)
      of B G k (D.procedure ns v) st i = clash (cc)
      of B G k (D.assign v e) st i = assigned B G k v e st
      of B G k (D.conditional e) st i = clash (cc)
      of B G k D.group st i = clash (cc)
      of B G k (D.iterated v e bs) st i = clash (cc)
      of B G k (D.goto v) st i = clash (cc)
      of B G k (D.include ns) st i = clash (cc)
      of B G k (D.activate ns) st i = clash (cc)
      of B G k (D.deactivate ns) st i = clash (cc)
      of B G k (D.return e) st i = clash (cc)

  statement_test : (row_in t n).statement ≡ S.Conditional → (c' l' h' w' : List ℕ) (y : Tested) → TestIs deck s rows names c l h w (row_in t n).content u x m c' l' h' w' y → (r : Turned) → r ≡ turned_by fs (after_test y (λ b. arrived_at t fs (chosen_walk t n b)))
      → StatementIs deck s t rows names c l h w p n fs u x m c' l' h' w' r
  unfolding F.statement D.is_iterated body_machine
  statement_test e c' l' h' w' y ti r er = rw er (statement_by c' l' h' w' (turned_by fs (after_test y (λ b. arrived_at t fs (chosen_walk t n b)))) (λ B G k. of B G k (row_of (rows_of p.member B) n).statement refl (stated B G k) (sym (kind_is B G k) ∙ e)))
    where
      tested : (B : World) (G : List F.Frame) (k : Here B G) (a : Tree) → (row_of (rows_of p.member B) n).statement ≡ D.conditional a → Stated s (row_in t n).content (D.conditional a) → Turning c' l' h' w' (turned_by fs (after_test y (λ b. arrived_at t fs (chosen_walk t n b)))) B G (D.conditional a)
      tested B G k a q st =
          let A : (tested_in B c' l' h' y ≡ F.truth (scene_machine x u) a (world_in B c l h m.used)) × Leaves B u w c' l' h' w' (tested_meter y) = ti.is B k.shows a st in
          test_turns B G k c' l' h' w' y (placed (λ i. i) (F.truth (body_of x p u B) a (world_in B c l h m.used))) (A.0 ∙ sym (truth_same (body_of x p u B) x u (serves B G k) a (world_in B c l h m.used)) ∙ sym (placed_same (F.truth (body_of x p u B) a (world_in B c l h m.used)))) (rw q) A.1

      of : (B : World) (G : List F.Frame) (k : Here B G) (st : D.Statement) → (row_of (rows_of p.member B) n).statement ≡ st → Stated s (row_in t n).content st → kind_of st ≡ S.Conditional → Turning c' l' h' w' (turned_by fs (after_test y (λ b. arrived_at t fs (chosen_walk t n b)))) B G st
      of B G k D.null q st i = clash (cc)
      of B G k (D.declare ns) q st i = clash (cc)
      of B G k (D.procedure ns v) q st i = clash (cc)
      of B G k (D.assign v e) q st i = clash (cc)
      of B G k (D.conditional e) q st i = tested B G k e q st
      of B G k D.group q st i = clash (cc)
      of B G k (D.iterated v e bs) q st i = clash (cc)
      of B G k (D.goto v) q st i = clash (cc)
      of B G k (D.include ns) q st i = clash (cc)
      of B G k (D.activate ns) q st i = clash (cc)
      of B G k (D.deactivate ns) q st i = clash (cc)
      of B G k (D.return e) q st i = clash (cc)

  controls_here : (B : World) (d : F.Frame) → Controls n d (world_in B c l h m.used) → Controls n d B
  controls_here B d co = record { group = co.group; variable = co.variable }

  statement_start : (row_in t n).statement ≡ S.Iterated → (c' l' h' w' : List ℕ) (y : Started) → StartIs deck s rows names c l h w n (row_in t n).content u x m c' l' h' w' y → (r : Turned) → r ≡ after_start t fs n y
      → StatementIs deck s t rows names c l h w p n fs u x m c' l' h' w' r
  unfolding F.statement D.is_iterated body_machine
  statement_start e c' l' h' w' y si r er = statement_by c' l' h' w' r (λ B G k. of B G k (row_of (rows_of p.member B) n).statement refl (stated B G k) (sym (kind_is B G k) ∙ e))
    where
      begun : (B : World) (G : List F.Frame) (k : Here B G) (v : List ℕ) (a : Tree) (bs : List D.Bound) → (row_of (rows_of p.member B) n).statement ≡ D.iterated v a bs → Stated s (row_in t n).content (D.iterated v a bs) → Turning c' l' h' w' r B G (D.iterated v a bs)
      begun B G k v a bs q st =
          let W₁ : World = world_in B c l h m.used in
          let A : StartsAs B c' l' h' (F.start_at (scene_machine x u) (seen_from (owner_of x.owner) v W₁) n a bs W₁) y × Leaves B u w c' l' h' w' (started_meter y) = si.is B k.shows v a bs st in
          let R : F.start_at (scene_machine x u) (seen_from (owner_of x.owner) v W₁) n a bs W₁ ≡ placed (λ i. i) (F.start_at (body_of x p u B) (seen_from (W.procedure_at p.member p.row) v W₁) n a bs W₁) =
          sym (placed_same (F.start_at (body_of x p u B) (seen_from (W.procedure_at p.member p.row) v W₁) n a bs W₁) ∙ start_same (body_of x p u B) x u (serves B G k) (seen_from (W.procedure_at p.member p.row) v W₁) n a bs W₁
          ∙ ap (λ (i : W.Owner). F.start_at (scene_machine x u) (seen_from i v W₁) n a bs W₁) (owner_is B G k)) in
          start_turns B G k c' l' h' w' y (placed (λ i. i) (F.start_at (body_of x p u B) (seen_from (W.procedure_at p.member p.row) v W₁) n a bs W₁))
          (subst (λ (i : Res Why F.Started). StartsAs B c' l' h' i y) R A.0)
          (λ d b z g. controls_here B d (controls (scene_machine x u) n a bs W₁ (record { frame = d; begins = b }) z (seen_from (owner_of x.owner) v W₁) (R ∙ g)))
          (rw q) A.1 r er

      of : (B : World) (G : List F.Frame) (k : Here B G) (st : D.Statement) → (row_of (rows_of p.member B) n).statement ≡ st → Stated s (row_in t n).content st → kind_of st ≡ S.Iterated → Turning c' l' h' w' r B G st
      of B G k D.null q st i = clash (cc)
      of B G k (D.declare ns) q st i = clash (cc)
      of B G k (D.procedure ns v) q st i = clash (cc)
      of B G k (D.assign v e) q st i = clash (cc)
      of B G k (D.conditional e) q st i = clash (cc)
      of B G k D.group q st i = clash (cc)
      of B G k (D.iterated v e bs) q st i = begun B G k v e bs q st
      of B G k (D.goto v) q st i = clash (cc)
      of B G k (D.include ns) q st i = clash (cc)
      of B G k (D.activate ns) q st i = clash (cc)
      of B G k (D.deactivate ns) q st i = clash (cc)
      of B G k (D.return e) q st i = clash (cc)

  statement_group : (row_in t n).statement ≡ S.Group → (y : Next) → y ≡ into_group t fs n → (r : Turned) → r ≡ turned_by fs (Ok (St.On y m)) → StatementIs deck s t rows names c l h w p n fs u x m c l h w r
  unfolding F.statement D.is_iterated body_machine
  statement_group e y ey r er = rw (er, ey) (statement_by c l h w (turned_by fs (Ok (St.On (into_group t fs n) m))) (λ B G k. of B G k (row_of (rows_of p.member B) n).statement refl (sym (kind_is B G k) ∙ e)))
    where
      grouped : (B : World) (G : List F.Frame) (k : Here B G) → (row_of (rows_of p.member B) n).statement ≡ D.group → Turning c l h w (turned_by fs (Ok (St.On (into_group t fs n) m))) B G D.group
      grouped B G k q = ((G, ap (F.onward (body_of x p u B) G) (into_goes x p u B t (shown B G k) (linked B G k) fs G n k.at.within k.at.framed (plain B G k (rw q)) (world_in B c l h m.used)), into_at x p u B t (shown B G k) (linked B G k) fs G n k.at.within k.at.framed (plain B G k (rw q))), stays_here B G k)

      of : (B : World) (G : List F.Frame) (k : Here B G) (st : D.Statement) → (row_of (rows_of p.member B) n).statement ≡ st → kind_of st ≡ S.Group → Turning c l h w (turned_by fs (Ok (St.On (into_group t fs n) m))) B G st
      of B G k D.null q i = clash (cc)
      of B G k (D.declare ns) q i = clash (cc)
      of B G k (D.procedure ns v) q i = clash (cc)
      of B G k (D.assign v e) q i = clash (cc)
      of B G k (D.conditional e) q i = clash (cc)
      of B G k D.group q i = grouped B G k q
      of B G k (D.iterated v e bs) q i = clash (cc)
      of B G k (D.goto v) q i = clash (cc)
      of B G k (D.include ns) q i = clash (cc)
      of B G k (D.activate ns) q i = clash (cc)
      of B G k (D.deactivate ns) q i = clash (cc)
      of B G k (D.return e) q i = clash (cc)

  statement_goto : (row_in t n).statement ≡ S.Goto → (r : Turned) → JumpsIn deck s t names fs n x m r → StatementIs deck s t rows names c l h w p n fs u x m c l h w r
  unfolding F.statement body_machine
  statement_goto e r ji = rw ji.turned (statement_by c l h w (turned_by fs (after_jump t fs n ji.jump m)) (λ B G k. of B G k (row_of (rows_of p.member B) n).statement (stated B G k) (sym (kind_is B G k) ∙ e)))
    where
      left_as : (B : World) (G : List F.Frame) → Here B G → (j : Result Label Why) → Leaves B u w c l h w (step_meter (after_jump t fs n j m))
      left_as B G k (Err f) = stays_here B G k
      left_as B G k (Ok a) = by (may_go_on t n 2048 (label_from t a.place.row a.is_end))
        where
          by : (b : Bool) → Leaves B u w c l h w (step_meter (cond b (Ok (St.On (arrived_at t fs (landing_walk t fs a.place.row a.is_end)) m)) (Err (WrongGoto, m))))
          by true = stays_here B G k
          by false = stays_here B G k

      gone : (B : World) (G : List F.Frame) (k : Here B G) (v : List ℕ) → Stated s (row_in t n).content (D.goto v) → Turning c l h w (turned_by fs (after_jump t fs n ji.jump m)) B G (D.goto v)
      gone B G k v st =
          let nm : spelled_at s (row_in t n).content ≡ v = sym (name_is s (row_in t n).content st.0 st.1).spelling ∙ st.2 in
          (jump_turns B G k v ji.jump (ji.is ∙ ap (target_in deck names x.names (owner_of x.owner)) nm), left_as B G k ji.jump)

      of : (B : World) (G : List F.Frame) (k : Here B G) (st : D.Statement) → Stated s (row_in t n).content st → kind_of st ≡ S.Goto → Turning c l h w (turned_by fs (after_jump t fs n ji.jump m)) B G st
      of B G k D.null st i = clash (cc)
      of B G k (D.declare ns) st i = clash (cc)
      of B G k (D.procedure ns v) st i = clash (cc)
      of B G k (D.assign v e) st i = clash (cc)
      of B G k (D.conditional e) st i = clash (cc)
      of B G k D.group st i = clash (cc)
      of B G k (D.iterated v e bs) st i = clash (cc)
      of B G k (D.goto v) st i = gone B G k v st
      of B G k (D.include ns) st i = clash (cc)
      of B G k (D.activate ns) st i = clash (cc)
      of B G k (D.deactivate ns) st i = clash (cc)
      of B G k (D.return e) st i = clash (cc)

  act_is : (B : World) (G : List F.Frame) (a : Tree) → (row_of (rows_of p.member B) n).statement ≡ D.return a → (v : World) → F.statement (body_of x p u B) (D.return a) G n v
      ≡ bind (bind ((body_of x p u B).value a v) (λ y z. bind (put u (Val.convert (Calls.type_of (row_of (rows_of p.member B) p.row).statement) y) z) (λ c i. good (F.gave c) i))) (λ d i. F.done (body_of x p u B) d G n i)
  unfolding F.statement body_machine
  act_is B G a q v = rw q

  statement_return : (row_in t n).statement ≡ S.Return → (o : Lexeme) → Lexed s (row_in t n).content o → (c₁ l₁ h₁ w₁ : List ℕ) → length w₁ ≡ length w → (b : Evaluated) → Evaluates deck rows names c l h w u x m c₁ l₁ h₁ w₁ b (whole_expression mixed s o.to)
      → (w₂ : List ℕ) (r : Turned) → ReturnIs w₁ u fs (row_in t p.row).value_type b w₂ r → StatementIs deck s t rows names c l h w p n fs u x m c₁ l₁ h₁ w₂ r
  unfolding F.statement body_machine
  statement_return e o lo c₁ l₁ h₁ w₁ z₁ b ev w₂ r ri = statement_by c₁ l₁ h₁ w₂ r (λ B G k. of B G k (row_of (rows_of p.member B) n).statement refl (stated B G k) (sym (kind_is B G k) ∙ e))
    where
      returned : (B : World) (G : List F.Frame) (k : Here B G) (a : Tree) → (row_of (rows_of p.member B) n).statement ≡ D.return a → Stated s (row_in t n).content (D.return a) → Turning c₁ l₁ h₁ w₂ r B G (D.return a)
      returned B G k a q st =
          let W₁ : World = world_in B c l h m.used in
          let oq : o.to ≡ st.0 = lo.to ∙ sym (expect_is "(" s (row_in t n).content st.0 st.2) in
          let gv : Gave B u w c₁ l₁ h₁ w₁ b st.1 (value_of x a u W₁) = ev.is B k.shows a st.1 (ap (whole_expression mixed s) oq ∙ st.3) in
          let T₁ : ValueType = (row_in t p.row).value_type in
          let V₁ : (body_of x p u B).value a W₁ ≡ value_of x a u W₁ = (serves B G k).value a W₁ in
          let R : F.statement (body_of x p u B) (D.return a) G n W₁ ≡ bind (wished_on u (Ev.as_type T₁) (value_of x a u W₁)) (λ v z. good (F.ended (F.returned v)) z) =
          act_is B G a q W₁
          ∙ ap (λ (i : ValueType). bind (bind ((body_of x p u B).value a W₁) (λ v y. bind (put u (Val.convert i v) y) (λ c z. good (F.gave c) z))) (λ d v. F.done (body_of x p u B) d G n v)) (sym (type_is B G k))
          ∙ returned_as ((body_of x p u B).value a W₁) u T₁ (λ d v. F.done (body_of x p u B) d G n v) (λ v z. refl)
          ∙ ap (λ (i : Res Why Val.Value). bind (wished_on u (Ev.as_type T₁) i) (λ v z. good (F.ended (F.returned v)) z)) V₁ in
          let K : TurnsTo (body_of x p u B) t B u c₁ l₁ h₁ w₂ (bind (wished_on u (Ev.as_type T₁) (value_of x a u W₁)) (λ v z. good (F.ended (F.returned v)) z)) r.frames r.step × Leaves B u w c₁ l₁ h₁ w₂ (step_meter r.step) = return_turns B G k c₁ l₁ h₁ w₁ z₁ b a st.1 gv w₂ r ri in
          (subst (λ (i : Res Why F.Turn). TurnsTo (body_of x p u B) t B u c₁ l₁ h₁ w₂ i r.frames r.step) (sym R) K.0, K.1)

      of : (B : World) (G : List F.Frame) (k : Here B G) (st : D.Statement) → (row_of (rows_of p.member B) n).statement ≡ st → Stated s (row_in t n).content st → kind_of st ≡ S.Return → Turning c₁ l₁ h₁ w₂ r B G st
      of B G k D.null q st i = clash (cc)
      of B G k (D.declare ns) q st i = clash (cc)
      of B G k (D.procedure ns v) q st i = clash (cc)
      of B G k (D.assign v e) q st i = clash (cc)
      of B G k (D.conditional e) q st i = clash (cc)
      of B G k D.group q st i = clash (cc)
      of B G k (D.iterated v e bs) q st i = clash (cc)
      of B G k (D.goto v) q st i = clash (cc)
      of B G k (D.include ns) q st i = clash (cc)
      of B G k (D.activate ns) q st i = clash (cc)
      of B G k (D.deactivate ns) q st i = clash (cc)
      of B G k (D.return e) q st i = returned B G k e q st

  -- ---- the same by the row that was read from the table
  module _ (q : Row) (eq : q ≡ row_in t n) where
    kind_of_lem : (k : Statement) → q.statement ≡ k → (row_in t n).statement ≡ k
    kind_of_lem k e = ap (λ (i : Row). i.statement) (sym eq) ∙ e

    row_passed : (k : Statement) → q.statement ≡ k → passed_kind k ≡ true → (r : Turned) → r ≡ turned_by fs (after_done (Ok m) (behind_on t fs (n + 1) n)) → StatementIs deck s t rows names c l h w p n fs u x m c l h w r
    row_passed k e f = statement_passed (rw (kind_of_lem k e) f)

    pub row_other : (q.statement ≡ S.Null) ⊎ ((q.statement ≡ S.Declare) ⊎ ((q.statement ≡ S.Procedure) ⊎ ((q.statement ≡ S.Include) ⊎ ((q.statement ≡ S.Activate) ⊎ (q.statement ≡ S.Deactivate))))) → (r : Turned)
        → r ≡ turned_by fs (after_done (Ok m) (behind_on t fs (n + 1) n)) → StatementIs deck s t rows names c l h w p n fs u x m c l h w r
    row_other (inl e) = row_passed S.Null e refl
    row_other (inr (inl e)) = row_passed S.Declare e refl
    row_other (inr (inr (inl e))) = row_passed S.Procedure e refl
    row_other (inr (inr (inr (inl e)))) = row_passed S.Include e refl
    row_other (inr (inr (inr (inr (inl e))))) = row_passed S.Activate e refl
    row_other (inr (inr (inr (inr (inr e))))) = row_passed S.Deactivate e refl

    pub row_assign : q.statement ≡ S.Assign → (c' l' h' w' : List ℕ) (d : Done) → AssignIs deck s rows names c l h w q.content u x m c' l' h' w' d → (r : Turned) → r ≡ turned_by fs (after_done d (behind_on t fs (n + 1) n))
        → StatementIs deck s t rows names c l h w p n fs u x m c' l' h' w' r
    row_assign e c' l' h' w' d ai = statement_assign (kind_of_lem S.Assign e) c' l' h' w' d (subst (λ (i : Row). AssignIs deck s rows names c l h w i.content u x m c' l' h' w' d) eq ai)

    pub row_test : q.statement ≡ S.Conditional → (c' l' h' w' : List ℕ) (y : Tested) → TestIs deck s rows names c l h w q.content u x m c' l' h' w' y → (r : Turned) → r ≡ turned_by fs (after_test y (λ b. arrived_at t fs (chosen_walk t n b)))
        → StatementIs deck s t rows names c l h w p n fs u x m c' l' h' w' r
    row_test e c' l' h' w' y ti = statement_test (kind_of_lem S.Conditional e) c' l' h' w' y (subst (λ (i : Row). TestIs deck s rows names c l h w i.content u x m c' l' h' w' y) eq ti)

    pub row_start : q.statement ≡ S.Iterated → (c' l' h' w' : List ℕ) (y : Started) → StartIs deck s rows names c l h w n q.content u x m c' l' h' w' y → (r : Turned) → r ≡ after_start t fs n y
        → StatementIs deck s t rows names c l h w p n fs u x m c' l' h' w' r
    row_start e c' l' h' w' y si = statement_start (kind_of_lem S.Iterated e) c' l' h' w' y (subst (λ (i : Row). StartIs deck s rows names c l h w n i.content u x m c' l' h' w' y) eq si)

    pub row_group : q.statement ≡ S.Group → (y : Next) → y ≡ into_group t fs n → (r : Turned) → r ≡ turned_by fs (Ok (St.On y m)) → StatementIs deck s t rows names c l h w p n fs u x m c l h w r
    row_group e = statement_group (kind_of_lem S.Group e)

    pub row_goto : q.statement ≡ S.Goto → (r : Turned) → JumpsIn deck s t names fs n x m r → StatementIs deck s t rows names c l h w p n fs u x m c l h w r
    row_goto e = statement_goto (kind_of_lem S.Goto e)

    pub row_return : q.statement ≡ S.Return → (o : Lexeme) → Lexed s q.content o → (c₁ l₁ h₁ w₁ : List ℕ) → length w₁ ≡ length w → (b : Evaluated) → Evaluates deck rows names c l h w u x m c₁ l₁ h₁ w₁ b (whole_expression mixed s o.to)
        → (v : Row) → v ≡ row_in t p.row → (w₂ : List ℕ) (r : Turned) → ReturnIs w₁ u fs v.value_type b w₂ r → StatementIs deck s t rows names c l h w p n fs u x m c₁ l₁ h₁ w₂ r
    row_return e o lo c₁ l₁ h₁ w₁ z₁ b ev v ev₂ w₂ r ri = statement_return (kind_of_lem S.Return e) o (subst (λ (i : Row). Lexed s i.content o) eq lo) c₁ l₁ h₁ w₁ z₁ b ev w₂ r (subst (λ (i : Row). ReturnIs w₁ u fs i.value_type b w₂ r) ev₂ ri)
