-- The statements of a member that evaluate, groups, and what does nothing: each leads where the definition's does.
-- Assumes nothing.
use Rattle.texts.specs.declared.Stop.{Stop}
use Rattle.std.proofs.Common.{Ok, Err, Result}
use Rattle.bodies.specs.Types.{Done, Tested, Started}
use mathlib.Core.Path.{◌≡◌, refl, sym, ap, subst, ◌∙◌}
use mathlib.Core.Bool.{Bool, true, false}
use mathlib.Core.Logic.{◌⊎◌, inl, inr}
use mathlib.Core.List.{List}
use Prim.Native.Nat.{ℕ, ◌<◌}
use native.Mathlib.Omega.{arith}
use lib.ListN.{length}
use Rattle.definition.specs.Bytes.{mixed}
use Rattle.definition.specs.Expressions.{Tree}
use Rattle.definition.specs.Deck.{Sought}
use Rattle.definition.specs.Program as D
use Rattle.definition.specs.World as W
use Rattle.definition.specs.World.{World, Res, good, bad, bind, seen_from, row_of, rows_of}
use Rattle.definition.specs.Evaluate.{Call, evaluate}
use Rattle.definition.specs.Flow as F
use Rattle.definition.specs.Run as Run
use Rattle.definition.specs.Run.{member_machine}
use Rattle.definition.specs.declared.Why.{Why}
use Rattle.definition.specs.declared.ValueType.{ValueType}
use Rattle.meter.specs.declared.Meter.{Meter}
use Rattle.names.specs.declared.Owner.{Owner as Owned}
use Rattle.names.specs.Table.{owner_of}
use Rattle.rows.specs.declared.Row.{Row}
use Rattle.rows.specs.declared.Starts.{Starts}
use Rattle.rows.specs.declared.Statement.{Statement}
use Rattle.rows.specs.declared.Statement.TheVariants as S
use Rattle.rows.specs.Table.{row_in}
use Rattle.rows.specs.Tabled.{kind_of}
use Rattle.flow.specs.declared.Frames.{Frames}
use Rattle.flow.specs.declared.Walk.{Walk}
use Rattle.flow.specs.declared.Walk.TheVariants.{Up}
use Rattle.flow.specs.Walks.{frame_in, chosen_walk}
use Rattle.flow.specs.Shown.{Shown, FrameOf, Linked, AtRow, AtWalk}
use Rattle.flow.proofs.Flows.{chosen_is}
use Rattle.flow.proofs.Arriving.{walk_up, chosen_walk_stands, first_walk_stands, conditional_plain, group_plain, iterated_is}
use Rattle.callees.specs.Shown.{world_in, Slots}
use Rattle.operands.specs.declared.Scene.{Scene}
use Rattle.operands.specs.Shown.{Stated, Shows}
use Rattle.operands.specs.Answer.{run_in, value_of}
use Rattle.operands.proofs.Trees.{clash}
use Rattle.bodies.specs.Deeds.{Serves, scene_machine, Leaves, done_in, done_meter, tested_in, tested_meter}
use Rattle.bodies.proofs.Doing.{truth_same, assigned_same, start_same}
use Rattle.evaluating.specs.Statements.{AssignIs, TestIs, StartsAs, started_meter, StartIs}
use Rattle.evaluating.proofs.Bodying.{Controls, controls}
use Rattle.showing.specs.Listed.{Lists}
use Rattle.showing.proofs.Later.{later_same}
use Rattle.showing.proofs.Worlds.{rows_written}
use Rattle.leaving.specs.declared.Below.{Below}
use Rattle.leaving.specs.Places.{below_of, Stand}
use Rattle.texts.specs.declared.Progress.{Progress}
use Rattle.texts.specs.declared.Here.{Here}
use Rattle.texts.specs.Shown.{with_meter, SceneIs}
use Rattle.texts.proofs.Common.{stage_scene, runs_out}
use Rattle.texts.proofs.Common as Tx
use Rattle.stepping.specs.declared.Step.{Step}
use Rattle.stepping.specs.declared.Step.TheVariants as St
use Rattle.stepping.specs.declared.Turned.{Turned}
use Rattle.stepping.specs.Stage.{Stage, InMember, part_here, machine_of}
use Rattle.stepping.specs.Ways.{is_include, turned_by, done_to, tested_to}
use Rattle.stepping.specs.Steps.{StepNow, StepIs, IntoIs, StartNow, StartedIs, StatementIs}

-- ---- other values and steps alone
pub stage_values : (deck rows names c l h w t ls : List ℕ) (starts : Starts) (g : Progress) (B : World) → Stage deck rows names c l h w t ls starts g B → (c' l' h' w' : List ℕ) (m : Meter)
    → Slots B.denotations c' l' h' → length c' ≡ length c → length w' ≡ length w → m.limit ≡ B.limit → Stage deck rows names c' l' h' w' t ls starts (with_meter g m) B
stage_values deck rows names c l h w t ls starts g B st c' l' h' w' m sl zc zw e = record {
  onstage = Tx.stage_values deck rows names c l h w t ls starts g B st.onstage c' l' h' w' m sl zw e;
  placed = st.placed;
  laid = st.laid;
  sentences = st.sentences;
  few = st.few;
  roomy = record { table = st.roomy.table; book = st.roomy.book; cells = omega (arith, zc, st.roomy.cells) };
}

-- ---- what a statement is, by its kind in the table
abbrev CaseOf : (D.Statement → Type 0) → Statement → Type 0
CaseOf P S.Null = P D.null
CaseOf P S.Declare = (ns : List (List ℕ)) → P (D.declare ns)
CaseOf P S.Procedure = (ns : List (List ℕ)) (v : ValueType) → P (D.procedure ns v)
CaseOf P S.Assign = (v : List ℕ) (x : Tree) → P (D.assign v x)
CaseOf P S.Conditional = (x : Tree) → P (D.conditional x)
CaseOf P S.Group = P D.group
CaseOf P S.Iterated = (v : List ℕ) (x : Tree) (bs : List D.Bound) → P (D.iterated v x bs)
CaseOf P S.Goto = (v : List ℕ) → P (D.goto v)
CaseOf P S.Include = (ns : List Sought) → P (D.include ns)
CaseOf P S.Activate = (xs : List D.Activation) → P (D.activate xs)
CaseOf P S.Deactivate = (ns : List (List ℕ)) → P (D.deactivate ns)
CaseOf P S.Return = (x : Tree) → P (D.return x)

case_of : (P : D.Statement → Type 0) (st : D.Statement) → CaseOf P (kind_of st) → P st
case_of P D.null h = h
case_of P (D.declare ns) h = h ns
case_of P (D.procedure ns v) h = h ns v
case_of P (D.assign v x) h = h v x
case_of P (D.conditional x) h = h x
case_of P D.group h = h
case_of P (D.iterated v x bs) h = h v x bs
case_of P (D.goto v) h = h v
case_of P (D.include ns) h = h ns
case_of P (D.activate xs) h = h xs
case_of P (D.deactivate ns) h = h ns
case_of P (D.return x) h = h x

-- ---- where the statement of row n stands
pub record Ready (deck s part rows names c l h w t ls : List ℕ) (fs : Frames) (n : ℕ) (below : Below) (here : Here) (g : Progress) (inner : Run.Level) (B : World) (G : List F.Frame) : Type 0 where
  pub stage : Stage deck rows names c l h w t ls here.starts g B
  pub inside : InMember deck s rows here B
  pub part_is : part ≡ part_here rows here
  pub stand : Stand (below_of below) B
  pub at : AtRow (machine_of inner deck here.member (below_of below)) part B.denotations fs G n

module _ (deck s part rows names c l h w t ls : List ℕ) (fs : Frames) (n : ℕ) (below : Below) (here : Here) (g : Progress) (inner : Run.Level) (B : World) (G : List F.Frame)
    (k : Ready deck s part rows names c l h w t ls fs n below here g inner B G) where
  abbrev machine : F.Machine Run.Stop
  machine = machine_of inner deck here.member (below_of below)

  abbrev now : World
  now = world_in B c l h g.meter.used

  pub rows_are : machine.rows ≡ rows_of here.member B
  unfolding member_machine
  rows_are = sym k.inside.entered

  pub within_here : n < length (rows_of here.member B)
  within_here = subst (λ (rs : List D.Row). n < length rs) rows_are k.at.within

  pub shown : Shown part machine.rows
  shown = subst (λ (rs : List D.Row). Shown part rs) (sym rows_are) (subst (λ (p : List ℕ). Shown p (rows_of here.member B)) (sym k.part_is) (k.stage.onstage.shows.rowed.shown here.member))

  pub linked : Linked machine.rows
  linked = subst (λ (rs : List D.Row). Linked rs) (sym rows_are) (k.stage.onstage.shows.rowed.linked here.member)

  -- the statement is read again in the body
  pub stated : Stated s (row_in part n).content (F.at machine n).statement
  stated = subst (λ (rs : List D.Row). Stated s (row_in part n).content (row_of rs n).statement) (sym rows_are)
      (subst (λ (p : List ℕ). Stated s (row_in p n).content (row_of (rows_of here.member B) n).statement) (sym k.part_is)
      (subst (λ (b : List ℕ). Stated b (row_in (part_here rows here) n).content (row_of (rows_of here.member B) n).statement) (sym k.inside.body)
      (k.stage.onstage.shows.rowed.stated here.member n within_here)))

  -- with the names that it lists
  pub listed : Lists s (row_in part n).content (F.at machine n).statement
  listed = subst (λ (rs : List D.Row). Lists s (row_in part n).content (row_of rs n).statement) (sym rows_are)
      (subst (λ (p : List ℕ). Lists s (row_in p n).content (row_of (rows_of here.member B) n).statement) (sym k.part_is)
      (subst (λ (b : List ℕ). Lists b (row_in (part_here rows here) n).content (row_of (rows_of here.member B) n).statement) (sym k.inside.body)
      (rows_written deck rows here.starts g.rows B k.stage.laid here.member n within_here).0))

  pub place_is : (F.at machine n).place ≡ (row_in part n).place
  place_is = ap (λ (rs : List D.Row). (row_of rs n).place) rows_are
      ∙ sym (rows_written deck rows here.starts g.rows B k.stage.laid here.member n within_here).1.place
      ∙ ap (λ (p : List ℕ). (row_in p n).place) (sym k.part_is)

  pub kind_is : (row_in part n).statement ≡ kind_of (F.at machine n).statement
  kind_is = shown.tabled.kind n k.at.within

  pub by_kind : (P : D.Statement → Type 0) (x : Statement) → (row_in part n).statement ≡ x → CaseOf P x → P (F.at machine n).statement
  by_kind P x e f = case_of P (F.at machine n).statement (subst (CaseOf P) (sym e ∙ kind_is) f)

  pub walk_here : (fs' : Frames) (G' : List F.Frame) (x : Walk) → AtWalk machine part B.denotations fs' G' x → AtWalk machine (part_here rows here) B.denotations fs' G' x
  walk_here fs' G' x a = subst (λ (p : List ℕ). AtWalk machine p B.denotations fs' G' x) k.part_is a

  -- the world is B itself
  same_world : (c' l' h' w' t' ls' : List ℕ) (fs' : Frames) (R : Res Run.Stop F.Turn) (x : Result Step (Stop × Progress)) → StepNow machine (below_of below) deck rows names c' l' h' w' t' ls' here fs' R B x → StepIs machine (below_of below) deck rows names c' l' h' w' t' ls' here fs' R B x
  same_world c' l' h' w' t' ls' fs' R x y = record { world = B; later = later_same B B refl refl refl; sentences = refl; now = y }

  -- a refusal has the place of the row
  pub fault_is : {A : Type 0} (e : Why) (u : ℕ) → F.in_row machine {A = A} n (bad e u) ≡ bad (record { why = e; member = here.member; place = (row_in part n).place }) u
  unfolding member_machine
  fault_is e u = ap (λ (p : ℕ). bad (Run.stop here.member p e) u) place_is

  -- a scene outside procedures evaluates as the member does
  pub serves : (sc : Scene) → SceneIs here.starts g sc → Serves machine sc 0
  unfolding member_machine value_of
  serves sc i = record {
    owner = ap owner_of (sym i.owner);
    waiting = refl;
    value = λ x v. ap (λ (f : Call). evaluate f W.everyone x 0 v) (sym (runs_out sc i.left)) ∙ ap (λ (o : Owned). evaluate (run_in sc) (owner_of o) x 0 v) (sym i.owner);
  }

  -- ---- behind the row, with other values and steps
  stage_after : (c' l' h' w' : List ℕ) (m : Meter) → length c' ≡ length c → length w' ≡ length w → Leaves B 0 w c' l' h' w' m → Stage deck rows names c' l' h' w' t ls here.starts (with_meter g m) B
  stage_after c' l' h' w' m zc zw lv = stage_values deck rows names c l h w t ls here.starts g B k.stage c' l' h' w' m lv.slots zc zw lv.limit

  walks_up : (c' l' h' w' t' ls' : List ℕ) (g' : Progress) → Stage deck rows names c' l' h' w' t' ls' here.starts g' B
      → StepIs machine (below_of below) deck rows names c' l' h' w' t' ls' here fs (F.onward machine G (F.behind machine G n (world_in B c' l' h' g'.meter.used))) B (Ok (St.On (Up n) g'))
  walks_up c' l' h' w' t' ls' g' st = same_world c' l' h' w' t' ls' fs (F.onward machine G (F.behind machine G n (world_in B c' l' h' g'.meter.used))) (Ok (St.On (Up n) g'))
      (record { stage = st; frames = G; is = refl; at = walk_here fs G (Up n) (walk_up machine part B.denotations fs G n k.at) })

  -- a refusal, which leaves no world
  refuses : (c' l' h' w' t' ls' : List ℕ) (R : Res Run.Stop F.Turn) (e : Why) (g' : Progress) → R ≡ bad (record { why = e; member = here.member; place = (row_in part n).place }) g'.meter.used
      → StepIs machine (below_of below) deck rows names c' l' h' w' t' ls' here fs R B (Err ((record { why = e; member = here.member; place = (row_in part n).place }), g'))
  refuses c' l' h' w' t' ls' R e g' q = same_world c' l' h' w' t' ls' fs R (Err ((record { why = e; member = here.member; place = (row_in part n).place }), g')) q

  -- ---- assignment
  done_step : (c' l' h' w' : List ℕ) → length c' ≡ length c → length w' ≡ length w → (d : Done) (R : Res Why (Unit {0})) → done_in B c' l' h' d ≡ R → Leaves B 0 w c' l' h' w' (done_meter d) → (r : Turned)
      → r ≡ done_to fs n d g here.member (row_in part n).place
      → StepIs machine (below_of below) deck rows names c' l' h' w' t ls here r.frames (bind (F.in_row machine n R) (λ _ v. F.onward machine G (F.behind machine G n v))) B r.step
  done_step c' l' h' w' zc zw (Ok m) R e lv r er = rw (er, ← e) (walks_up c' l' h' w' t ls (with_meter g m) (stage_after c' l' h' w' m zc zw lv))
  done_step c' l' h' w' zc zw (Err (f, m)) R e lv r er = rw (er, ← e) (refuses c' l' h' w' t ls (bind {A = Unit {0}} (F.in_row machine n (bad f m.used)) (λ _ v. F.onward machine G (F.behind machine G n v))) f (with_meter g m)
      (ap (λ (i : Res Run.Stop (Unit {0})). bind i (λ _ v. F.onward machine G (F.behind machine G n v))) (fault_is f m.used)))

  -- ---- IF
  chosen_step : (c' l' h' w' : List ℕ) (b : Bool) (m : Meter) → Stage deck rows names c' l' h' w' t ls here.starts (with_meter g m) B → D.is_iterated (F.at machine n).statement ≡ false
      → StepIs machine (below_of below) deck rows names c' l' h' w' t ls here fs (F.chosen machine (F.alternative_of machine b n) G n (world_in B c' l' h' m.used)) B (Ok (St.On (chosen_walk part n b) (with_meter g m)))
  chosen_step c' l' h' w' b m st i = same_world c' l' h' w' t ls fs (F.chosen machine (F.alternative_of machine b n) G n (world_in B c' l' h' m.used)) (Ok (St.On (chosen_walk part n b) (with_meter g m))) (record {
    stage = st;
    frames = G;
    is = chosen_is machine part shown fs G (world_in B c' l' h' m.used) n b k.at.within;
    at = walk_here fs G (chosen_walk part n b) (chosen_walk_stands machine part B.denotations fs G shown linked n b k.at.within k.at.framed i);
  })

  test_step : (c' l' h' w' : List ℕ) → length c' ≡ length c → length w' ≡ length w → (y : Tested) (R : Res Why Bool) → tested_in B c' l' h' y ≡ R → Leaves B 0 w c' l' h' w' (tested_meter y)
      → D.is_iterated (F.at machine n).statement ≡ false → (r : Turned) → r ≡ tested_to part fs n y g here.member (row_in part n).place
      → StepIs machine (below_of below) deck rows names c' l' h' w' t ls here r.frames (bind (F.in_row machine n R) (λ b v. F.chosen machine (F.alternative_of machine b n) G n v)) B r.step
  test_step c' l' h' w' zc zw (Ok (b, m)) R e lv i r er = rw (er, ← e) (chosen_step c' l' h' w' b m (stage_after c' l' h' w' m zc zw lv) i)
  test_step c' l' h' w' zc zw (Err (f, m)) R e lv i r er = rw (er, ← e) (refuses c' l' h' w' t ls (bind {A = Bool} (F.in_row machine n (bad f m.used)) (λ b v. F.chosen machine (F.alternative_of machine b n) G n v)) f (with_meter g m)
      (ap (λ (j : Res Run.Stop Bool). bind j (λ b v. F.chosen machine (F.alternative_of machine b n) G n v)) (fault_is f m.used)))

  -- ---- DO: a frame is the group's
  controls_here : (d : F.Frame) → Controls n d now → Controls n d B
  controls_here d x = record { group = x.group; variable = x.variable }

  starts_now : (c' l' h' w' : List ℕ) → length c' ≡ length c → length w' ≡ length w → (y : Started) (R : Res Why F.Started) → StartsAs B c' l' h' R y → Leaves B 0 w c' l' h' w' (started_meter y)
      → ((d : F.Frame) (b : Bool) (v : World) → R ≡ good (record { frame = d; begins = b }) v → Controls n d B) → StartNow deck rows names c' l' h' w' t ls here n g R B y
  starts_now c' l' h' w' zc zw (Ok (f, b, m)) R e lv co =
      let x : Controls n e.0 B = co e.0 b (world_in B c' l' h' m.used) e.2 in
      (stage_after c' l' h' w' m zc zw lv, (e.0, e.1, x.group, x.variable, e.2))
  starts_now c' l' h' w' zc zw (Err (f, m)) R e lv co = e

  -- ---- each kind
  shows : (sc : Scene) → SceneIs here.starts g sc → Shows deck rows names c l h w 0 sc g.meter B
  shows sc i = stage_scene deck rows names c l h w t ls here.starts g B k.stage.onstage sc i

  abbrev Turns : List ℕ → List ℕ → List ℕ → List ℕ → List ℕ → List ℕ → Turned → D.Statement → Type 0
  Turns c' l' h' w' t' ls' r x = StepIs machine (below_of below) deck rows names c' l' h' w' t' ls' here r.frames (F.statement machine x G n now) B r.step

  pub assign_step : (row_in part n).statement ≡ S.Assign → (sc : Scene) → SceneIs here.starts g sc → (c' l' h' w' : List ℕ) → length c' ≡ length c → length w' ≡ length w → (d : Done)
      → AssignIs deck s rows names c l h w (row_in part n).content 0 sc g.meter c' l' h' w' d → (r : Turned) → r ≡ done_to fs n d g here.member (row_in part n).place
      → Turns c' l' h' w' t ls r (F.at machine n).statement
  unfolding F.statement
  assign_step e sc si c' l' h' w' zc zw d ai r er = by_kind (λ (x : D.Statement). Stated s (row_in part n).content x → Turns c' l' h' w' t ls r x) S.Assign e
      (λ v x st.
      let A : (done_in B c' l' h' d ≡ F.assigned (scene_machine sc 0) v x now) × Leaves B 0 w c' l' h' w' (done_meter d) = ai.is B (shows sc si) v x st in
      done_step c' l' h' w' zc zw d (F.assigned machine v x now) (A.0 ∙ sym (assigned_same machine sc 0 (serves sc si) v x now)) A.1 r er) stated

  pub test_done : (row_in part n).statement ≡ S.Conditional → (sc : Scene) → SceneIs here.starts g sc → (c' l' h' w' : List ℕ) → length c' ≡ length c → length w' ≡ length w → (y : Tested)
      → TestIs deck s rows names c l h w (row_in part n).content 0 sc g.meter c' l' h' w' y → (r : Turned) → r ≡ tested_to part fs n y g here.member (row_in part n).place
      → Turns c' l' h' w' t ls r (F.at machine n).statement
  unfolding F.statement
  test_done e sc si c' l' h' w' zc zw y ti r er = by_kind (λ (x : D.Statement). Stated s (row_in part n).content x → Turns c' l' h' w' t ls r x) S.Conditional e
      (λ x st.
      let A : (tested_in B c' l' h' y ≡ F.truth (scene_machine sc 0) x now) × Leaves B 0 w c' l' h' w' (tested_meter y) = ti.is B (shows sc si) x st in
      test_step c' l' h' w' zc zw y (F.truth machine x now) (A.0 ∙ sym (truth_same machine sc 0 (serves sc si) x now)) A.1 (conditional_plain part machine.rows shown n k.at.within e) r er) stated

  pub start_step : (row_in part n).statement ≡ S.Iterated → (sc : Scene) → SceneIs here.starts g sc → (c₁ l₁ h₁ w₁ : List ℕ) → length c₁ ≡ length c → length w₁ ≡ length w → (y : Started)
      → StartIs deck s rows names c l h w n (row_in part n).content 0 sc g.meter c₁ l₁ h₁ w₁ y → (c' l' h' w' t' ls' : List ℕ) (r : Turned)
      → StartedIs deck s part rows names c₁ l₁ h₁ w₁ t ls fs n y here (row_in part n).place g c' l' h' w' t' ls' r
      → Turns c' l' h' w' t' ls' r (F.at machine n).statement
  unfolding F.statement
  start_step e sc si c₁ l₁ h₁ w₁ zc zw y ti c' l' h' w' t' ls' r sd = by_kind (λ (x : D.Statement). Stated s (row_in part n).content x → Turns c' l' h' w' t' ls' r x) S.Iterated e
      (λ v x bs st.
      let R : Res Why F.Started = F.start_at machine (seen_from machine.owner v now) n x bs now in
      let Q : F.start_at (scene_machine sc 0) (seen_from (owner_of sc.owner) v now) n x bs now ≡ R =
      sym (start_same machine sc 0 (serves sc si) (seen_from machine.owner v now) n x bs now ∙ ap (λ (o : W.Owner). F.start_at (scene_machine sc 0) (seen_from o v now) n x bs now) (serves sc si).owner) in
      let A : StartsAs B c₁ l₁ h₁ (F.start_at (scene_machine sc 0) (seen_from (owner_of sc.owner) v now) n x bs now) y × Leaves B 0 w c₁ l₁ h₁ w₁ (started_meter y) = ti.is B (shows sc si) v x bs st in
      sd.is B R
      (starts_now c₁ l₁ h₁ w₁ zc zw y R (subst (λ (i : Res Why F.Started). StartsAs B c₁ l₁ h₁ i y) Q A.0) A.1
      (λ d b z q. controls_here d (controls machine n x bs now (record { frame = d; begins = b }) z (seen_from machine.owner v now) q)))
      k.inside k.part_is inner (below_of below) G k.at (iterated_is part machine.rows shown n k.at.within e) place_is) stated

  pub group_step : (row_in part n).statement ≡ S.Group → (c' l' h' w' t' ls' : List ℕ) (r : Turned) → IntoIs deck s part rows names c l h w t ls fs n here g c' l' h' w' t' ls' r
      → Turns c' l' h' w' t' ls' r (F.at machine n).statement
  unfolding F.statement
  group_step e c' l' h' w' t' ls' r ii = by_kind (λ (x : D.Statement). Turns c' l' h' w' t' ls' r x) S.Group e
      (ii.is B k.stage k.inside k.part_is inner (below_of below) G (record {
        within = k.at.within;
        own = λ i. no_frame_lem i;
        walks = first_walk_stands machine part B.denotations fs G shown linked n k.at.within k.at.framed (λ i. no_frame_lem i);
      }))
    where
      no_frame_lem : D.is_iterated (F.at machine n).statement ≡ true → FrameOf B.denotations (frame_in part fs n) n G
      no_frame_lem i = clash (let q : true ≡ false = sym i ∙ group_plain part machine.rows shown n k.at.within e in cc)

  -- what does nothing
  pub act_is : (x : D.Statement) → (F.at machine n).statement ≡ x → machine.act n now ≡ Run.act_as mixed x inner deck (F.at machine n).place here.member n (below_of below) now
  unfolding member_machine
  act_is x e = ap (λ (y : D.Statement). Run.act_as mixed y inner deck (F.at machine n).place here.member n (below_of below) now) e

  passes_on : (r : Turned) → r ≡ turned_by fs (Ok (St.On (Up n) g)) → (R : Res Run.Stop F.Turn) → R ≡ F.onward machine G (F.behind machine G n now)
      → StepIs machine (below_of below) deck rows names c l h w t ls here r.frames R B r.step
  passes_on r er R e = rw (er, e) (walks_up c l h w t ls g k.stage)

  pub null_step : (row_in part n).statement ≡ S.Null → (r : Turned) → r ≡ turned_by fs (Ok (St.On (Up n) g)) → Turns c l h w t ls r (F.at machine n).statement
  unfolding F.statement
  null_step e r er = by_kind (λ (x : D.Statement). Turns c l h w t ls r x) S.Null e (passes_on r er (F.onward machine G (F.behind machine G n now)) refl)

  pub procedure_step : (row_in part n).statement ≡ S.Procedure → (r : Turned) → r ≡ turned_by fs (Ok (St.On (Up n) g)) → Turns c l h w t ls r (F.at machine n).statement
  unfolding F.statement
  procedure_step e r er = by_kind (λ (x : D.Statement). Turns c l h w t ls r x) S.Procedure e (λ ns v. passes_on r er (F.onward machine G (F.behind machine G n now)) refl)

  pub return_step : (row_in part n).statement ≡ S.Return → (r : Turned) → r ≡ turned_by fs (Ok (St.On (Up n) g)) → Turns c l h w t ls r (F.at machine n).statement
  unfolding F.statement
  return_step e r er = by_kind (λ (x : D.Statement). (F.at machine n).statement ≡ x → Turns c l h w t ls r x) S.Return e
      (λ x q. passes_on r er (bind (machine.act n now) (λ d v. F.done machine d G n v)) (ap (λ (i : Res Run.Stop F.Deed). bind i (λ d v. F.done machine d G n v)) (act_is (D.return x) q))) refl

-- ---- THE STATEMENT, whatever its kind
module _ (deck s part rows names c l h w t ls : List ℕ) (fs : Frames) (n : ℕ) (below : Below) (here : Here) (g : Progress) where
  abbrev pub Stepping : List ℕ → List ℕ → List ℕ → List ℕ → List ℕ → List ℕ → List ℕ → Turned → Run.Level → World → List F.Frame → D.Statement → Type 0
  Stepping names' c' l' h' w' t' ls' r inner B G x = StepIs (machine_of inner deck here.member (below_of below)) (below_of below) deck rows names' c' l' h' w' t' ls' here r.frames
      (F.statement (machine_of inner deck here.member (below_of below)) x G n (world_in B c l h g.meter.used)) B r.step

  pub statement_by : (names' c' l' h' w' t' ls' : List ℕ) (r : Turned)
      → ((inner : Run.Level) (B : World) (G : List F.Frame) → Ready deck s part rows names c l h w t ls fs n below here g inner B G → Stepping names' c' l' h' w' t' ls' r inner B G (F.at (machine_of inner deck here.member (below_of below)) n).statement)
      → StatementIs deck s part rows names c l h w t ls fs n below here g names' c' l' h' w' t' ls' r
  statement_by names' c' l' h' w' t' ls' r f = record { is = λ B st im pe sd inner G at ni. f inner B G (record { stage = st; inside = im; part_is = pe; stand = sd; at = at }) }

  -- ---- by the row q that was read from the table
  module _ (q : Row) (eq : q ≡ row_in part n) where
    kind_of_lem : (x : Statement) → q.statement ≡ x → (row_in part n).statement ≡ x
    kind_of_lem x e = ap (λ (i : Row). i.statement) (sym eq) ∙ e

    pub row_assign : q.statement ≡ S.Assign → (sc : Scene) → SceneIs here.starts g sc → (c' l' h' w' : List ℕ) → length c' ≡ length c → length w' ≡ length w → (d : Done)
        → AssignIs deck s rows names c l h w q.content 0 sc g.meter c' l' h' w' d → (r : Turned) → r ≡ done_to fs n d g here.member q.place
        → StatementIs deck s part rows names c l h w t ls fs n below here g names c' l' h' w' t ls r
    row_assign e sc si c' l' h' w' zc zw d ai r er = statement_by names c' l' h' w' t ls r (λ inner B G k.
        assign_step deck s part rows names c l h w t ls fs n below here g inner B G k (kind_of_lem S.Assign e) sc si c' l' h' w' zc zw d
        (subst (λ (i : Row). AssignIs deck s rows names c l h w i.content 0 sc g.meter c' l' h' w' d) eq ai) r (subst (λ (i : Row). r ≡ done_to fs n d g here.member i.place) eq er))

    pub row_test : q.statement ≡ S.Conditional → (sc : Scene) → SceneIs here.starts g sc → (c' l' h' w' : List ℕ) → length c' ≡ length c → length w' ≡ length w → (y : Tested)
        → TestIs deck s rows names c l h w q.content 0 sc g.meter c' l' h' w' y → (r : Turned) → r ≡ tested_to part fs n y g here.member q.place
        → StatementIs deck s part rows names c l h w t ls fs n below here g names c' l' h' w' t ls r
    row_test e sc si c' l' h' w' zc zw y ti r er = statement_by names c' l' h' w' t ls r (λ inner B G k.
        test_done deck s part rows names c l h w t ls fs n below here g inner B G k (kind_of_lem S.Conditional e) sc si c' l' h' w' zc zw y
        (subst (λ (i : Row). TestIs deck s rows names c l h w i.content 0 sc g.meter c' l' h' w' y) eq ti) r (subst (λ (i : Row). r ≡ tested_to part fs n y g here.member i.place) eq er))

    pub row_start : q.statement ≡ S.Iterated → (sc : Scene) → SceneIs here.starts g sc → (c₁ l₁ h₁ w₁ : List ℕ) → length c₁ ≡ length c → length w₁ ≡ length w → (y : Started)
        → StartIs deck s rows names c l h w n q.content 0 sc g.meter c₁ l₁ h₁ w₁ y → (c' l' h' w' t' ls' : List ℕ) (r : Turned)
        → StartedIs deck s part rows names c₁ l₁ h₁ w₁ t ls fs n y here q.place g c' l' h' w' t' ls' r
        → StatementIs deck s part rows names c l h w t ls fs n below here g names c' l' h' w' t' ls' r
    row_start e sc si c₁ l₁ h₁ w₁ zc zw y ti c' l' h' w' t' ls' r sd = statement_by names c' l' h' w' t' ls' r (λ inner B G k.
        start_step deck s part rows names c l h w t ls fs n below here g inner B G k (kind_of_lem S.Iterated e) sc si c₁ l₁ h₁ w₁ zc zw y
        (subst (λ (i : Row). StartIs deck s rows names c l h w n i.content 0 sc g.meter c₁ l₁ h₁ w₁ y) eq ti) c' l' h' w' t' ls' r
        (subst (λ (i : Row). StartedIs deck s part rows names c₁ l₁ h₁ w₁ t ls fs n y here i.place g c' l' h' w' t' ls' r) eq sd))

    pub row_group : q.statement ≡ S.Group → (c' l' h' w' t' ls' : List ℕ) (r : Turned) → IntoIs deck s part rows names c l h w t ls fs n here g c' l' h' w' t' ls' r
        → StatementIs deck s part rows names c l h w t ls fs n below here g names c' l' h' w' t' ls' r
    row_group e c' l' h' w' t' ls' r ii = statement_by names c' l' h' w' t' ls' r (λ inner B G k.
        group_step deck s part rows names c l h w t ls fs n below here g inner B G k (kind_of_lem S.Group e) c' l' h' w' t' ls' r ii)

    -- what does nothing; INCLUDE does not come here
    pub row_idle : (q.statement ≡ S.Null) ⊎ ((q.statement ≡ S.Procedure) ⊎ ((q.statement ≡ S.Include) ⊎ (q.statement ≡ S.Return))) → (r : Turned) → r ≡ turned_by fs (Ok (St.On (Up n) g))
        → StatementIs deck s part rows names c l h w t ls fs n below here g names c l h w t ls r
    row_idle (inl e) r er = statement_by names c l h w t ls r (λ inner B G k. null_step deck s part rows names c l h w t ls fs n below here g inner B G k (kind_of_lem S.Null e) r er)
    row_idle (inr (inl e)) r er = statement_by names c l h w t ls r (λ inner B G k. procedure_step deck s part rows names c l h w t ls fs n below here g inner B G k (kind_of_lem S.Procedure e) r er)
    row_idle (inr (inr (inl e))) r er = record { is = λ B st im pe sd inner G at ni. clash (let z : true ≡ false = sym (ap is_include (kind_of_lem S.Include e)) ∙ ni in cc) }
    row_idle (inr (inr (inr e))) r er = statement_by names c l h w t ls r (λ inner B G k. return_step deck s part rows names c l h w t ls fs n below here g inner B G k (kind_of_lem S.Return e) r er)
