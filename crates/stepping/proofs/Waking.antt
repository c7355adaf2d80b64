-- DECLARE, ACTIVATE and DEACTIVATE: the world has the activities of the table, and all else of it stays.
-- Assumes nothing.
use mathlib.Core.Path.{◌≡◌, refl, sym, ap, subst, ◌∙◌}
use mathlib.Core.Bool.{Bool, true, false}
use mathlib.Core.List.{List}
use Prim.Native.Nat.{ℕ, ◌*◌, ◌≤◌}
use native.Mathlib.Omega.{arith}
use lib.ListN.{length}
use Rattle.definition.specs.Bytes.{mixed}
use Rattle.definition.specs.Program as D
use Rattle.definition.specs.World as W
use Rattle.definition.specs.World.{World, Res, bad, bind, placed}
use Rattle.definition.specs.Flow as F
use Rattle.definition.specs.Run as Run
use Rattle.definition.specs.declared.Why.{Why}
use Rattle.definition.specs.declared.Why.TheVariants.{WrongName}
use Rattle.deck.specs.Answer.{body_in}
use Rattle.rows.specs.declared.Row.{Row}
use Rattle.rows.specs.declared.Starts.{Starts}
use Rattle.rows.specs.declared.Statement.TheVariants as S
use Rattle.rows.specs.Table.{row_in}
use Rattle.flow.specs.declared.Frames.{Frames}
use Rattle.flow.specs.declared.Walk.TheVariants.{Up}
use Rattle.flow.proofs.Arriving.{walk_up}
use Rattle.callees.specs.Shown.{world_in}
use Rattle.callees.proofs.Naming.{denotations_length}
use Rattle.activating.specs.Sets.{awake, outcome, Kept, Does, DeclaresAll, ActivatesAll, DeactivatesAll}
use Rattle.showing.specs.Listed.{Lists}
use Rattle.showing.specs.Worlds.{Placed}
use Rattle.showing.proofs.Later.{later_same}
use Rattle.showing.proofs.Worlds.{placed_same, rows_shown, size_placed}
use Rattle.leaving.specs.declared.Below.{Below}
use Rattle.leaving.specs.Places.{below_of}
use Rattle.texts.specs.declared.Progress.{Progress}
use Rattle.texts.specs.declared.Here.{Here}
use Rattle.stepping.specs.declared.Turned.{Turned}
use Rattle.stepping.specs.Stage.{Stage, machine_of}
use Rattle.stepping.specs.Ways.{activated_to}
use Rattle.stepping.specs.Steps.{StepIs, StatementIs}
use Rattle.stepping.proofs.Acting.{Ready, place_is, listed, by_kind, walk_here, act_is, statement_by}

-- ---- the table of names has room for those that there are
module _ (deck rows names c l h w t ls : List ℕ) (starts : Starts) (g : Progress) (B : World) (st : Stage deck rows names c l h w t ls starts g B) where
  names_few : g.names ≤ 256
  names_few = omega (arith, st.onstage.shows.slots.few, ap (λ (ds : List W.Denotation). length ds) st.onstage.shows.named.denotations, denotations_length names 0 g.names)

  pub names_fit : 16 * g.names ≤ length names
  names_fit = omega (arith, names_few, st.roomy.book)

  -- THE STAGE with other activities
  module _ (u : List ℕ) (kp : Kept deck names u g.names) where
    abbrev woken : World
    woken = awake u g.names B

    placed_woken : Placed (body_in deck) woken
    placed_woken = placed_same (body_in deck) B woken refl refl refl st.placed

    pub stage_woken : Stage deck rows u c l h w t ls starts g woken
    stage_woken = record {
      onstage = record {
        shows = record {
          named = record {
            identifiers = st.onstage.shows.named.identifiers ∙ sym (kp.identifiers names_fit);
            denotations = st.onstage.shows.named.denotations ∙ sym (kp.denotations names_fit);
          };
          rowed = rows_shown deck rows starts woken (λ m. st.laid.stored m) placed_woken (omega (arith, size_placed (body_in deck) B st.placed, st.onstage.shows.slots.few));
          slots = st.onstage.shows.slots;
          work = st.onstage.shows.work;
          taken = st.onstage.shows.taken;
          limit = st.onstage.shows.limit;
          left = st.onstage.shows.left;
        };
        awake = record { identifiers = st.onstage.awake.identifiers ∙ sym (kp.identifiers names_fit); activities = refl };
        written = record {
          layout = st.onstage.written.layout;
          events = st.onstage.written.events;
          out = st.onstage.written.out;
          fine = st.onstage.written.fine;
          same = st.onstage.written.same;
          told = st.onstage.written.told;
          full = st.onstage.written.full;
          text = st.onstage.written.text;
          lines = st.onstage.written.lines;
        };
      };
      placed = placed_woken;
      laid = record { stored = λ m. st.laid.stored m; below = λ m. st.laid.below m };
      sentences = st.sentences;
      few = st.few;
      roomy = record { table = st.roomy.table; book = omega (arith, st.roomy.book, kp.size); cells = st.roomy.cells };
    }

-- ---- what is done to the names, and where control goes
module _ (deck s part rows names c l h w t ls : List ℕ) (fs : Frames) (n : ℕ) (below : Below) (here : Here) (g : Progress) (inner : Run.Level) (B : World) (G : List F.Frame)
    (k : Ready deck s part rows names c l h w t ls fs n below here g inner B G) where
  abbrev machine : F.Machine Run.Stop
  machine = machine_of inner deck here.member (below_of below)

  abbrev now : World
  now = world_in B c l h g.meter.used

  does_now : (u : List ℕ) (R : World → Res Why (Unit {0})) (b : Bool) → Does deck names u g.names R b → R now ≡ outcome b (awake u g.names now)
  does_now u R b d = d.is now (record { identifiers = k.stage.onstage.shows.named.identifiers; denotations = k.stage.onstage.shows.named.denotations })
      (record { identifiers = k.stage.onstage.awake.identifiers; activities = k.stage.onstage.awake.activities }) (names_fit deck rows names c l h w t ls here.starts g B k.stage)

  abbrev deed_on : Res Why (Unit {0}) → Res Run.Stop F.Turn
  deed_on R = bind (placed (Run.stop here.member (F.at machine n).place) (Run.deed R)) (λ d v. F.done machine d G n v)

  wake_step : (u : List ℕ) → Kept deck names u g.names → (R : World → Res Why (Unit {0})) (b : Bool) → Does deck names u g.names R b → (r : Turned) → r ≡ activated_to fs n b g here.member (row_in part n).place
      → StepIs machine (below_of below) deck rows u c l h w t ls here r.frames (deed_on (R now)) B r.step
  wake_step u kp R true d r er = rw (er, does_now u R true d) (record {
    world = awake u g.names B;
    later = later_same B (awake u g.names B) refl refl refl;
    sentences = refl;
    now = record {
      stage = stage_woken deck rows names c l h w t ls here.starts g B k.stage u kp;
      frames = G;
      is = refl;
      at = walk_here deck s part rows names c l h w t ls fs n below here g inner B G k fs G (Up n) (walk_up machine part B.denotations fs G n k.at);
    };
  })
  wake_step u kp R false d r er = rw (er, does_now u R false d) (record {
    world = B;
    later = later_same B B refl refl refl;
    sentences = refl;
    now = ap (λ (p : ℕ). bad (Run.stop here.member p WrongName) g.meter.used) (place_is deck s part rows names c l h w t ls fs n below here g inner B G k);
  })

  abbrev Wakes : List ℕ → Turned → D.Statement → Type 0
  Wakes u r x = StepIs machine (below_of below) deck rows u c l h w t ls here r.frames (F.statement machine x G n now) B r.step

  -- the same for the statement x, which acts so
  acts : (x : D.Statement) → (F.at machine n).statement ≡ x → F.statement machine x G n now ≡ bind (machine.act n now) (λ d v. F.done machine d G n v) → (R : World → Res Why (Unit {0}))
      → Run.act_as mixed x inner deck (F.at machine n).place here.member n (below_of below) now ≡ placed (Run.stop here.member (F.at machine n).place) (Run.deed (R now))
      → (u : List ℕ) → Kept deck names u g.names → (b : Bool) → Does deck names u g.names R b → (r : Turned) → r ≡ activated_to fs n b g here.member (row_in part n).place → Wakes u r x
  acts x q e R f u kp b d r er = subst (λ (Q : Res Run.Stop F.Turn). StepIs machine (below_of below) deck rows u c l h w t ls here r.frames Q B r.step)
      (sym (e ∙ ap (λ (i : Res Run.Stop F.Deed). bind i (λ d v. F.done machine d G n v)) (act_is deck s part rows names c l h w t ls fs n below here g inner B G k x q ∙ f)))
      (wake_step u kp R b d r er)

  pub declare_step : (row_in part n).statement ≡ S.Declare → (u : List ℕ) (b : Bool) → DeclaresAll deck s names u g.names (row_in part n).content b → (r : Turned)
      → r ≡ activated_to fs n b g here.member (row_in part n).place → Wakes u r (F.at machine n).statement
  unfolding F.statement
  declare_step e u b da r er = by_kind deck s part rows names c l h w t ls fs n below here g inner B G k
      (λ (x : D.Statement). (F.at machine n).statement ≡ x → Lists s (row_in part n).content x → Wakes u r x) S.Declare e
      (λ ns q li. acts (D.declare ns) q refl (λ v. Run.activate_all W.rescanned ns v) refl u da.kept b (da.does li.0 li.1 li.2 ns li.3 li.4) r er)
      refl (listed deck s part rows names c l h w t ls fs n below here g inner B G k)

  pub activate_step : (row_in part n).statement ≡ S.Activate → (u : List ℕ) (b : Bool) → ActivatesAll deck s names u g.names (row_in part n).content b → (r : Turned)
      → r ≡ activated_to fs n b g here.member (row_in part n).place → Wakes u r (F.at machine n).statement
  unfolding F.statement
  activate_step e u b da r er = by_kind deck s part rows names c l h w t ls fs n below here g inner B G k
      (λ (x : D.Statement). (F.at machine n).statement ≡ x → Lists s (row_in part n).content x → Wakes u r x) S.Activate e
      (λ xs q li. acts (D.activate xs) q refl (λ v. Run.activations xs v) refl u da.kept b (da.does li.0 xs li.1 li.2) r er)
      refl (listed deck s part rows names c l h w t ls fs n below here g inner B G k)

  pub deactivate_step : (row_in part n).statement ≡ S.Deactivate → (u : List ℕ) (b : Bool) → DeactivatesAll deck s names u g.names (row_in part n).content b → (r : Turned)
      → r ≡ activated_to fs n b g here.member (row_in part n).place → Wakes u r (F.at machine n).statement
  unfolding F.statement
  deactivate_step e u b da r er = by_kind deck s part rows names c l h w t ls fs n below here g inner B G k
      (λ (x : D.Statement). (F.at machine n).statement ≡ x → Lists s (row_in part n).content x → Wakes u r x) S.Deactivate e
      (λ ns q li. acts (D.deactivate ns) q refl (λ v. Run.activate_all W.inactive ns v) refl u da.kept b (da.does li.0 ns li.1 li.2) r er)
      refl (listed deck s part rows names c l h w t ls fs n below here g inner B G k)

-- ---- by the row q that was read from the table
module _ (deck s part rows names c l h w t ls : List ℕ) (fs : Frames) (n : ℕ) (below : Below) (here : Here) (g : Progress) (q : Row) (eq : q ≡ row_in part n) where
  pub row_declare : q.statement ≡ S.Declare → (u : List ℕ) (b : Bool) → DeclaresAll deck s names u g.names q.content b → (r : Turned) → r ≡ activated_to fs n b g here.member q.place
      → StatementIs deck s part rows names c l h w t ls fs n below here g u c l h w t ls r
  row_declare e u b da r er = statement_by deck s part rows names c l h w t ls fs n below here g u c l h w t ls r (λ inner B G k.
      declare_step deck s part rows names c l h w t ls fs n below here g inner B G k (ap (λ (i : Row). i.statement) (sym eq) ∙ e) u b
      (subst (λ (i : Row). DeclaresAll deck s names u g.names i.content b) eq da) r (subst (λ (i : Row). r ≡ activated_to fs n b g here.member i.place) eq er))

  pub row_activate : q.statement ≡ S.Activate → (u : List ℕ) (b : Bool) → ActivatesAll deck s names u g.names q.content b → (r : Turned) → r ≡ activated_to fs n b g here.member q.place
      → StatementIs deck s part rows names c l h w t ls fs n below here g u c l h w t ls r
  row_activate e u b da r er = statement_by deck s part rows names c l h w t ls fs n below here g u c l h w t ls r (λ inner B G k.
      activate_step deck s part rows names c l h w t ls fs n below here g inner B G k (ap (λ (i : Row). i.statement) (sym eq) ∙ e) u b
      (subst (λ (i : Row). ActivatesAll deck s names u g.names i.content b) eq da) r (subst (λ (i : Row). r ≡ activated_to fs n b g here.member i.place) eq er))

  pub row_deactivate : q.statement ≡ S.Deactivate → (u : List ℕ) (b : Bool) → DeactivatesAll deck s names u g.names q.content b → (r : Turned) → r ≡ activated_to fs n b g here.member q.place
      → StatementIs deck s part rows names c l h w t ls fs n below here g u c l h w t ls r
  row_deactivate e u b da r er = statement_by deck s part rows names c l h w t ls fs n below here g u c l h w t ls r (λ inner B G k.
      deactivate_step deck s part rows names c l h w t ls fs n below here g inner B G k (ap (λ (i : Row). i.statement) (sym eq) ∙ e) u b
      (subst (λ (i : Row). DeactivatesAll deck s names u g.names i.content b) eq da) r (subst (λ (i : Row). r ≡ activated_to fs n b g here.member i.place) eq er))
