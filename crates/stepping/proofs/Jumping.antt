-- GOTO outside procedures: it leads to a row of this member where it may, or out to a member below.
-- Assumes nothing.
use Rattle.std.proofs.Common.{Some, Result, Ok, Err}
use mathlib.Core.Path.{◌≡◌, refl, sym, ap, subst, ◌∙◌}
use mathlib.Core.Bool.{Bool, true, false}
use mathlib.Core.List.{List, [], ◌∷◌}
use Prim.Native.Nat.{ℕ, ◌<◌}
use borrow.Author.Tests.{eqb-true}
use lib.Dec.{eqb}
use lib.ListN.{length, get_or}
use Rattle.definition.specs.Program as D
use Rattle.definition.specs.World as W
use Rattle.definition.specs.World.{World, Res, good, bad, bind, placed, ask, everyone, address_of, rows_of}
use Rattle.definition.specs.Calls.{Place}
use Rattle.definition.specs.Flow as F
use Rattle.definition.specs.Run as Run
use Rattle.definition.specs.Run.{member_machine, landing, jump_away, jump_label, jump_by, jump_from}
use Rattle.definition.specs.declared.Why.{Why}
use Rattle.definition.proofs.Choices.{when_has}
use Rattle.deck.specs.Answer.{body_in}
use Rattle.rows.specs.declared.Row.{Row}
use Rattle.rows.specs.declared.Statement.TheVariants as S
use Rattle.rows.specs.Table.{row_in}
use Rattle.flow.specs.declared.Frames.{Frames}
use Rattle.flow.specs.Walks.{landing_walk}
use Rattle.flow.proofs.Flows.{landing_row_is, landing_end_is}
use Rattle.flow.proofs.Framing.{once_of, end_own}
use Rattle.flow.proofs.Arriving.{landing_walk_stands}
use Rattle.callees.specs.Shown.{world_in}
use Rattle.callees.specs.Answer.{spelled_at}
use Rattle.callees.proofs.Listing.{name_is}
use Rattle.operands.specs.Shown.{Stated}
use Rattle.showing.proofs.Later.{later_same}
use Rattle.showing.proofs.Worlds.{global_placed}
use Rattle.leaving.specs.declared.Below.{Below}
use Rattle.leaving.specs.declared.Jump.{Jump}
use Rattle.leaving.specs.declared.Jump.TheVariants as J
use Rattle.leaving.specs.Places.{below_of, row_for, Stand}
use Rattle.leaving.specs.Leads.{jump_for, RowsThere, JumpIs}
use Rattle.texts.specs.declared.Progress.{Progress}
use Rattle.texts.specs.declared.Here.{Here}
use Rattle.stepping.specs.declared.Turned.{Turned}
use Rattle.stepping.specs.Stage.{machine_of, goes}
use Rattle.stepping.specs.Ways.{jumped_to}
use Rattle.stepping.specs.Steps.{StepIs, StatementIs}
use Rattle.stepping.proofs.Acting.{Ready, rows_are, within_here, shown, linked, stated, place_is, by_kind, walk_here, statement_by}

-- ---- where the definition's jump leads: a row that is there, and may be gone to
pub record Reaching (on : List Place) (W₁ : World) (x : F.Target) : Type 0 where
  pub at : ℕ
  pub stands : row_for on x.member ≡ Some at
  pub may : F.may_go (rows_of x.member W₁) at x.row x.is_end ≡ true
  pub there : x.row < length (rows_of x.member W₁)

-- from row n of the rows rs
abbrev Leads : List D.Row → List Place → ℕ → World → F.Jump → Type 0
Leads rs on n W₁ (F.to_row r) = (r < length rs) × (F.may_go rs n r false ≡ true)
Leads rs on n W₁ (F.to_end r) = (r < length rs) × (F.may_go rs n r true ≡ true)
Leads rs on n W₁ (F.away x) = Reaching on W₁ x

abbrev LeadsAs : List D.Row → List Place → ℕ → World → Res Why F.Jump → Type 0
LeadsAs rs on n W₁ (good j v) = Leads rs on n W₁ j
LeadsAs rs on n W₁ (bad e u) = Unit {0}

module _ (here : ℕ) (on : List Place) (n : ℕ) (W₁ : World) where
  abbrev lines : List D.Row
  lines = rows_of here W₁

  landed : (r : ℕ) (e : Bool) → r < length lines → F.may_go lines n r e ≡ true → Leads lines on n W₁ (landing r e)
  landed r true h m = (h, m)
  landed r false h m = (h, m)

  module _ (m r : ℕ) (e : Bool) (low : r < length (rows_of m W₁)) where
    away_leads : (ps : List Place) → row_for on m ≡ row_for ps m → LeadsAs lines on n W₁ (jump_away ps m r e W₁)
    unfolding jump_away row_for
    away_leads [] q = tt
    away_leads (p ∷ ps) q = when_has (LeadsAs lines on n W₁) (eqb p.member m) _ _
        (λ f. when_has (LeadsAs lines on n W₁) (F.may_go (rows_of m W₁) p.row r e) _ _ (λ y. record { at = p.row; stands = q ∙ rw f; may = y; there = low }) (λ _. tt))
        (λ f. away_leads ps (q ∙ rw f))

    label_leads : LeadsAs lines on n W₁ (jump_label here lines on n m r e W₁)
    unfolding jump_label
    label_leads = when_has (LeadsAs lines on n W₁) (eqb m here) _ _
        (λ f. when_has (LeadsAs lines on n W₁) (F.may_go lines n r e) _ _ (λ y. landed r e (subst (λ (i : ℕ). r < length (rows_of i W₁)) (eqb-true m here f) low) y) (λ _. tt))
        (λ _. away_leads on refl)

  module _ (v : List ℕ) (labels : (a k r : ℕ) (q : Bool) → address_of v everyone W₁ ≡ W.address a → get_or W₁.denotations a W.builtin_name ≡ W.label_at k r q → r < length (rows_of k W₁)) where
    by_leads : (a : ℕ) → address_of v everyone W₁ ≡ W.address a → (d : W.Denotation) → get_or W₁.denotations a W.builtin_name ≡ d → LeadsAs lines on n W₁ (jump_by d here lines on n W₁)
    by_leads a q (W.variable_of k) e = tt
    by_leads a q (W.entry_of x b) e = tt
    by_leads a q (W.label_at m r x) e = label_leads m r x (labels a m r x q e)
    by_leads a q W.builtin_name e = tt

    from_leads : (x : W.Address) → address_of v everyone W₁ ≡ x → LeadsAs lines on n W₁ (jump_from x here lines on n W₁)
    from_leads (W.address a) q = by_leads a q (W.denotation a W₁) refl
    from_leads W.unknown q = tt

stand_same : (ps : List Place) (B B' : World) → B'.members ≡ B.members → Stand ps B → Stand ps B'
stand_same [] B B' e h = tt
stand_same (p ∷ ps) B B' e h = (subst (λ (ms : List W.Entered). p.row < length (W.rows_in p.member ms)) (sym e) h.0, stand_same ps B B' e h.1)

-- ---- the GOTO of row n
module _ (deck s part rows names c l h w t ls : List ℕ) (fs : Frames) (n : ℕ) (below : Below) (here : Here) (g : Progress) (inner : Run.Level) (B : World) (G : List F.Frame)
    (k : Ready deck s part rows names c l h w t ls fs n below here g inner B G) where
  abbrev machine : F.Machine Run.Stop
  machine = machine_of inner deck here.member (below_of below)

  abbrev now : World
  now = world_in B c l h g.meter.used

  all_there : RowsThere rows here.starts below here.member n now
  all_there = record {
    shown = λ m. k.stage.onstage.shows.rowed.shown m;
    few = λ m. k.stage.onstage.shows.rowed.few m;
    labels = λ v a m r q e f. global_placed (body_in deck) B k.stage.placed v a m r q e f;
    below = stand_same (below_of below) B now refl k.stand;
    here = within_here deck s part rows names c l h w t ls fs n below here g inner B G k;
  }

  module _ (v : List ℕ) (j : Result Jump Why) (ji : JumpIs deck s rows names g.names below here.member here.starts n (row_in part n).content j) (sp : spelled_at s (row_in part n).content ≡ v) where
    jump_is : ask (jump_for j) now ≡ jump_from (address_of v everyone now) here.member (rows_of here.member now) (below_of below) n now
    jump_is = ji.is now (record { identifiers = k.stage.onstage.shows.named.identifiers; denotations = k.stage.onstage.shows.named.denotations }) all_there
        ∙ ap (λ (x : List ℕ). jump_from (address_of x everyone now) here.member (rows_of here.member now) (below_of below) n now) sp

    leads : LeadsAs (rows_of here.member now) (below_of below) n now (ask (jump_for j) now)
    leads = subst (LeadsAs (rows_of here.member now) (below_of below) n now) (sym jump_is)
        (from_leads here.member (below_of below) n now v (λ a m r q e f. global_placed (body_in deck) B k.stage.placed v a m r q e f) (address_of v everyone now) refl)

    machine_jump : machine.jump n v now ≡ placed (Run.stop here.member (F.at machine n).place) (ask (jump_for j) now)
    unfolding member_machine
    machine_jump = ap (placed (Run.stop here.member (F.at machine n).place)) (sym (jump_is ∙ ap (λ (rs : List D.Row). jump_from (address_of v everyone now) here.member rs (below_of below) n now) k.inside.entered))

  module _ (r : ℕ) where
    low_here : r < length (rows_of here.member now) → r < length machine.rows
    low_here q = subst (λ (rs : List D.Row). r < length rs) (sym (rows_are deck s part rows names c l h w t ls fs n below here g inner B G k)) q

    may_here : (b : Bool) → F.may_go (rows_of here.member now) n r b ≡ true → F.may_go machine.rows n r b ≡ true
    may_here b q = subst (λ (rs : List D.Row). F.may_go rs n r b ≡ true) (sym (rows_are deck s part rows names c l h w t ls fs n below here g inner B G k)) q

    -- to a row, or to its END
    land : (b : Bool) → r < length machine.rows → F.may_go machine.rows n r b ≡ true → F.follow machine (landing r b) G now ≡ F.onward machine G (goes machine G (landing_walk part fs r b) now)
    land true low may = landing_end_is machine part (shown deck s part rows names c l h w t ls fs n below here g inner B G k) fs G now r low
        (λ i. once_of (end_own machine part (shown deck s part rows names c l h w t ls fs n below here g inner B G k) fs G n r k.at.within low k.at.framed may i))
    land false low may = landing_row_is machine part (shown deck s part rows names c l h w t ls fs n below here g inner B G k) fs G now r

    landed_at_lem : (b : Bool) → Leads (rows_of here.member now) (below_of below) n now (landing r b) → (r < length machine.rows) × (F.may_go machine.rows n r b ≡ true)
    landed_at_lem true q = (low_here q.0, may_here true q.1)
    landed_at_lem false q = (low_here q.0, may_here false q.1)

  -- what the jump stands for, by what it is
  abbrev Jumps : Turned → Res Run.Stop F.Turn → Type 0
  Jumps r R = StepIs machine (below_of below) deck rows names c l h w t ls here r.frames R B r.step

  jump_step : (j : Result Jump Why) → LeadsAs (rows_of here.member now) (below_of below) n now (ask (jump_for j) now)
      → Jumps (jumped_to part fs j g here.member (row_in part n).place) (bind (placed (Run.stop here.member (F.at machine n).place) (ask (jump_for j) now)) (λ x y. F.follow machine x G y))
  jump_step (Ok (J.Here x)) q =
      let y : (x.place.row < length machine.rows) × (F.may_go machine.rows n x.place.row x.is_end ≡ true) = landed_at_lem x.place.row x.is_end q in
      record {
        world = B;
        later = later_same B B refl refl refl;
        sentences = refl;
        now = record {
          stage = k.stage;
          frames = G;
          is = land x.place.row x.is_end y.0 y.1;
          at = walk_here deck s part rows names c l h w t ls fs n below here g inner B G k fs G (landing_walk part fs x.place.row x.is_end)
              (landing_walk_stands machine part B.denotations fs G (shown deck s part rows names c l h w t ls fs n below here g inner B G k) (linked deck s part rows names c l h w t ls fs n below here g inner B G k)
              n x.place.row x.is_end k.at.within y.0 k.at.framed y.1);
        };
      }
  jump_step (Ok (J.Away x)) q = record {
    world = B;
    later = later_same B B refl refl refl;
    sentences = refl;
    now = record { stage = k.stage; is = refl; reaches = record { at = q.at; stands = q.stands; may = q.may; there = q.there } };
  }
  jump_step (Err e) q = record {
    world = B;
    later = later_same B B refl refl refl;
    sentences = refl;
    now = ap (λ (p : ℕ). bad (Run.stop here.member p e) g.meter.used) (place_is deck s part rows names c l h w t ls fs n below here g inner B G k);
  }

  pub goto_step : (row_in part n).statement ≡ S.Goto → (j : Result Jump Why) → JumpIs deck s rows names g.names below here.member here.starts n (row_in part n).content j → (r : Turned)
      → r ≡ jumped_to part fs j g here.member (row_in part n).place → Jumps r (F.statement machine (F.at machine n).statement G n now)
  unfolding F.statement
  goto_step e j ji r er = by_kind deck s part rows names c l h w t ls fs n below here g inner B G k
      (λ (x : D.Statement). Stated s (row_in part n).content x → Jumps r (F.statement machine x G n now)) S.Goto e
      (λ v st.
      let sp : spelled_at s (row_in part n).content ≡ v = sym (name_is s (row_in part n).content st.0 st.1).spelling ∙ st.2 in
      rw (er, machine_jump v j ji sp) (jump_step j (leads v j ji sp)))
      (stated deck s part rows names c l h w t ls fs n below here g inner B G k)

-- ---- by the row q that was read from the table
pub row_goto : (deck s part rows names c l h w t ls : List ℕ) (fs : Frames) (n : ℕ) (below : Below) (here : Here) (g : Progress) (q : Row) → q ≡ row_in part n → q.statement ≡ S.Goto
    → (j : Result Jump Why) → JumpIs deck s rows names g.names below here.member here.starts n q.content j → (r : Turned) → r ≡ jumped_to part fs j g here.member q.place
    → StatementIs deck s part rows names c l h w t ls fs n below here g names c l h w t ls r
row_goto deck s part rows names c l h w t ls fs n below here g q eq e j ji r er = statement_by deck s part rows names c l h w t ls fs n below here g names c l h w t ls r (λ inner B G k.
    goto_step deck s part rows names c l h w t ls fs n below here g inner B G k (ap (λ (i : Row). i.statement) (sym eq) ∙ e) j
    (subst (λ (i : Row). JumpIs deck s rows names g.names below here.member here.starts n i.content j) eq ji) r (subst (λ (i : Row). r ≡ jumped_to part fs j g here.member i.place) eq er))
