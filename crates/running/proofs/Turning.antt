-- TURNS of a member: a statement begins, or an iterated group is tested again. After an INCLUDE the member is looked at where it was.
-- Assumes nothing.
use Rattle.texts.specs.declared.Stop.{Stop}
use Rattle.std.proofs.Common.{Some, Ok, Result, Err}
use mathlib.Core.Path.{◌≡◌, refl, sym, ap, subst, ◌∙◌}
use mathlib.Core.Bool.{Bool, true, false, cond, false≢true}
use mathlib.Core.List.{List, ◌∷◌}
use Prim.Native.Nat.{ℕ, ◌<◌}
use borrow.Author.Tests.{eqb-true, eq-eqb, ne_eqb, eqb-false}
use lib.Dec.{eqb}
use lib.ListN.{length}
use Rattle.definition.specs.Bytes.{mixed}
use Rattle.definition.specs.Steps.{is_left, used_after}
use Rattle.definition.specs.Deck as Deck
use Rattle.definition.specs.Program as P
use Rattle.definition.specs.World.{World, Res, good, bad, bind, placed, charge, row_of, rows_of}
use Rattle.definition.specs.Flow as F
use Rattle.definition.specs.Calls.{Place}
use Rattle.definition.specs.Run as Run
use Rattle.definition.specs.Run.{member_machine, came_out, landing}
use Rattle.definition.specs.declared.Why.{Why}
use Rattle.definition.specs.declared.Why.TheVariants.{NoStep}
use Rattle.definition.specs.declared.ValueType.TheVariants.{FixedType}
use Rattle.deck.specs.Answer.{body_in}
use Rattle.meter.specs.Charges.{Charges, Charged, charged_for, ChargedAs}
use Rattle.names.specs.declared.Label.{Label}
use Rattle.rows.specs.Table.{row_in}
use Rattle.rows.specs.Tabled.{kind_of}
use Rattle.rows.specs.Parts.{start_in}
use Rattle.rows.specs.declared.Row.{Row}
use Rattle.rows.specs.declared.Starts.{Starts}
use Rattle.flow.specs.declared.Frames.{Frames}
use Rattle.flow.specs.declared.Next.{Next}
use Rattle.flow.specs.declared.Next.TheVariants.{Begin, Again, Over}
use Rattle.flow.specs.Walks.{landing_walk}
use Rattle.flow.specs.Shown.{Shown, Linked, AtRow, AtWalk}
use Rattle.flow.proofs.Framing.{once_of, end_own}
use Rattle.flow.proofs.Flows.{landing_row_is, landing_end_is}
use Rattle.flow.proofs.Arriving.{walk_up, landing_walk_stands, row_more}
use Rattle.callees.specs.Shown.{world_in}
use Rattle.operands.proofs.Trees.{clash}
use Rattle.bodies.proofs.Stepping.{after_none, charge_left, charge_none}
use Rattle.showing.specs.Listed.{Lists, Named}
use Rattle.showing.specs.Later.{Later, Grew}
use Rattle.showing.proofs.Including.{include_named}
use Rattle.showing.proofs.Worlds.{rows_written}
use Rattle.showing.proofs.Later.{later_rows}
use Rattle.showing.proofs.Returning.{back_part, framed_back}
use Rattle.leaving.specs.declared.Below.{Below}
use Rattle.leaving.specs.Places.{below_of, row_for}
use Rattle.texts.specs.declared.Progress.{Progress}
use Rattle.texts.specs.declared.Here.{Here}
use Rattle.texts.specs.Shown.{with_meter}
use Rattle.texts.proofs.Common.{stage_meter}
use Rattle.stepping.specs.declared.Step.TheVariants as St
use Rattle.stepping.specs.declared.Turned.{Turned}
use Rattle.stepping.specs.declared.Ended.{Ended}
use Rattle.stepping.specs.declared.Ended.TheVariants as En
use Rattle.stepping.specs.Stage.{Stage, InMember, part_here, machine_of, goes, target_for}
use Rattle.stepping.specs.Steps.{StepNow, StepIs, EndNow, Gone, StatementIs, AgainIs}
use Rattle.stepping.specs.Ways.{is_include, turned_by, refused_at, landed_at}
use Rattle.running.specs.declared.Left.{Left}
use Rattle.running.specs.declared.Begun.{Begun}
use Rattle.running.specs.Included.{level_of, include_on}
use Rattle.running.specs.Members.{here_at, Since, EndsAs, Running, IncludeAllIs, TurnsAs, TurnIs}
use Rattle.running.specs.Ways.{begun_at, ended_to, ended_at}
use Rattle.running.proofs.Including.{include_is}
use Rattle.running.proofs.Afterwards.{since_none, since_same, stand_later}

-- ---- the member later
-- the member that runs, which has a row, has its rows
pub member_later : (deck s rows rows' : List ℕ) (here : Here) (starts : Starts) (B B' : World) (n : ℕ) → InMember deck s rows here B → Later B B' → n < length (rows_of here.member B) → InMember deck s rows' (here_at here.member starts) B'
member_later deck s rows rows' here starts B B' n im h l = record { body = im.body; whole = im.whole; short = im.short; low = im.low; entered = later_rows B B' here.member n h l ∙ im.entered }

pub running_later : (deck s rows rows' : List ℕ) (here : Here) (starts : Starts) (below : Below) (left : ℕ) (B B' : World) (n : ℕ) → Running deck s rows here below left B → Later B B' → n < length (rows_of here.member B)
    → Running deck s rows' (here_at here.member starts) below left B'
running_later deck s rows rows' here starts below left B B' n ru h l = record {
  sound = ru.sound;
  line = ru.line;
  member = member_later deck s rows rows' here starts B B' n ru.member h l;
  stand = stand_later (below_of below) B B' h ru.stand;
  deep = ru.deep;
}

-- ---- the rows of the member that runs are its part of the table
module _ (deck s rows names c l h w t ls : List ℕ) (here : Here) (g : Progress) (B : World) (st : Stage deck rows names c l h w t ls here.starts g B) (im : InMember deck s rows here B) (inner : Run.Level) (on : List Place) where
  pub shown_here : Shown (part_here rows here) (machine_of inner deck here.member on).rows
  unfolding member_machine
  shown_here = subst (λ (rs : List P.Row). Shown (part_here rows here) rs) im.entered (st.onstage.shows.rowed.shown here.member)

  pub linked_here : Linked (machine_of inner deck here.member on).rows
  unfolding member_machine
  linked_here = subst (λ (rs : List P.Row). Linked rs) im.entered (st.onstage.shows.rowed.linked here.member)

  pub row_here : (n : ℕ) → n < length (machine_of inner deck here.member on).rows → n < length (rows_of here.member B)
  unfolding member_machine
  row_here n k = subst (λ (rs : List P.Row). n < length rs) (sym im.entered) k

  place_here : (n : ℕ) → n < length (machine_of inner deck here.member on).rows → (row_in (part_here rows here) n).place ≡ (F.at (machine_of inner deck here.member on) n).place
  unfolding member_machine
  place_here n k = (rows_written deck rows here.starts g.rows B st.laid here.member n (row_here n k)).1.place ∙ ap (λ (rs : List P.Row). (row_of rs n).place) im.entered

  names_here : (n : ℕ) → n < length (machine_of inner deck here.member on).rows → (ns : List Deck.Sought) → (F.at (machine_of inner deck here.member on) n).statement ≡ P.include ns → Named (body_in deck here.member) (row_in (part_here rows here) n).content ns
  unfolding member_machine
  names_here n k ns e =
      let f : (row_of (rows_of here.member B) n).statement ≡ P.include ns = ap (λ (rs : List P.Row). (row_of rs n).statement) im.entered ∙ e in
      let z : Lists (body_in deck here.member) (row_in (part_here rows here) n).content (P.include ns) = subst (λ (x : P.Statement). Lists (body_in deck here.member) (row_in (part_here rows here) n).content x) f (rows_written deck rows here.starts g.rows B st.laid here.member n (row_here n k)).0 in
      include_named (body_in deck here.member) (row_in (part_here rows here) n).content z.0 ns z.1 z.2

-- ---- the step of a statement
begun_is : (M : F.Machine Run.Stop) (n : ℕ) (G : List F.Frame) (w : World) (R : Res Why (Unit {0})) → charge w ≡ R → F.turn M (F.begin n) G w ≡ bind (placed (M.fault (F.at M n)) R) (λ _ v. F.statement M (F.at M n).statement G n v)
unfolding F.turn
begun_is M n G w R e = ap (λ (i : Res Why (Unit {0})). bind (placed (M.fault (F.at M n)) i) (λ _ v. F.statement M (F.at M n).statement G n v)) e

module _ (deck rows names c l h w t ls : List ℕ) (starts : Starts) (g : Progress) (k : Charged) (ch : Charges g.meter k) (B : World) (st : Stage deck rows names c l h w t ls starts g B) where
  limit_is : g.meter.limit ≡ B.limit
  limit_is = st.onstage.shows.limit

  pub charge_paid : k.paid ≡ true → charge (world_in B c l h g.meter.used) ≡ good tt (world_in B c l h k.meter.used)
  charge_paid p =
      let lf : is_left B.limit g.meter.used ≡ true = ap (λ (i : ℕ). is_left i g.meter.used) (sym limit_is) ∙ sym ch.paid ∙ p in
      let us : used_after B.limit g.meter.used ≡ k.meter.used = ap (λ (i : ℕ). used_after i g.meter.used) (sym limit_is) ∙ sym ch.used in
      charge_left (world_in B c l h g.meter.used) lf ∙ ap (λ (i : ℕ). good tt (world_in B c l h i)) us

  pub charge_due : k.paid ≡ false → charge (world_in B c l h g.meter.used) ≡ bad NoStep k.meter.used
  charge_due p =
      let lf : is_left g.meter.limit g.meter.used ≡ false = sym ch.paid ∙ p in
      let lg : is_left B.limit g.meter.used ≡ false = ap (λ (i : ℕ). is_left i g.meter.used) (sym limit_is) ∙ lf in
      charge_none (world_in B c l h g.meter.used) lg ∙ ap (λ (i : ℕ). bad NoStep i) (sym (ch.used ∙ after_none g.meter.limit g.meter.used lf))

  pub stage_charged : Stage deck rows names c l h w t ls starts (with_meter g k.meter) B
  stage_charged = record {
    onstage = stage_meter deck rows names c l h w t ls starts g B st.onstage k.meter (ch.limit ∙ limit_is);
    placed = st.placed;
    laid = st.laid;
    sentences = st.sentences;
    few = st.few;
    roomy = st.roomy;
  }

-- ---- INCLUDE
include_kind : (x : P.Statement) → is_include (kind_of x) ≡ true → (ns : List Deck.Sought) × (x ≡ P.include ns)
include_kind P.null e = absurd (false≢true e)
include_kind (P.declare ns) e = absurd (false≢true e)
include_kind (P.procedure ns t) e = absurd (false≢true e)
include_kind (P.assign n x) e = absurd (false≢true e)
include_kind (P.conditional x) e = absurd (false≢true e)
include_kind P.group e = absurd (false≢true e)
include_kind (P.iterated n x bs) e = absurd (false≢true e)
include_kind (P.goto n) e = absurd (false≢true e)
include_kind (P.include ns) e = (ns, refl)
include_kind (P.activate xs) e = absurd (false≢true e)
include_kind (P.deactivate ns) e = absurd (false≢true e)
include_kind (P.return x) e = absurd (false≢true e)

-- what the statement does, by how its members end
module _ (deck : List ℕ) (m n left : ℕ) (on : List Place) (G : List F.Frame) where
  abbrev machine : F.Machine Run.Stop
  machine = machine_of (level_of left deck) deck m on

  abbrev after_it : Res Run.Stop F.End → Res Run.Stop F.Turn
  after_it Q = bind (bind Q (λ x u. came_out m x u (λ y. good F.passed y))) (λ d u. F.done machine d G n u)

  include_acts : (ns : List Deck.Sought) (v : World) → (F.at machine n).statement ≡ P.include ns → machine.act n v ≡ Run.include_all mixed (level_of left deck) deck (F.at machine n).place m n on ns v
  unfolding member_machine
  include_acts ns v e = ap (λ (x : P.Statement). Run.act_as mixed x (level_of left deck) deck (F.at machine n).place m n on v) e

  include_turns : (ns : List Deck.Sought) (v : World) (p : ℕ) → (F.at machine n).statement ≡ P.include ns → p ≡ (F.at machine n).place
      → F.statement machine (F.at machine n).statement G n v ≡ after_it (include_on left deck p m (record { member = m; row = n } ∷ on) ns v)
  unfolding F.statement
  include_turns ns v p e f =
      ap (λ (x : P.Statement). F.statement machine x G n v) e
      ∙ ap (λ (R : Res Run.Stop F.Deed). bind R (λ d u. F.done machine d G n u)) (include_acts ns v e ∙ ap (λ (q : ℕ). Run.include_all mixed (level_of left deck) deck q m n on ns v) (sym f) ∙ include_is deck p m n on left ns v)

-- how its members have ended, in the world B' that the rooms show now: R is what the statement does
module _ (deck s rows names c l h w t ls : List ℕ) (fs : Frames) (n : ℕ) (below : Below) (here : Here) (left : ℕ) (g : Progress) (B : World) (st : Stage deck rows names c l h w t ls here.starts g B) (im : InMember deck s rows here B)
    (G : List F.Frame) (at : AtRow (machine_of (level_of left deck) deck here.member (below_of below)) (part_here rows here) B.denotations fs G n) (rows' names' c' l' h' w' t' ls' : List ℕ) (starts : Starts) (B' : World)
    (since : Since rows B rows' B') (start : start_in starts here.member ≡ start_in here.starts here.member) where
  abbrev M : F.Machine Run.Stop
  M = machine_of (level_of left deck) deck here.member (below_of below)

  abbrev back : Here
  back = here_at here.member starts

  there : n < length (rows_of here.member B)
  there = row_here deck s rows names c l h w t ls here g B st im (level_of left deck) (below_of below) n at.within

  im' : InMember deck s rows' back B'
  im' = member_later deck s rows rows' here starts B B' n im since.later there

  -- the member's rows are where they were, and the frames stand
  row_back : (k : ℕ) → k < length M.rows → row_in (part_here rows' back) k ≡ row_in (part_here rows here) k
  row_back k low =
      let grew : Grew rows g.rows rows' = subst (λ (u : ℕ). Grew rows u rows') st.sentences since.grew in
      back_part deck rows rows' here.starts starts starts g.rows here.member B st.laid grew (record { here = λ _. start; other = λ j _. refl }) im.low k
      (row_here deck s rows names c l h w t ls here g B st im (level_of left deck) (below_of below) k low)

  at_back : AtRow M (part_here rows' back) B'.denotations fs G n
  at_back =
      let framed : AtRow M (part_here rows' back) B.denotations fs G n =
      record { within = at.within; framed = framed_back M (part_here rows here) (part_here rows' back) B.denotations fs G n (shown_here deck s rows names c l h w t ls here g B st im (level_of left deck) (below_of below)) row_back at.within at.framed } in
      row_more B'.denotations (λ j. since.later.variables j FixedType) n framed

  -- a GOTO came out: to a label of this member, or on
  module _ (x : Label) (g' : Progress) (Q : Res Run.Stop F.End) (k : Gone (record { member = here.member; row = n } ∷ below_of below) deck rows' names' c' l' h' w' t' ls' back x g' Q B') where
    abbrev now : World
    now = world_in B' c' l' h' g'.meter.used

    here_at_lem : here.member ≡ x.place.member → k.reaches.at ≡ n
    unfolding row_for
    here_at_lem e =
        let f : cond (eqb here.member x.place.member) (Some n) (row_for (below_of below) x.place.member) ≡ Some k.reaches.at = k.reaches.stands in
        let i : Some n ≡ Some k.reaches.at = rw (eq-eqb here.member x.place.member e) at f in
        let j : n ≡ k.reaches.at = cc in
        sym j

    below_at : (here.member ≡ x.place.member → ⊥) → row_for (below_of below) x.place.member ≡ Some k.reaches.at
    unfolding row_for
    below_at e =
        let f : cond (eqb here.member x.place.member) (Some n) (row_for (below_of below) x.place.member) ≡ Some k.reaches.at = k.reaches.stands in
        rw (ne_eqb here.member x.place.member e) at f

    shown_back : Shown (part_here rows' back) M.rows
    shown_back = shown_here deck s rows' names' c' l' h' w' t' ls' back g' B' k.stage im' (level_of left deck) (below_of below)

    linked_back : Linked M.rows
    linked_back = linked_here deck s rows' names' c' l' h' w' t' ls' back g' B' k.stage im' (level_of left deck) (below_of below)

    module _ (e : x.place.member ≡ here.member) where
      rows_same : rows_of x.place.member B' ≡ M.rows
      unfolding member_machine
      rows_same = ap (λ (j : ℕ). rows_of j B') e ∙ im'.entered

      label_low : x.place.row < length M.rows
      label_low = subst (λ (rs : List P.Row). x.place.row < length rs) rows_same k.reaches.there

      label_may : F.may_go M.rows n x.place.row x.is_end ≡ true
      label_may =
          subst (λ (i : ℕ). F.may_go M.rows i x.place.row x.is_end ≡ true) (here_at_lem (sym e))
          (subst (λ (rs : List P.Row). F.may_go rs k.reaches.at x.place.row x.is_end ≡ true) rows_same k.reaches.may)

      landed_at_lem : AtWalk M (part_here rows' back) B'.denotations fs G (landing_walk (part_here rows' back) fs x.place.row x.is_end)
      landed_at_lem = landing_walk_stands M (part_here rows' back) B'.denotations fs G shown_back linked_back n x.place.row x.is_end at.within label_low at_back.framed label_may

      landed_is : (b : Bool) → x.is_end ≡ b → F.follow M (landing x.place.row b) G now ≡ F.onward M G (goes M G (landing_walk (part_here rows' back) fs x.place.row b) now)
      landed_is true q =
          let may : F.may_go M.rows n x.place.row true ≡ true = subst (λ (b : Bool). F.may_go M.rows n x.place.row b ≡ true) q label_may in
          landing_end_is M (part_here rows' back) shown_back fs G now x.place.row label_low (λ i. once_of (end_own M (part_here rows' back) shown_back fs G n x.place.row at.within label_low at_back.framed may i))
      landed_is false q = landing_row_is M (part_here rows' back) shown_back fs G now x.place.row

    abbrev followed : Bool → Res Run.Stop F.Turn
    followed b = F.follow M (cond b (landing x.place.row x.is_end) (F.away (target_for x))) G now

    went_is : after_it deck here.member n left (below_of below) G Q ≡ followed (eqb x.place.member here.member)
    went_is = ap (after_it deck here.member n left (below_of below) G) k.is

    came_went : (b : Bool) → eqb x.place.member here.member ≡ b
        → StepNow M (below_of below) deck rows' names' c' l' h' w' t' ls' back (cond b (landed_at (part_here rows' back) fs x g') (turned_by fs (Ok (St.Went x g')))).frames (after_it deck here.member n left (below_of below) G Q) B'
        (cond b (landed_at (part_here rows' back) fs x g') (turned_by fs (Ok (St.Went x g')))).step
    came_went true q =
        let e : x.place.member ≡ here.member = eqb-true x.place.member here.member q in
        record { stage = k.stage; frames = G; is = went_is ∙ ap followed q ∙ landed_is e x.is_end refl; at = landed_at_lem e }
    came_went false q = record {
      stage = k.stage;
      is = went_is ∙ ap followed q;
      reaches = record { at = k.reaches.at; stands = below_at (λ f. eqb-false x.place.member here.member q (sym f)); may = k.reaches.may; there = k.reaches.there };
    }

  came : (e : Result Ended (Stop × Progress)) (Q : Res Run.Stop F.End) → EndNow (record { member = here.member; row = n } ∷ below_of below) deck rows' names' c' l' h' w' t' ls' back Q B' e
      → StepNow M (below_of below) deck rows' names' c' l' h' w' t' ls' back (ended_to (part_here rows' back) fs n here.member e).frames (after_it deck here.member n left (below_of below) G Q) B' (ended_to (part_here rows' back) fs n here.member e).step
  came (Ok (En.Ran g')) Q k = record {
    stage = k.stage;
    frames = G;
    is = ap (after_it deck here.member n left (below_of below) G) k.is;
    at = walk_up M (part_here rows' back) B'.denotations fs G n at_back;
  }
  came (Ok (En.Went x g')) Q k = came_went x g' Q k (eqb x.place.member here.member) refl
  came (Err (x, g')) Q k = ap (after_it deck here.member n left (below_of below) G) k

-- ---- A STATEMENT BEGINS: the row n of the part pt is x, k is its step, g₁ is what there is when it was charged
module _ (deck s rows names c l h w t ls : List ℕ) (fs : Frames) (n : ℕ) (below : Below) (here : Here) (left : ℕ) (g : Progress) (pt : List ℕ) (ep : pt ≡ part_here rows here) (x : Row) (ex : x ≡ row_in pt n)
    (k : Charged) (ch : Charges g.meter k) (g₁ : Progress) (eg : g₁ ≡ with_meter g k.meter) where
  abbrev mine : F.Machine Run.Stop
  mine = machine_of (level_of left deck) deck here.member (below_of below)

  row_is : x ≡ row_in (part_here rows here) n
  row_is = ex ∙ ap (λ (i : List ℕ). row_in i n) ep

  due_is : (B : World) → Stage deck rows names c l h w t ls here.starts g B → Running deck s rows here below left B → (G : List F.Frame) → n < length mine.rows → k.paid ≡ false
      → F.turn mine (F.begin n) G (world_in B c l h g.meter.used) ≡ bad (Run.stop here.member x.place NoStep) k.meter.used
  unfolding member_machine
  due_is B st ru G low p =
      let place : x.place ≡ (F.at mine n).place = ap (λ (i : Row). i.place) row_is ∙ place_here deck s rows names c l h w t ls here g B st ru.member (level_of left deck) (below_of below) n low in
      begun_is mine n G (world_in B c l h g.meter.used) (bad NoStep k.meter.used) (charge_due deck rows names c l h w t ls here.starts g k ch B st p)
      ∙ ap (λ (i : ℕ). bad (Run.stop here.member i NoStep) k.meter.used) (sym place)

  pub begin_due : k.paid ≡ false → (y : Turned) → y ≡ refused_at fs g₁ NoStep here.member x.place → (r : Begun) → r ≡ begun_at here y → TurnIs deck s rows names c l h w t ls fs (Begin n) below here left g rows names c l h w t ls r
  begin_due p y ey r er = rw (er, ey, eg) record {
    is = λ B st ru G at nv. record { world = B; since = since_none rows B; start = refl; now = due_is B st ru G (at.begin n refl).within p };
  }

  -- the step is charged, and there is nothing to it but the statement
  paid_is : (B : World) → Stage deck rows names c l h w t ls here.starts g B → (G : List F.Frame) → k.paid ≡ true
      → F.turn mine (F.begin n) G (world_in B c l h g.meter.used) ≡ F.statement mine (F.at mine n).statement G n (world_in B c l h k.meter.used)
  paid_is B st G p = begun_is mine n G (world_in B c l h g.meter.used) (good tt (world_in B c l h k.meter.used)) (charge_paid deck rows names c l h w t ls here.starts g k ch B st p)

  abbrev charged : Progress
  charged = with_meter g k.meter

  module _ (p : k.paid ≡ true) (b : Bool) (eb : b ≡ is_include x.statement) where
    pub begin_statement : b ≡ false → (part : List ℕ) → part ≡ part_here rows here → (names' c' l' h' w' t' ls' : List ℕ) (y : Turned) → StatementIs deck s part rows names c l h w t ls fs n below here g₁ names' c' l' h' w' t' ls' y
        → (r : Begun) → r ≡ begun_at here y → TurnIs deck s rows names c l h w t ls fs (Begin n) below here left g rows names' c' l' h' w' t' ls' r
    begin_statement e part q names' c' l' h' w' t' ls' y si r er = rw er record {
      is = λ B st ru G at nv.
          let plain : is_include (row_in part n).statement ≡ false = ap (λ (i : List ℕ). is_include (row_in i n).statement) q ∙ ap (λ (i : Row). is_include i.statement) (sym row_is) ∙ sym eb ∙ e in
          let st₁ : Stage deck rows names c l h w t ls here.starts g₁ B = rw eg (stage_charged deck rows names c l h w t ls here.starts g k ch B st) in
          let so : StepIs mine (below_of below) deck rows names' c' l' h' w' t' ls' here y.frames (F.statement mine (F.at mine n).statement G n (world_in B c l h g₁.meter.used)) B y.step =
          si.is B st₁ ru.member q ru.stand (level_of left deck) G (rw q (at.begin n refl)) plain in
          let is : F.statement mine (F.at mine n).statement G n (world_in B c l h g₁.meter.used) ≡ F.turn mine (F.begin n) G (world_in B c l h g.meter.used) =
          ap (λ (i : Progress). F.statement mine (F.at mine n).statement G n (world_in B c l h i.meter.used)) eg ∙ sym (paid_is B st G p) in
          record {
            world = so.world;
            since = since_same rows B so.world so.later so.sentences;
            start = refl;
            now = subst (λ (R : Res Run.Stop F.Turn). StepNow mine (below_of below) deck rows names' c' l' h' w' t' ls' here y.frames R so.world y.step) is so.now;
          };
    }

    module _ (e : b ≡ true) (rows' names' c' l' h' w' t' ls' : List ℕ) (z : Left) (ia : IncludeAllIs deck rows names c l h w t ls n below here left charged rows' names' c' l' h' w' t' ls' z)
        (B : World) (st : Stage deck rows names c l h w t ls here.starts g B) (ru : Running deck s rows here below left B) (G : List F.Frame) (at : AtRow mine (part_here rows here) B.denotations fs G n) where
      st₁ : Stage deck rows names c l h w t ls here.starts charged B
      st₁ = stage_charged deck rows names c l h w t ls here.starts g k ch B st

      kind : (ns : List Deck.Sought) × ((F.at mine n).statement ≡ P.include ns)
      kind =
          let shown : Shown (part_here rows here) mine.rows = shown_here deck s rows names c l h w t ls here g B st ru.member (level_of left deck) (below_of below) in
          let f : is_include (kind_of (F.at mine n).statement) ≡ true = ap is_include (sym (shown.tabled.kind n at.within)) ∙ ap (λ (i : Row). is_include i.statement) (sym row_is) ∙ sym eb ∙ e in
          include_kind (F.at mine n).statement f

      abbrev place : ℕ
      place = (row_in (part_here rows here) n).place

      abbrev members : Res Run.Stop F.End
      members = include_on left deck place here.member (record { member = here.member; row = n } ∷ below_of below) kind.0 (world_in B c l h k.meter.used)

      ran : EndsAs (record { member = here.member; row = n } ∷ below_of below) deck rows B rows' names' c' l' h' w' t' ls' here.member members z × (start_in z.starts here.member ≡ start_in here.starts here.member)
      unfolding member_machine
      ran =
          let ru₁ : Running deck (body_in deck here.member) rows here below left B = subst (λ (i : List ℕ). Running deck i rows here below left B) ru.member.body ru in
          ia.is B st₁ ru₁ kind.0 at.within (names_here deck s rows names c l h w t ls here g B st ru.member (level_of left deck) (below_of below) n at.within kind.0 kind.1)

      turn_is : F.turn mine (F.begin n) G (world_in B c l h g.meter.used) ≡ after_it deck here.member n left (below_of below) G members
      turn_is =
          paid_is B st G p
          ∙ include_turns deck here.member n left (below_of below) G kind.0 (world_in B c l h k.meter.used) place kind.1 (place_here deck s rows names c l h w t ls here g B st ru.member (level_of left deck) (below_of below) n at.within)

      included : TurnsAs mine (below_of below) deck rows B rows' names' c' l' h' w' t' ls' here (F.turn mine (F.begin n) G (world_in B c l h g.meter.used)) (ended_at rows' fs n here z)
      included = record {
        world = ran.0.world;
        since = ran.0.since;
        start = ran.1;
        now = subst (λ (R : Res Run.Stop F.Turn). StepNow mine (below_of below) deck rows' names' c' l' h' w' t' ls' (here_at here.member z.starts) (ended_at rows' fs n here z).turned.frames R ran.0.world (ended_at rows' fs n here z).turned.step) (sym turn_is)
            (came deck s rows names c l h w t ls fs n below here left charged B st₁ ru.member G at rows' names' c' l' h' w' t' ls' z.starts ran.0.world ran.0.since ran.1 z.ended members ran.0.now);
      }

    pub begin_include : b ≡ true → (rows' names' c' l' h' w' t' ls' : List ℕ) (z : Left) → IncludeAllIs deck rows names c l h w t ls n below here left g₁ rows' names' c' l' h' w' t' ls' z
        → (r : Begun) → r ≡ ended_at rows' fs n here z → TurnIs deck s rows names c l h w t ls fs (Begin n) below here left g rows' names' c' l' h' w' t' ls' r
    begin_include e rows' names' c' l' h' w' t' ls' z ia r er =
        let ia₁ : IncludeAllIs deck rows names c l h w t ls n below here left charged rows' names' c' l' h' w' t' ls' z = rw eg at ia in
        rw er record { is = λ B st ru G at nv. included e rows' names' c' l' h' w' t' ls' z ia₁ B st ru G (at.begin n refl) }

-- ---- A TURN, by what is next
module _ (deck s rows names c l h w t ls : List ℕ) (fs : Frames) (y : Next) (below : Below) (here : Here) (left : ℕ) (g : Progress) where
  pub turn_begin : (n : ℕ) → y ≡ Begin n → (rows' names' c' l' h' w' t' ls' : List ℕ) (r : Begun) → TurnIs deck s rows names c l h w t ls fs (Begin n) below here left g rows' names' c' l' h' w' t' ls' r
      → TurnIs deck s rows names c l h w t ls fs y below here left g rows' names' c' l' h' w' t' ls' r
  turn_begin n e rows' names' c' l' h' w' t' ls' r ti = rw e ti

  pub turn_again : (n : ℕ) → y ≡ Again n → (part : List ℕ) → part ≡ part_here rows here → (c' l' h' w' t' ls' : List ℕ) (z : Turned) → AgainIs deck s part rows names c l h w t ls fs n here g c' l' h' w' t' ls' z
      → (r : Begun) → r ≡ begun_at here z → TurnIs deck s rows names c l h w t ls fs y below here left g rows names c' l' h' w' t' ls' r
  turn_again n e part q c' l' h' w' t' ls' z ai r er = rw (er, e) record {
    is = λ B st ru G at nv.
        let M : F.Machine Run.Stop = machine_of (level_of left deck) deck here.member (below_of below) in
        let so : StepIs M (below_of below) deck rows names c' l' h' w' t' ls' here z.frames (F.turn M (F.again n) G (world_in B c l h g.meter.used)) B z.step = ai.is B st ru.member q (level_of left deck) (below_of below) G (rw q (at.again n refl)) in
        record { world = so.world; since = since_same rows B so.world so.later so.sentences; start = refl; now = so.now };
  }

  -- where nothing is next there is no turn
  pub turn_over : y ≡ Over → (r : Begun) → TurnIs deck s rows names c l h w t ls fs y below here left g rows names c l h w t ls r
  turn_over e r = rw e record { is = λ B st ru G at nv. clash (cc) }
