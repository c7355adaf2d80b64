-- THE STAGE FURTHER ON: after texts it stands in a later world, and the member that runs is still in it. The rows of the member's
-- machine are those of the table, with their places and texts.
-- Assumes nothing.
use mathlib.Core.Path.{◌≡◌, refl, sym, ap, subst, ◌∙◌}
use mathlib.Core.List.{List}
use Prim.Native.Nat.{ℕ, ◌<◌, ◌≤◌}
use native.Mathlib.Omega.{arith}
use lib.ListN.{length, get_or}
use Rattle.definition.specs.Bytes.{mixed}
use Rattle.definition.specs.Program as P
use Rattle.definition.specs.Reading.{read_member}
use Rattle.definition.specs.World as W
use Rattle.definition.specs.World.{World, Res, builtin_name, variable_of, row_of, rows_in, rows_of}
use Rattle.definition.specs.Flow as F
use Rattle.definition.specs.Calls.{Place}
use Rattle.definition.specs.Run as Run
use Rattle.definition.specs.Run.{body_of, member_machine}
use Rattle.definition.specs.declared.ValueType.TheVariants.{FixedType}
use Rattle.deck.specs.Answer.{body_in}
use Rattle.meter.specs.declared.Meter.{Meter}
use Rattle.rows.specs.Table.{row_in}
use Rattle.rows.specs.declared.Starts.{Starts}
use Rattle.rows.specs.declared.Stretch.{Stretch}
use Rattle.flow.specs.declared.Frames.{Frames}
use Rattle.flow.specs.declared.Next.{Next}
use Rattle.flow.specs.declared.Walk.{Walk}
use Rattle.flow.specs.Shown.{Shown, Linked, AtRow, AtTest, AtNext, AtWalk}
use Rattle.flow.proofs.Arriving.{row_more, test_more, next_more, walk_more}
use Rattle.callees.specs.Shown.{Slots}
use Rattle.showing.specs.Worlds.{Wider, none, kept, Placed, Laid}
use Rattle.showing.specs.Listed.{Written}
use Rattle.showing.specs.Later.{Later}
use Rattle.showing.proofs.Later.{later_same}
use Rattle.showing.proofs.Laying.{laid_same}
use Rattle.showing.proofs.Stretches.{Ordered, text_ordered, lead_ordered}
use Rattle.showing.proofs.Worlds.{placed_same, rows_written}
use Rattle.texts.specs.declared.Progress.{Progress}
use Rattle.texts.specs.declared.Here.{Here}
use Rattle.texts.specs.Shown.{with_meter, stretch_for, Onstage, Goes, After, Lies}
use Rattle.texts.proofs.Common.{body_size, stage_values}
use Rattle.stepping.specs.Stage.{Stage, InMember, part_here, machine_of}

-- ---- a world that comes later
pub later_none : (B : World) → Later B B
later_none B = later_same B B refl refl refl

pub later_goes : (B B' : World) → Goes B B' → Later B B'
later_goes B B' h = later_same B B' h.denotations h.members h.limit

later_fixed : (B B' : World) → Later B B' → (j : ℕ) → get_or B.denotations j builtin_name ≡ variable_of FixedType → get_or B'.denotations j builtin_name ≡ variable_of FixedType
later_fixed B B' h j e = h.variables j FixedType e

module _ {M : F.Machine Run.Stop} {t : List ℕ} {fs : Frames} {G : List F.Frame} (B B' : World) (h : Later B B') where
  pub row_later : (n : ℕ) → AtRow M t B.denotations fs G n → AtRow M t B'.denotations fs G n
  row_later n r = row_more B'.denotations (later_fixed B B' h) n r

  pub test_later : (n : ℕ) → AtTest M t B.denotations fs G n → AtTest M t B'.denotations fs G n
  test_later n r = test_more B'.denotations (later_fixed B B' h) n r

  pub next_later : (x : Next) → AtNext M t B.denotations fs G x → AtNext M t B'.denotations fs G x
  next_later x r = next_more B'.denotations (later_fixed B B' h) x r

  pub walk_later : (x : Walk) → AtWalk M t B.denotations fs G x → AtWalk M t B'.denotations fs G x
  walk_later x r = walk_more B'.denotations (later_fixed B B' h) x r

-- ---- THE STAGE after texts, and after other values and steps
module _ (deck rows names c l h w t ls : List ℕ) (starts : Starts) (g : Progress) (B : World) (s : Stage deck rows names c l h w t ls starts g B) where
  pub stage_goes : (c' l' h' w' t' ls' : List ℕ) (g' : Progress) (B' : World) → Onstage deck rows names c' l' h' w' t' ls' starts g' B' → Goes B B' → g'.rows ≡ g.rows → length c' ≡ length c
      → Stage deck rows names c' l' h' w' t' ls' starts g' B'
  stage_goes c' l' h' w' t' ls' g' B' o k e f = record {
    onstage = o;
    placed = placed_same (body_in deck) B B' k.identifiers k.denotations k.members s.placed;
    laid = subst (λ (n : ℕ). Laid deck rows starts n B') (sym e) (laid_same deck rows starts g.rows B B' k.members s.laid);
    sentences = k.sentences ∙ s.sentences ∙ sym e;
    few = omega (arith, e, s.few);
    roomy = record { table = s.roomy.table; book = s.roomy.book; cells = omega (arith, f, s.roomy.cells) };
  }

  module _ {A : Type 0} (c' l' h' w' t' ls' : List ℕ) (g' : Progress) (v : A) (R : Res Run.Stop A) (a : After A deck rows names starts g B c' l' h' w' t' ls' g' v R) where
    pub stage_after : length c' ≡ length c → Stage deck rows names c' l' h' w' t' ls' starts g' a.world
    stage_after f = stage_goes c' l' h' w' t' ls' g' a.world a.stage a.goes a.tabled f

    pub later_after : Later B a.world
    later_after = later_goes B a.world a.goes

  pub stage_values_on : (c' l' h' w' : List ℕ) (m : Meter) → Slots B.denotations c' l' h' → length w' ≡ length w → length c' ≡ length c → m.limit ≡ B.limit
      → Stage deck rows names c' l' h' w' t ls starts (with_meter g m) B
  stage_values_on c' l' h' w' m i j f e = record {
    onstage = stage_values deck rows names c l h w t ls starts g B s.onstage c' l' h' w' m i j e;
    placed = s.placed;
    laid = s.laid;
    sentences = s.sentences;
    few = s.few;
    roomy = record { table = s.roomy.table; book = s.roomy.book; cells = omega (arith, f, s.roomy.cells) };
  }

  pub stage_meter_on : (m : Meter) → m.limit ≡ B.limit → Stage deck rows names c l h w t ls starts (with_meter g m) B
  stage_meter_on m e = stage_values_on c l h w m s.onstage.shows.slots refl refl e

-- ---- THE MEMBER that runs, in a world with the same members, and in a later one
module _ (deck s rows : List ℕ) (here : Here) (B B' : World) (i : InMember deck s rows here B) where
  pub member_same : B'.members ≡ B.members → InMember deck s rows here B'
  member_same e = record { body = i.body; whole = i.whole; short = i.short; low = i.low; entered = ap (λ (ms : List W.Entered). rows_in here.member ms) e ∙ i.entered }

  pub member_goes : Goes B B' → InMember deck s rows here B'
  member_goes k = member_same k.members

  entered_later : (rs qs xs : List P.Row) → Wider rs qs → Wider qs xs → rs ≡ xs → qs ≡ xs
  entered_later rs qs xs (kept e) k f = sym e ∙ f
  entered_later rs qs xs (none e) (kept k) f = k
  entered_later rs qs xs (none e) (none k) f = k ∙ sym e ∙ f

  pub member_later : Later B B' → Placed (body_in deck) B' → InMember deck s rows here B'
  member_later k p = record {
    body = i.body;
    whole = i.whole;
    short = i.short;
    low = i.low;
    entered = entered_later (rows_of here.member B) (rows_of here.member B') (read_member mixed (body_of deck here.member)).rows (k.rows here.member)
        (subst (λ (b : List ℕ). Wider (rows_of here.member B') (read_member mixed b).rows) i.whole (p.read here.member)) i.entered;
  }

-- ---- THE ROWS of its machine
module _ (deck s rows names c l h w t ls : List ℕ) (here : Here) (g : Progress) (B : World) (st : Stage deck rows names c l h w t ls here.starts g B) (i : InMember deck s rows here B) (inner : Run.Level) (on : List Place) where
  abbrev M : F.Machine Run.Stop
  M = machine_of inner deck here.member on

  pub machine_rows : rows_of here.member B ≡ M.rows
  unfolding member_machine
  machine_rows = i.entered

  pub machine_shown : Shown (part_here rows here) M.rows
  machine_shown = subst (Shown (part_here rows here)) machine_rows (st.onstage.shows.rowed.shown here.member)

  pub machine_linked : Linked M.rows
  machine_linked = subst Linked machine_rows (st.onstage.shows.rowed.linked here.member)

  pub machine_few : length M.rows ≤ 2048
  machine_few = subst (λ (rs : List P.Row). length rs ≤ 2048) machine_rows (st.onstage.shows.rowed.few here.member)

  pub machine_written : (n : ℕ) → n < length M.rows → Written (row_in (part_here rows here) n) (F.at M n)
  machine_written n k =
      subst (λ (rs : List P.Row). Written (row_in (part_here rows here) n) (row_of rs n)) machine_rows
      (rows_written deck rows here.starts g.rows B st.laid here.member n (subst (λ (rs : List P.Row). n < length rs) (sym machine_rows) k)).1

  -- ---- their texts lie in the body
  pub its_body : s ≡ body_of deck here.member
  its_body = i.body ∙ i.whole

  lies_by : (x : Stretch) (y : P.Stretch) → stretch_for x ≡ y → Ordered (body_of deck here.member) y → Lies deck here.member s x.from x.to
  lies_by x y e o =
      let k : Ordered s (stretch_for x) = rw (its_body, e) o in
      record { order = k.order; within = k.within; short = i.short; sized = ap (λ (z : List ℕ). length z) its_body ∙ body_size deck here.member }

  pub text_lies : (n : ℕ) → n < length M.rows → Lies deck here.member s (row_in (part_here rows here) n).text.from (row_in (part_here rows here) n).text.to
  unfolding member_machine
  text_lies n k = lies_by (row_in (part_here rows here) n).text (F.at M n).text (machine_written n k).text (text_ordered (body_of deck here.member) n)

  pub lead_lies : (n : ℕ) → n < length M.rows → Lies deck here.member s (row_in (part_here rows here) n).lead.from (row_in (part_here rows here) n).lead.to
  unfolding member_machine
  lead_lies n k = lies_by (row_in (part_here rows here) n).lead (F.at M n).lead (machine_written n k).lead (lead_ordered (body_of deck here.member) n)
