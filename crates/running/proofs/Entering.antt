-- A MEMBER IS READ, ENTERED AND RUN: the rooms show the world with it, and the values that there were.
-- Assumes nothing.
use Rattle.std.proofs.Common.{Result, Ok, Err}
use mathlib.Core.Logic.{◌⊎◌, inl, inr}
use mathlib.Core.Path.{◌≡◌, refl, sym, ap, subst, ◌∙◌}
use mathlib.Core.Bool.{true}
use mathlib.Core.List.{List, [], ◌++◌}
use Prim.Native.Nat.{ℕ, zero, suc, ◌+◌, ◌*◌, ◌-◌, ◌/◌, ◌<◌, ◌≤◌}
use native.Mathlib.Omega.{arith}
use borrow.Author.Tests.{eq-eqb}
use lib.ListN.{length, take, drop, length-append, length-drop, drop_of_length-le}
use lib.Seq.{take_all, length-take-le}
use Rattle.definition.specs.Bytes.{mixed}
use Rattle.definition.specs.Room.{over, zeros}
use Rattle.definition.specs.Deck as Deck
use Rattle.definition.specs.Program as P
use Rattle.definition.specs.Reading as D
use Rattle.definition.specs.Reading.{read_member}
use Rattle.definition.specs.World as W
use Rattle.definition.specs.declared.Layout.{Layout}
use Rattle.definition.specs.Events.{Event, text_of, lines_of}
use Rattle.definition.specs.Cards.{lines_as}
use Rattle.definition.specs.World.{World, Res, good, bad, rows_in, rows_of}
use Rattle.definition.specs.Names as N
use Rattle.definition.specs.Calls.{Place}
use Rattle.definition.specs.Flow as F
use Rattle.definition.specs.Run as Run
use Rattle.definition.specs.Run.{body_of}
use Rattle.definition.specs.Expansion as X
use Rattle.definition.specs.Expansion.{size_in}
use Rattle.definition.specs.declared.Why.{Why}
use Rattle.definition.proofs.Layouts.{main_layout}
use Rattle.definition.proofs.Rooms.{length_over}
use Rattle.deck.specs.Answer.{body_in}
use Rattle.names.specs.declared.Label.{Label}
use Rattle.names.specs.Table.{identifiers_from}
use Rattle.meter.specs.declared.Meter.{Meter}
use Rattle.output.specs.declared.Out.{Out}
use Rattle.output.specs.Shows as Output
use Rattle.rows.specs.Parts.{no_starts, StartsAt, PartPlace}
use Rattle.rows.specs.declared.Starts.{Starts}
use Rattle.entering.specs.Book as Book
use Rattle.entering.specs.Book.{book_of}
use Rattle.entering.specs.Entry.{Shows, Entry, goes_in, stays_out}
use Rattle.callees.specs.Shown as Callees
use Rattle.callees.specs.Shown.{Named, Slots, values_from, with_values, world_in}
use Rattle.callees.proofs.Naming.{denotations_length}
use Rattle.outcomes.specs.Texts as Outcomes
use Rattle.outcomes.specs.Texts.{Awake}
use Rattle.reading.specs.declared.Source.{Source}
use Rattle.reading.specs.Members.{names_of, Membered, Members, Whole}
use Rattle.showing.specs.Worlds.{Placed, Laid, member_in, Enters}
use Rattle.showing.specs.Later.{Grew}
use Rattle.showing.proofs.Bodies.{Lined, lined, main_low}
use Rattle.showing.proofs.Worlds.{Entered, entered_is, placed_new, placed_same, size_placed, rows_shown}
use Rattle.showing.proofs.Laying.{laid_new, laid_same, behind_back}
use Rattle.showing.proofs.Enters.{member_enters}
use Rattle.showing.proofs.Later.{later_same, later_on, later_enter}
use Rattle.showing.proofs.Returning.{grew_behind}
use Rattle.leaving.specs.declared.Below.{Below}
use Rattle.leaving.specs.Places.{below_of, NoneBelow, Stand}
use Rattle.texts.specs.declared.Progress.{Progress}
use Rattle.texts.specs.declared.Here.{Here}
use Rattle.texts.specs.declared.Stop.{Stop}
use Rattle.origin.specs.Written.{Filled, Written}
use Rattle.texts.specs.Shown.{stop_for, Onstage}
use Rattle.texts.proofs.Common.{written_none}
use Rattle.stepping.specs.declared.Ended.{Ended}
use Rattle.stepping.specs.declared.Ended.TheVariants as En
use Rattle.stepping.specs.Stage.{Roomy, Stage}
use Rattle.stepping.specs.Steps.{EndNow}
use Rattle.running.specs.declared.Left.{Left}
use Rattle.running.specs.Included.{entered_run, enter_run}
use Rattle.running.specs.Members.{here_at, Since, EndsAs, Deep, Running, SourceOf, SourceIs, EnterIs, RanTo, RunIs}
use Rattle.running.specs.Readers.{ReadIs, WithSource, StartedAt, stopped_at}
use Rattle.running.specs.Ways.{left_at}
use Rattle.running.proofs.Afterwards.{since_on, stand_later}
use Rattle.running.proofs.Values.{Held, declare_held, forgotten, values_forgotten, slots_forgotten}

-- ---- MEMBER k IS READ behind the rows that there are
pub read_behind : (deck rows names : List ℕ) (k : ℕ) (g : Progress) (from : ℕ) → PartPlace rows g.rows from → (t rows' names' : List ℕ) (r : Source)
    → Members deck (take (length rows - from) (drop from rows)) names k g.rows g.names t names' r → length t ≡ length (take (length rows - from) (drop from rows)) → length names' ≡ length names
    → rows' ≡ take from rows ++ (t ++ drop (length rows - from) (drop from rows)) → ReadIs deck rows names k g rows' names' r
read_behind deck rows names k g from p t rows' names' r h n e q =
    let all : take (length rows - from) (drop from rows) ≡ drop from rows = take_all (length rows - from) (drop from rows) (omega (arith, length-drop from rows)) in
    let none : drop (length rows - from) (drop from rows) ≡ [] = drop_of_length-le (drop from rows) {i = length rows - from} (omega (arith, length-drop from rows)) in
    record {
      part = t;
      reads = subst (λ (x : List ℕ). Members deck x names k g.rows g.names t names' r) (all ∙ p.is) h;
      behind = λ l. behind_back rows rows' t g.rows from p l q;
      size = omega (
        arith,
        ap (λ (x : List ℕ). length x) q,
        length-append (take from rows) (t ++ drop (length rows - from) (drop from rows)),
        length-append t (drop (length rows - from) (drop from rows)),
        ap (λ (x : List ℕ). length x) none,
        ap (λ (x : List ℕ). length x) all,
        n,
        length-drop from rows,
        length-take-le from rows p.within,
        p.within,
      );
      book = e;
    }

-- ---- small functions
progress_is : (g : Progress) (m : Meter) (y : Layout) (o : Out) (r n : ℕ) → g.meter ≡ m → g.layout ≡ y → g.out ≡ o → g.rows ≡ r → g.names ≡ n → record { meter = m; layout = y; out = o; rows = r; names = n } ≡ g
progress_is g m y o r n e a f p q = rw (← e, ← a, ← f, ← p, ← q)

pub here_is : (here : Here) (m : ℕ) → here.member ≡ m → here ≡ here_at m here.starts
here_is here m e = ap (λ (k : ℕ). here_at k here.starts) e

-- ---- the table of names is read by two crates
dens_same : (t : List ℕ) (a n : ℕ) → Book.denotations_from t a n ≡ Callees.denotations_from t a n
unfolding Book.denotations_from Callees.denotations_from
dens_same t a zero = refl
dens_same t a (suc n) = rw (dens_same t (suc a) n)

acts_same : (t : List ℕ) (a n : ℕ) → Book.activities_from t a n ≡ Outcomes.activities_from t a n
unfolding Book.activities_from Outcomes.activities_from
acts_same t a zero = refl
acts_same t a (suc n) = rw (acts_same t (suc a) n)

book_shown : (deck names : List ℕ) (n : ℕ) (B : World) → Named deck names n B → Awake deck names n B → Shows B (names_of deck names n)
unfolding book_of
book_shown deck names n B h a = record { identifiers = h.identifiers; denotations = h.denotations ∙ sym (dens_same names 0 n); activities = a.activities ∙ sym (acts_same names 0 n) }

book_named : (deck names : List ℕ) (n : ℕ) (B : World) → Shows B (names_of deck names n) → Named deck names n B
unfolding book_of
book_named deck names n B h = record { identifiers = h.identifiers; denotations = h.denotations ∙ dens_same names 0 n }

book_awake : (deck names : List ℕ) (n : ℕ) (B : World) → Shows B (names_of deck names n) → Awake deck names n B
unfolding book_of
book_awake deck names n B h = record { identifiers = h.identifiers; activities = h.activities ∙ acts_same names 0 n }

-- ---- a world with a member more, by its tables
grown_written : (sizes : ℕ → ℕ) (y : Layout) (t ls : List ℕ) (o : Out) (B v : World) → v.layout ≡ B.layout → v.events ≡ B.events → v.text_left ≡ B.text_left → v.lines_left ≡ B.lines_left → Written sizes y t ls o B → Written sizes y t ls o v
grown_written sizes y t ls o B v a e f k h = record {
  layout = a ∙ h.layout;
  events = h.events;
  out = h.out;
  fine = h.fine;
  same = h.same ∙ ap text_of (sym e);
  told = h.told ∙ ap (λ (es : List Event). lines_as y sizes (lines_of es)) (sym e);
  full = subst (λ (es : List Event). Filled (lines_of es)) (sym e) h.full;
  text = f ∙ h.text;
  lines = k ∙ h.lines;
}

-- values and steps are those of the world
world_back : (v : World) (vs : List W.Cell) (n : ℕ) → vs ≡ v.values → n ≡ v.used → with_values vs n v ≡ v
world_back v vs n e f = rw (e, f)

rows_newest : (m : ℕ) (s : P.Source) (v : World) → rows_of m (N.with_member m s v) ≡ s.rows
unfolding rows_in
rows_newest m s v = rw (eq-eqb m m refl)

-- ---- THE HEART: the rooms show the world B, and the member m of the deck was read
module _ (deck rows names c l h w t ls : List ℕ) (starts : Starts) (g : Progress) (B : World) (S : Stage deck rows names c l h w t ls starts g B) (m : ℕ) (sound : Deck.is_sound mixed deck ≡ true) (line : m < Deck.count deck)
    (rows' names' : List ℕ) (x : Source) (R : ReadIs deck rows names m g rows' names' x) where
  abbrev before : World
  before = world_in B c l h g.meter.used

  table : 16 * g.rows ≤ length rows
  table = omega (arith, S.few, S.roomy.table)

  membered : Membered deck (body_in deck m) names m g.rows g.names R.part names' x
  membered =
      let b : Lined deck m = lined deck sound m line in
      R.reads.so (record {
        lies = b.lies;
        short = b.short;
        rows = λ n k j. omega (arith, k, j, length-drop (16 * g.rows) rows, S.roomy.table);
        room = S.roomy.book;
        few = omega (arith, ap (λ (ds : List W.Denotation). length ds) S.onstage.shows.named.denotations, denotations_length names 0 g.names, S.onstage.shows.slots.few);
        sentences = S.few;
      })

  shown_before : Shows before (names_of deck names g.names)
  shown_before =
      let b : Shows B (names_of deck names g.names) = book_shown deck names g.names B S.onstage.shows.named S.onstage.awake in
      record { identifiers = b.identifiers; denotations = b.denotations; activities = b.activities }

  -- the table grew, whatever was read
  grew_read : Grew rows B.sentences rows'
  grew_read = subst (λ (n : ℕ). Grew rows n rows') (sym S.sentences) (grew_behind rows rows' R.part g.rows (R.behind table) R.size)

  -- a member that is refused
  entry_refused : (f : Result (Unit {0}) (Why × ℕ)) (e : Why) (p : ℕ) → f ≡ Err (e, p) → Entry m (D.read_member mixed (body_in deck m)) (names_of deck names' x.names) (N.enter m (D.read_member mixed (body_in deck m)) before) f
      → N.enter m (D.read_member mixed (body_in deck m)) before ≡ N.unreadable e p
  entry_refused f e p q (goes_in v a b z) = let k : ◌≡◌ {A = ℕ} 0 1 = cc in absurd (omega arith)
  entry_refused f e p q (stays_out y k a z) =
      let i : ◌≡◌ {A = Result (Unit {0}) (Why × ℕ)} (Err (y, k)) (Err (e, p)) = sym z ∙ q in
      let o : ◌≡◌ {A = Why × ℕ} (y, k) (e, p) = cc in
      let j : y ≡ e = ap (λ (v : Why × ℕ). v.0) o in
      let n : k ≡ p = ap (λ (v : Why × ℕ). v.1) o in
      a ∙ rw (j, n)

  refused_read : (e : Why) (p : ℕ) → x.fault ≡ Err (e, p) → (left : ℕ) (on : List Place) → enter_run left deck m on before ≡ bad (Run.stop m p e) g.meter.used
  unfolding enter_run
  refused_read e p q left on =
      let b : Lined deck m = lined deck sound m line in
      let out : N.enter m (D.read_member mixed (body_of deck m)) before ≡ N.unreadable e p =
      subst (λ (s : List ℕ). N.enter m (D.read_member mixed s) before ≡ N.unreadable e p) b.same (entry_refused x.fault e p q (membered.enters before shown_before S.sentences)) in
      ap (λ (y : N.Entering). entered_run y m before (λ v. Run.run_member mixed left deck m on v)) out

  -- a member that goes in, where its rows start behind the others
  module _ (starts' : Starts) (st : StartsAt starts m g.rows starts') (fine : x.fault ≡ (Ok tt)) where
    whole : Whole deck (body_in deck m) m g.rows (names_of deck names g.names) R.part names' x
    whole = membered.whole fine

    placed_before : Placed (body_in deck) before
    placed_before = placed_same (body_in deck) B before refl refl refl S.placed

    goes : Enters deck rows' names' starts' m (g.rows + x.rows) x.names before
    goes =
        member_enters deck rows rows' names names' R.part starts starts' m g.rows g.names x before placed_before (laid_same deck rows starts g.rows B before refl S.laid) S.sentences (R.behind table) st
        (lined deck sound m line).low membered fine shown_before

    -- the world with it
    abbrev after : World
    after = member_in deck m goes.named

    held : Held B.denotations after.denotations
    held =
        let y : Entered m (D.read_member mixed (body_in deck m)) before after = entered_is m (D.read_member mixed (body_in deck m)) before after goes.is in
        subst (λ (ds : List W.Denotation). Held B.denotations ds) (sym (ap (λ (z : World). z.denotations) y.world)) (declare_held m (D.read_member mixed (body_in deck m)).declared before y.named y.declared)

    named_after : Named deck names' x.names after
    named_after = let n : Named deck names' x.names goes.named = book_named deck names' x.names goes.named goes.book in record { identifiers = n.identifiers; denotations = n.denotations }

    awake_after : Awake deck names' x.names after
    awake_after = let n : Awake deck names' x.names goes.named = book_awake deck names' x.names goes.named goes.book in record { identifiers = n.identifiers; activities = n.activities }

    count_before : length B.denotations ≡ g.names
    count_before = ap (λ (ds : List W.Denotation). length ds) S.onstage.shows.named.denotations ∙ denotations_length names 0 g.names

    count_after : length after.denotations ≡ x.names
    count_after = ap (λ (ds : List W.Denotation). length ds) named_after.denotations ∙ denotations_length names' 0 x.names

    -- what is not in the tables stays
    still : {A : Type 0} (f : World → A) → f goes.named ≡ f (W.with_tables goes.named.identifiers goes.named.denotations goes.named.values goes.named.activities before)
    still f = ap f goes.grown.tables

    -- the new names have no value
    module _ (c' : List ℕ) (zero-new : c' ≡ over c g.names (zeros (x.names - g.names))) where
      cells : c' ≡ forgotten c (length B.denotations) (length after.denotations)
      cells = zero-new ∙ sym (ap (λ (i : ℕ). over c i (zeros (x.names - i))) count_before) ∙ sym (ap (λ (i : ℕ). over c (length B.denotations) (zeros (i - length B.denotations))) count_after)

      room : length after.denotations ≤ length c
      room = omega (arith, count_after, whole.few, S.roomy.cells)

      world_after : world_in after c' l h g.meter.used ≡ after
      world_after =
          let size : length after.denotations ≡ length B.denotations + goes.grown.more =
          omega (arith, size_placed (body_in deck) after goes.placed, size_placed (body_in deck) B S.placed, goes.grown.names) in
          world_back after (values_from after.denotations 0 c' l h) g.meter.used
          (ap (λ (d : List ℕ). values_from after.denotations 0 d l h) cells ∙ values_forgotten B.denotations after.denotations c l h held room goes.grown.more size ∙ sym goes.grown.values)
          (sym (still (λ z. z.used)))

      onstage_after : Onstage deck rows' names' c' l h w t ls starts' (record { meter = g.meter; layout = g.layout; out = g.out; rows = g.rows + x.rows; names = x.names }) after
      onstage_after = record {
        shows = record {
          named = named_after;
          rowed = goes.shown;
          slots = subst (λ (d : List ℕ). Slots after.denotations d l h) (sym cells) (slots_forgotten B.denotations after.denotations c l h held room (omega (arith, count_after, whole.few)) S.onstage.shows.slots);
          work = S.onstage.shows.work;
          taken = omega arith;
          limit = S.onstage.shows.limit ∙ sym (still (λ z. z.limit));
          left = S.onstage.shows.left;
        };
        awake = awake_after;
        written = grown_written (size_in deck) g.layout t ls g.out B after (still (λ z. z.layout)) (still (λ z. z.events)) (still (λ z. z.text_left)) (still (λ z. z.lines_left)) S.onstage.written;
      }

      stage_new : Stage deck rows' names' c' l h w t ls starts' (record { meter = g.meter; layout = g.layout; out = g.out; rows = g.rows + x.rows; names = x.names }) after
      stage_new = record {
        onstage = onstage_after;
        placed = goes.placed;
        laid = goes.laid;
        sentences = goes.sentences;
        few = whole.sentences;
        roomy = record {
          table = omega (arith, R.size, S.roomy.table);
          book = omega (arith, R.book, S.roomy.book);
          cells = omega (arith, ap (λ (d : List ℕ). length d) zero-new, length_over c g.names (zeros (x.names - g.names)), S.roomy.cells);
        };
      }

      -- THE STAGE with the member
      stage_after : (g' : Progress) → WithSource g x g' → Stage deck rows' names' c' l h w t ls starts' g' after
      stage_after g' e =
          subst (λ (z : Progress). Stage deck rows' names' c' l h w t ls starts' z after)
          (progress_is g' g.meter g.layout g.out (g.rows + x.rows) x.names e.meter e.layout e.out (e.rows whole.sentences) e.names) stage_new

      since_after : Since rows B rows' after
      since_after = record {
        later = later_on B before after (later_same B before refl refl refl) (later_enter (body_in deck) m before after placed_before goes.is);
        more = omega (arith, S.sentences, goes.sentences);
        grew = grew_read;
      }

      -- it runs
      running_after : (below : Below) (left : ℕ) → Stand (below_of below) B → Deep below left → Running deck (body_in deck m) rows' (here_at m starts') below left after
      running_after below left stand deep =
          let b : Lined deck m = lined deck sound m line in
          record {
            sound = sound;
            line = line;
            member = record {
              body = refl;
              whole = b.same;
              short = b.short;
              low = b.low;
              entered = rows_newest m (D.read_member mixed (body_in deck m)) goes.named ∙ ap (λ (s : List ℕ). (D.read_member mixed s).rows) b.same;
            };
            stand = stand_later (below_of below) B after since_after.later stand;
            deep = deep;
          }

      source_after : SourceOf (D.read_member mixed (body_of deck m)) x
      source_after = subst (λ (s : List ℕ). SourceOf (D.read_member mixed s) x) (lined deck sound m line).same (record { lead = whole.reads.lead; first = whole.reads.first })

      run_after : (left : ℕ) (on : List Place) → enter_run left deck m on before ≡ Run.run_member mixed left deck m on (world_in after c' l h g.meter.used)
      unfolding enter_run
      run_after left on =
          let in' : N.enter m (D.read_member mixed (body_of deck m)) before ≡ N.entered after =
          subst (λ (s : List ℕ). N.enter m (D.read_member mixed s) before ≡ N.entered after) (lined deck sound m line).same goes.is in
          ap (λ (y : N.Entering). entered_run y m before (λ v. Run.run_member mixed left deck m on v)) in' ∙ ap (λ (v : World). Run.run_member mixed left deck m on v) (sym world_after)

-- ---- THE ANSWERS of `enter_and_run`
module _ (deck rows names c l h w t ls : List ℕ) (below : Below) (here : Here) (left : ℕ) (g : Progress) (rows' names' : List ℕ) (x : Source) (R : ReadIs deck rows names here.member g rows' names' x) where
  pub enter_refused : (e : Why) (p : ℕ) (y : Result Ended (Stop × Progress)) (r : Left) → x.fault ≡ Err (e, p) → y ≡ stopped_at g e here.member p → r ≡ left_at here y → EnterIs deck rows names c l h w t ls below here left g rows' names' c l h w t ls r
  enter_refused e p y r f a b =
      subst (λ (z : Left). EnterIs deck rows names c l h w t ls below here left g rows' names' c l h w t ls z) (sym (b ∙ ap (λ (z : Result Ended (Stop × Progress)). left_at here z) a))
      (record {
        is = λ B S sound line stand deep. record {
          world = B;
          since = record { later = later_same B B refl refl refl; more = omega arith; grew = grew_read deck rows names c l h w t ls here.starts g B S here.member sound line rows' names' x R };
          now = refused_read deck rows names c l h w t ls here.starts g B S here.member sound line rows' names' x R e p f left (below_of below);
        };
      })

  pub enter_runs : (c' : List ℕ) (here' : Here) (g' : Progress) (rows'' names'' c'' l'' h'' w'' t'' ls'' : List ℕ) (r : Left) → x.fault ≡ (Ok tt) → c' ≡ over c g.names (zeros (x.names - g.names))
      → StartedAt here here.starts g.rows here' → WithSource g x g' → SourceIs deck rows' names' c' l h w t ls x below here' left g' rows'' names'' c'' l'' h'' w'' t'' ls'' r
      → EnterIs deck rows names c l h w t ls below here left g rows'' names'' c'' l'' h'' w'' t'' ls'' r
  enter_runs c' here' g' rows'' names'' c'' l'' h'' w'' t'' ls'' r f z st e run =
      let k : SourceIs deck rows' names' c' l h w t ls x below (here_at here.member here'.starts) left g' rows'' names'' c'' l'' h'' w'' t'' ls'' r =
      subst (λ (y : Here). SourceIs deck rows' names' c' l h w t ls x below y left g' rows'' names'' c'' l'' h'' w'' t'' ls'' r) (here_is here' here.member st.member) run in
      record { is = λ B S sound line stand deep. by k B S sound line stand deep }
    where
      by : SourceIs deck rows' names' c' l h w t ls x below (here_at here.member here'.starts) left g' rows'' names'' c'' l'' h'' w'' t'' ls'' r → (B : World) → Stage deck rows names c l h w t ls here.starts g B
          → Deck.is_sound mixed deck ≡ true → here.member < Deck.count deck → Stand (below_of below) B → Deep below left
          → EndsAs (below_of below) deck rows B rows'' names'' c'' l'' h'' w'' t'' ls'' here.member (enter_run left deck here.member (below_of below) (world_in B c l h g.meter.used)) r
      by k B S sound line stand deep =
          let A : World = member_in deck here.member (goes deck rows names c l h w t ls here.starts g B S here.member sound line rows' names' x R here'.starts st.starts f).named in
          let stage : Stage deck rows' names' c' l h w t ls here'.starts g' A = stage_after deck rows names c l h w t ls here.starts g B S here.member sound line rows' names' x R here'.starts st.starts f c' z g' e in
          let runs : Running deck (body_in deck here.member) rows' (here_at here.member here'.starts) below left A =
          running_after deck rows names c l h w t ls here.starts g B S here.member sound line rows' names' x R here'.starts st.starts f c' z below left stand deep in
          let is : enter_run left deck here.member (below_of below) (world_in B c l h g.meter.used) ≡ Run.run_member mixed left deck here.member (below_of below) (world_in A c' l h g'.meter.used) =
          run_after deck rows names c l h w t ls here.starts g B S here.member sound line rows' names' x R here'.starts st.starts f c' z left (below_of below)
          ∙ ap (λ (y : Meter). Run.run_member mixed left deck here.member (below_of below) (world_in A c' l h y.used)) (sym e.meter) in
          let ends : EndsAs (below_of below) deck rows' A rows'' names'' c'' l'' h'' w'' t'' ls'' here.member (Run.run_member mixed left deck here.member (below_of below) (world_in A c' l h g'.meter.used)) r =
          k.is A stage runs (source_after deck rows names c l h w t ls here.starts g B S here.member sound line rows' names' x R here'.starts st.starts f c' z) in
          let since : Since rows B rows' A = since_after deck rows names c l h w t ls here.starts g B S here.member sound line rows' names' x R here'.starts st.starts f c' z in
          subst (λ (y : Res Run.Stop F.End). EndsAs (below_of below) deck rows B rows'' names'' c'' l'' h'' w'' t'' ls'' here.member y r) (sym is)
          (record { world = ends.world; since = since_on rows rows' rows'' B A ends.world since ends.since; now = ends.now })

-- whatever ends well is finished
finished_any : (e : F.End) (v : World) → X.result (good e v) ≡ X.finished v
finished_any F.ran v = refl
finished_any (F.returned z) v = refl
finished_any (F.went z) v = refl

bad_good : {A : Type 0} {s : Run.Stop} {u : ℕ} {e : F.End} {v : World} → ◌≡◌ {A = Res Run.Stop F.End} (bad s u) (good e v) → A
bad_good q = let z : ◌≡◌ {A = ℕ} 0 1 = cc in absurd (omega arith)

-- ---- THE RUN begins: no names, no rows, nothing is put out
main_world_lem : (c l h : List ℕ) (y : Layout) (steps text lines : ℕ) → world_in (W.new_world y steps text lines) c l h 0 ≡ W.new_world y steps text lines
unfolding values_from
main_world_lem c l h y steps text lines = refl

main_written : (sizes : ℕ → ℕ) (y : Layout) (t ls : List ℕ) (o : Out) (steps : ℕ) → t ≡ zeros (length t) → ls ≡ zeros (length ls) → Output.Begins (length t) (length ls) o → Written sizes y t ls o (X.world_for y (length t) (length ls) steps)
main_written sizes y t ls o steps e f b =
    grown_written sizes y t ls o (W.new_world y steps o.room o.free) (X.world_for y (length t) (length ls) steps) refl refl (sym b.room) (sym b.free) (written_none sizes y t ls o steps e f b)

main_stage : (deck rows names c l h w t ls : List ℕ) (m : Meter) (y : Layout) (o : Out) → t ≡ zeros (length t) → ls ≡ zeros (length ls) → Output.Begins (length t) (length ls) o → Roomy rows names c → 65536 ≤ length l → 65536 ≤ length h
    → 65536 ≤ length w → Stage deck rows names c l h w t ls no_starts (record { meter = m; layout = y; out = o; rows = 0; names = 0 }) (X.world_for y (length t) (length ls) m.limit)
unfolding identifiers_from Callees.denotations_from Outcomes.activities_from
main_stage deck rows names c l h w t ls m y o e f b roomy low high work =
    let B : World = X.world_for y (length t) (length ls) m.limit in
    let placed : Placed (body_in deck) B = placed_new (body_in deck) y m.limit (X.capped (length t)) (length ls / 12) in
    let laid : Laid deck rows no_starts 0 B = laid_new deck rows y m.limit (X.capped (length t)) (length ls / 12) in
    record {
      onstage = record {
        shows = record {
          named = record { identifiers = refl; denotations = refl };
          rowed = rows_shown deck rows no_starts B laid.stored placed (omega arith);
          slots = record { few = omega arith; cells = omega arith; low = low; high = high; short = λ j q. let z : ◌≡◌ {A = ℕ} 0 1 = cc in absurd (omega arith) };
          work = work;
          taken = omega arith;
          limit = refl;
          left = omega arith;
        };
        awake = record { identifiers = refl; activities = refl };
        written = main_written (size_in deck) y t ls o m.limit e f b;
      };
      placed = placed;
      laid = laid;
      sentences = refl;
      few = omega arith;
      roomy = roomy;
    }

module _ (deck rows names c l h w t ls : List ℕ) (y : Layout) (steps : ℕ) (m : Meter) (o : Out) (starts : Starts) (below : Below) (meter : (m.limit ≡ steps) × (m.used ≡ 0)) (out : Output.Begins (length t) (length ls) o) (first : starts ≡ no_starts)
    (top : NoneBelow below) (rows' names' c' l' h' w' t' ls' : List ℕ) (x : Left)
    (run : EnterIs deck rows names c l h w t ls below (here_at 0 starts) 8 (record { meter = m; layout = y; out = o; rows = 0; names = 0 }) rows' names' c' l' h' w' t' ls' x) where
  -- how the main program ends
  abbrev Main : Type 0
  Main = EndsAs [] deck rows (X.world_for y (length t) (length ls) steps) rows' names' c' l' h' w' t' ls' 0 (enter_run 8 deck 0 [] (X.world_for y (length t) (length ls) steps)) x

  main_ends : Deck.is_sound mixed deck ≡ true → Roomy rows names c → 65536 ≤ length l → 65536 ≤ length h → 65536 ≤ length w → t ≡ zeros (length t) → ls ≡ zeros (length ls) → Main
  main_ends sound roomy low high work e f =
      let B : World = X.world_for y (length t) (length ls) steps in
      let S : Stage deck rows names c l h w t ls starts (record { meter = m; layout = y; out = o; rows = 0; names = 0 }) B =
      subst (λ (z : Starts). Stage deck rows names c l h w t ls z (record { meter = m; layout = y; out = o; rows = 0; names = 0 }) B) (sym first)
      (subst (λ (n : ℕ). Stage deck rows names c l h w t ls no_starts (record { meter = m; layout = y; out = o; rows = 0; names = 0 }) (X.world_for y (length t) (length ls) n)) meter.0 (main_stage deck rows names c l h w t ls m y o e f out roomy low high work)) in
      let same : world_in B c l h m.used ≡ B = ap (λ (n : ℕ). world_in B c l h n) meter.1 ∙ main_world_lem c l h y steps (X.capped (length t)) (length ls / 12) in
      subst (λ (v : World). EndsAs [] deck rows B rows' names' c' l' h' w' t' ls' 0 (enter_run 8 deck 0 [] v) x) same
      (subst (λ (on : List Place). EndsAs on deck rows B rows' names' c' l' h' w' t' ls' 0 (enter_run 8 deck 0 on (world_in B c l h m.used)) x) top.is
      (run.is B S sound (main_low deck sound) (subst (λ (on : List Place). Stand on B) (sym top.is) tt) (omega (arith, top.count))))

  -- its answers
  abbrev Ended' : Main → Result Ended (Stop × Progress) → Type 0
  Ended' k e = EndNow [] deck rows' names' c' l' h' w' t' ls' (here_at 0 x.starts) (enter_run 8 deck 0 [] (X.world_for y (length t) (length ls) steps)) k.world e

  -- what was told stays told
  layout_kept : (E : N.Entering) → E ≡ N.enter 0 (read_member mixed (body_of deck 0)) (X.world_for y (length t) (length ls) steps) → (e : F.End) (v : World) → entered_run E 0 (X.world_for y (length t) (length ls) steps) (λ u. Run.run_member mixed 8 deck 0 [] u) ≡ good e v → v.layout ≡ y
  layout_kept (N.unreadable z p) i e v q = bad_good q
  layout_kept (N.entered u) i e v q = main_layout y deck (length t) (length ls) steps (sym i) q

  told_kept : (e : F.End) (v : World) → enter_run 8 deck 0 [] (X.world_for y (length t) (length ls) steps) ≡ good e v → v.layout ≡ y
  unfolding enter_run
  told_kept e v q = layout_kept (N.enter 0 (read_member mixed (body_of deck 0)) (X.world_for y (length t) (length ls) steps)) refl e v q

  ran_to : (e : F.End) (g : Progress) (B : World) → Written (size_in deck) g.layout t' ls' g.out B → enter_run 8 deck 0 [] (X.world_for y (length t) (length ls) steps) ≡ good e (world_in B c' l' h' g.meter.used) → RanTo deck y t' ls' (enter_run 8 deck 0 [] (X.world_for y (length t) (length ls) steps)) (Ok g)
  ran_to e g B v q =
      let W : World = world_in B c' l' h' g.meter.used in
      let u : Written (size_in deck) g.layout t' ls' g.out W = grown_written (size_in deck) g.layout t' ls' g.out B W refl refl refl refl v in
      (W, subst (λ (z : Layout). Written (size_in deck) z t' ls' g.out W) (sym v.layout ∙ told_kept e W q) u, ap X.result q ∙ finished_any e W, refl)

  ran_on : (e : Result Ended (Stop × Progress)) (g : Progress) → x.ended ≡ e → ((k : Main) → Ended' k e → RanTo deck y t' ls' (enter_run 8 deck 0 [] (X.world_for y (length t) (length ls) steps)) (Ok g)) → RunIs y deck rows names c l h w t ls steps t' ls' (Ok g)
  ran_on e g q f = record { is = λ sound roomy low high work z a. let k : Main = main_ends sound roomy low high work z a in f k (subst (Ended' k) q k.now) }

  pub run_ran : (g : Progress) → (x.ended ≡ Ok (En.Ran g)) ⊎ ((q : Label) × (x.ended ≡ Ok (En.Went q g))) → RunIs y deck rows names c l h w t ls steps t' ls' (Ok g)
  run_ran g (inl e) = ran_on (Ok (En.Ran g)) g e (λ k d. ran_to _ g k.world d.stage.onstage.written d.is)
  run_ran g (inr (q, e)) = ran_on (Ok (En.Went q g)) g e (λ k d. ran_to _ g k.world d.stage.onstage.written d.is)

  -- the same of what the run of the main program gave
  pub run_ok : (d : Ended) (g : Progress) → x.ended ≡ Ok d → (d ≡ En.Ran g) ⊎ ((q : Label) × (d ≡ En.Went q g)) → RunIs y deck rows names c l h w t ls steps t' ls' (Ok g)
  run_ok d g e (inl i) = run_ran g (inl (e ∙ ap Ok i))
  run_ok d g e (inr (q, i)) = run_ran g (inr (q, e ∙ ap Ok i))

  pub run_bad : (q : Stop) (g : Progress) → x.ended ≡ Err (q, g) → RunIs y deck rows names c l h w t ls steps t' ls' (Err (q, g))
  run_bad q g e = record {
    is = λ sound roomy low high work z a. let k : Main = main_ends sound roomy low high work z a in let d : Ended' k (Err (q, g)) = subst (Ended' k) e k.now in (stop_for q, refl, ap X.result d);
  }

  pub run_out : (z : Stop × Progress) → x.ended ≡ Err z → RunIs y deck rows names c l h w t ls steps t' ls' (Err z)
  run_out (q, g) e = run_bad q g e
