-- FROM THE READER'S CONTRACT: the member that was read goes in, with its names and its rows, and all rows are shown.
-- Assumes nothing.
use Rattle.std.proofs.Common.{Result, Ok}
use Rattle.definition.specs.declared.Why.{Why}
use mathlib.Core.Path.{◌≡◌, sym, ap, ◌∙◌}
use mathlib.Core.List.{List}
use Prim.Native.Nat.{ℕ, ◌+◌, ◌<◌}
use native.Mathlib.Omega.{arith}
use lib.ListN.{length}
use Rattle.definition.specs.Bytes.{mixed}
use Rattle.definition.specs.Program as P
use Rattle.definition.specs.Reading as D
use Rattle.definition.specs.World as W
use Rattle.definition.specs.World.{World}
use Rattle.definition.specs.Names as N
use Rattle.deck.specs.Answer.{body_in}
use Rattle.rows.specs.Parts.{StartsAt}
use Rattle.rows.specs.declared.Starts.{Starts}
use Rattle.entering.specs.Book.{Book, book_of}
use Rattle.entering.specs.Entry.{Shows, Entry, goes_in, stays_out}
use Rattle.entering.proofs.Laws.{identifiers_length}
use Rattle.reading.specs.declared.Source.{Source}
use Rattle.reading.specs.Members.{names_of, Whole, Membered}
use Rattle.showing.specs.Worlds.{Placed, Laid, Behind, Grown, Enters}
use Rattle.showing.proofs.Turning.{member_sound}
use Rattle.showing.proofs.Tabling.{size_read}
use Rattle.showing.proofs.Worlds.{Entered, entered_is, entered_grown, placed_enter, rows_shown}
use Rattle.showing.proofs.Laying.{laid_enter}

names_size : (deck n : List ℕ) (k : ℕ) (w : World) → Shows w (names_of deck n k) → length w.identifiers ≡ k
unfolding book_of
names_size deck n k w h = ap (λ (l : List W.Identifier). length l) h.identifiers ∙ identifiers_length deck n k

-- the world with the names, by the entry and by the definition
same_book : (m : ℕ) (s : P.Source) (u v : World) (c : Book) → N.with_member m s v ≡ N.with_member m s u → Shows v c → Shows u c
same_book m s u v c e h = record {
  identifiers = ap (λ (z : World). z.identifiers) (sym e) ∙ h.identifiers;
  denotations = ap (λ (z : World). z.denotations) (sym e) ∙ h.denotations;
  activities = ap (λ (z : World). z.activities) (sym e) ∙ h.activities;
}

-- the member m was read behind the rows of w
module _ (deck rows rows' n n' t : List ℕ) (starts starts' : Starts) (m entered names : ℕ) (r : Source) (w : World) (placed : Placed (body_in deck) w) (laid : Laid deck rows starts entered w) (count : w.sentences ≡ entered)
    (back : Behind rows entered rows' t) (st : StartsAt starts m entered starts') (low : m < 32) where
  goes : Whole deck (body_in deck m) m entered (names_of deck n names) t n' r → (v : World) → N.enter m (D.read_member mixed (body_in deck m)) w ≡ N.entered (N.with_member m (D.read_member mixed (body_in deck m)) v)
      → Shows v (names_of deck n' r.names) → Enters deck rows' n' starts' m (entered + r.rows) r.names w
  goes whole v q sh =
      let s : P.Source = D.read_member mixed (body_in deck m) in
      let x : Entered m s w (N.with_member m s v) = entered_is m s w (N.with_member m s v) q in
      let u : World = x.named in
      let is : N.enter m s w ≡ N.entered (N.with_member m s u) = q ∙ ap (λ (z : World). N.entered z) x.world in
      let book : Shows u (names_of deck n' r.names) = same_book m s u v (names_of deck n' r.names) x.world sh in
      let size : length s.rows ≡ r.rows = size_read (body_in deck m) t r.rows s.rows whole.reads.rows whole.reads.tabled in
      let grown : Grown w u = entered_grown m s w (N.with_member m s v) x in
      let after : Placed (body_in deck) (N.with_member m s u) = placed_enter (body_in deck) m w (N.with_member m s u) placed is in
      let lies : Laid deck rows' starts' (entered + r.rows) (N.with_member m s u) =
      laid_enter deck rows rows' t entered back starts starts' m r.rows w (N.with_member m s u) laid is st low whole.reads.rows whole.reads.tabled whole.sentences in
      record {
        named = u;
        is = is;
        grown = grown;
        book = book;
        sentences = omega (arith, ap (λ (z : World). z.sentences) grown.tables, count, (member_sound (body_in deck m)).begun x.fault, size);
        placed = after;
        laid = lies;
        shown = rows_shown deck rows' starts' (N.with_member m s u) lies.stored after (omega (arith, names_size deck n' r.names u book, whole.few));
      }

  by_entry : (f : Result (Unit {0}) (Why × ℕ)) → f ≡ Ok tt → Whole deck (body_in deck m) m entered (names_of deck n names) t n' r
      → Entry m (D.read_member mixed (body_in deck m)) (names_of deck n' r.names) (N.enter m (D.read_member mixed (body_in deck m)) w) f → Enters deck rows' n' starts' m (entered + r.rows) r.names w
  by_entry f e whole (goes_in v q sh z) = goes whole v q sh
  by_entry f e whole (stays_out y k q z) = let c : ◌≡◌ {A = ℕ} 0 1 = cc in absurd (omega arith)

  -- THE MEMBER that was read without a fault
  pub member_enters : Membered deck (body_in deck m) n m entered names t n' r → r.fault ≡ Ok tt → Shows w (names_of deck n names) → Enters deck rows' n' starts' m (entered + r.rows) r.names w
  member_enters h e sh = by_entry r.fault e (h.whole e) (h.enters w sh count)
