-- HOW MANY SENTENCES there may be in those entered: what comes of a member with one too many, and of one with none too many.
-- Assumes nothing.
use Rattle.std.proofs.Common.{Option, Some, None, Result, Err}
use Prim.Native.Nat.{ℕ, zero, suc, ◌+◌, ◌-◌, ◌≤◌}
use native.Mathlib.Omega.{arith}
use mathlib.Core.Bool.{Bool, true, false, cond, ◌||◌}
use mathlib.Core.List.{List, [], ◌∷◌, ◌++◌}
use mathlib.Core.Path.{◌≡◌, refl, sym, ap, ◌∙◌}
use lib.Dec.{leb, ltb}
use lib.ListN.{length, length-append}
use borrow.Author.Tests.{ltb-false, lt-ltb, le-ltb}
use Rattle.definition.specs.Bytes.{mixed}
use Rattle.definition.specs.Choice.{when}
use Rattle.definition.specs.Limits.{entered_sentences, declared_names}
use Rattle.definition.specs.declared.Why.{Why}
use Rattle.definition.specs.declared.Why.TheVariants.{OverLimit}
use Rattle.definition.specs.Program.{Row, Declared, Fault, sound, faulty, Source}
use Rattle.definition.specs.Reading as R
use Rattle.definition.specs.Reading.{State, clause_at, places, read_on}
use Rattle.definition.specs.World as W
use Rattle.definition.specs.Names as N
use Rattle.definition.proofs.Choices.{when_has}
use Rattle.entering.specs.Book.{Book, mark_of, twice_or, fault_in}
use Rattle.entering.specs.Entry.{Entry, stays_out}
use Rattle.reading.proofs.Frame.{with_declared, prepend_source, clause_at_frame, read_frame}
use Rattle.reading.proofs.Growth.{Begins, FarNames, FarFault, further, there, Grown, Sentence, sentence_grows}

begins_past : (rs : List Row) (p : ℕ) (xs : List ℕ) → Begins (places rs ++ p ∷ []) xs → N.sentences_past (length rs) xs ≡ N.past_at p
unfolding N.sentences_past
begins_past [] p [] h = absurd h
begins_past [] p (x ∷ xs) h = ap N.past_at (sym h.0)
begins_past (r ∷ rs) p [] h = absurd h
begins_past (r ∷ rs) p (x ∷ xs) h = begins_past rs p xs h.1

over_by : (p q : ℕ) (b : Bool) → ltb p q ≡ b → p ≤ q → cond b (faulty OverLimit p) (faulty OverLimit q) ≡ faulty OverLimit p
over_by p q true e h = refl
over_by p q false e h = ap (faulty OverLimit) (omega (arith, ltb-false p q e))

sooner_past : (s : List ℕ) (p : ℕ) (ps : List ℕ) (f : Fault) → FarFault s p ps f → N.sooner (N.past_at p) f ≡ faulty OverLimit p
sooner_past s p ps sound h = refl
sooner_past s p ps (faulty w q) (further h) = rw (lt-ltb p q h)
sooner_past s p ps (faulty w q) (there h) = over_by p q (ltb p q) refl h

module _ (s : List ℕ) (p : ℕ) (m : ℕ) where
  abbrev Same : N.Past → N.Past → Type 0
  Same x y = N.sooner x (faulty OverLimit p) ≡ N.sooner y (faulty OverLimit p)

  none_sooner : (js : List W.Identifier) (es : List Declared) → FarNames s p es → Same (N.names_past m js es) N.within
  unfolding N.names_past
  none_sooner js [] h = refl
  none_sooner js (d ∷ es) h =
      when_has (λ z. Same z N.within) (N.is_parameter d.meaning || N.is_listed (N.identifier_of m d) js) _ _ (λ _. none_sooner js es h.1) λ _.
      when_has (λ z. Same z N.within) (leb declared_names (length js)) _ _ (λ _. rw (le-ltb d.place p h.0)) λ _. none_sooner (N.identifier_of m d ∷ js) es h.1

  same_by : (b : Bool) (x y x' y' : Unit {0} → N.Past) → Same (x tt) (x' tt) → Same (y tt) (y' tt) → Same (when b x y) (when b x' y')
  same_by true x y x' y' h k = h
  same_by false x y x' y' h k = k

  names_behind : (js : List W.Identifier) (ds es : List Declared) → FarNames s p es → Same (N.names_past m js (ds ++ es)) (N.names_past m js ds)
  unfolding N.names_past
  names_behind js [] es h = none_sooner js es h
  names_behind js (d ∷ ds) es h =
      same_by (N.is_parameter d.meaning || N.is_listed (N.identifier_of m d) js) _ _ _ _ (names_behind js ds es h)
      (same_by (leb declared_names (length js)) _ _ _ _ refl (names_behind (N.identifier_of m d ∷ js) ds es h))

-- THE SENTENCE that is one too many in those entered: a name past its limit before it, or else it, is the fault
pub sentence_past : (m : ℕ) (js : List W.Identifier) (n : ℕ) (s : List ℕ) (p e : ℕ) (st : State) → Sentence s p e st → n ≡ length st.rows → (f : ℕ)
    → N.sooner (N.names_past m js (read_on mixed s f (clause_at mixed s p e st)).declared) (N.sooner (N.sentences_past n (read_on mixed s f (clause_at mixed s p e st)).begun) (read_on mixed s f (clause_at mixed s p e st)).fault)
    ≡ N.sooner (N.names_past m js st.declared) (faulty OverLimit p)
sentence_past m js n s p e st h k f =
    let ps : List ℕ = places st.rows ++ p ∷ [] in
    let ds : List Declared = st.declared in
    let x : Source = read_on mixed s f (clause_at mixed s p e (with_declared [] st)) in
    let g : Grown s p ps x = sentence_grows s p e (with_declared [] st) (record { low = h.low; starts = h.starts; some = h.some; sentence = h.sentence }) tt f in
    let a : read_on mixed s f (clause_at mixed s p e st) ≡ prepend_source ds x = ap (read_on mixed s f) (clause_at_frame s ds p e st) ∙ read_frame s ds f (clause_at mixed s p e (with_declared [] st)) in
    let b : N.sentences_past n x.begun ≡ N.past_at p = ap (λ (z : ℕ). N.sentences_past z x.begun) k ∙ begins_past st.rows p x.begun g.begun in
    let c : N.sooner (N.sentences_past n x.begun) x.fault ≡ faulty OverLimit p = ap (λ (z : N.Past). N.sooner z x.fault) b ∙ sooner_past s p ps x.fault g.fault in
    ap (λ (z : Source). N.sooner (N.names_past m js z.declared) (N.sooner (N.sentences_past n z.begun) z.fault)) a ∙ ap (N.sooner (N.names_past m js (ds ++ x.declared))) c ∙ names_behind s p m js ds x.declared g.names

pub one_too_many : (m : ℕ) (w : W.World) (s : List ℕ) (p e : ℕ) (st : State) → Sentence s p e st → entered_sentences - w.sentences ≡ length st.rows → (f : ℕ)
    → N.fault_of m (read_on mixed s f (clause_at mixed s p e st)) w ≡ N.sooner (N.names_past m w.identifiers st.declared) (faulty OverLimit p)
unfolding N.fault_of
one_too_many m w s p e st h k f = sentence_past m w.identifiers (entered_sentences - w.sentences) s p e st h k f

-- so the member stays out, as the names that were entered before that sentence decide
past_by : (m : ℕ) (x : Source) (w : W.World) (c : Book) (p q : ℕ) (b : Bool) (second : Option ℕ)
    → Entry m x c (N.entered_as (cond b (faulty OverLimit q) (faulty OverLimit p)) m x w) (cond {A = Result (Unit {0}) (Why × ℕ)} b (Err (OverLimit, q)) (Err (OverLimit, p)))
past_by m x w c p q true second = stays_out OverLimit q refl refl
past_by m x w c p q false second = stays_out OverLimit p refl refl

faulty_twice : (k : Option ℕ) (e : Why) (p : ℕ) → twice_or k (Err (e, p)) ≡ Err (e, p)
faulty_twice None e p = refl
faulty_twice (Some q) e p = refl

past_out : (m : ℕ) (x : Source) (w : W.World) (c : Book) (p : ℕ) (second : Option ℕ) (y : N.Past)
    → Entry m x c (N.entered_as (N.sooner y (faulty OverLimit p)) m x w) (fault_in (mark_of y) second (Err (OverLimit, p)))
unfolding fault_in
past_out m x w c p second N.within = stays_out OverLimit p refl (faulty_twice second OverLimit p)
past_out m x w c p second (N.past_at q) = past_by m x w c p q (ltb q p) second

pub decides_past : (m : ℕ) (w : W.World) (s : List ℕ) (p e : ℕ) (st : State) → Sentence s p e st → entered_sentences - w.sentences ≡ length st.rows → (f : ℕ) (c : Book) (past second : Option ℕ)
    → past ≡ mark_of (N.names_past m w.identifiers st.declared)
    → Entry m (read_on mixed s f (clause_at mixed s p e st)) c (N.enter m (read_on mixed s f (clause_at mixed s p e st)) w) (fault_in past second (Err (OverLimit, p)))
unfolding N.enter
decides_past m w s p e st h k f c past second l =
    let x : Source = read_on mixed s f (clause_at mixed s p e st) in
    rw (l, one_too_many m w s p e st h k f) (past_out m x w c p second (N.names_past m w.identifiers st.declared))

-- ---- where no sentence is one too many
pub few_sentences : (n : ℕ) (xs : List ℕ) → length xs ≤ n → N.sentences_past n xs ≡ N.within
unfolding N.sentences_past
few_sentences n [] h = refl
few_sentences zero (x ∷ xs) h = absurd (omega arith)
few_sentences (suc n) (x ∷ xs) h = few_sentences n xs (omega arith)

pub places_length : (rs : List Row) → length (places rs) ≡ length rs
places_length [] = refl
places_length (r ∷ rs) = ap suc (places_length rs)

pub all_entered : (n : ℕ) (st : State) (begun : List ℕ) (f : Fault) → length st.rows + length begun ≤ n → N.sooner (N.sentences_past n (R.source st begun f).begun) f ≡ f
all_entered n st begun f h = rw (few_sentences n (places st.rows ++ begun) (omega (arith, h, places_length st.rows, length-append (places st.rows) begun)))

-- nor does one more matter that the reading stops at for a limit of its own
last_by_lem : (n : ℕ) (qs : List ℕ) (p : ℕ) → length qs ≤ n → N.sooner (N.sentences_past n (qs ++ p ∷ [])) (faulty OverLimit p) ≡ faulty OverLimit p
unfolding N.sentences_past
last_by_lem zero [] p h = over_by p p (ltb p p) refl (omega arith)
last_by_lem (suc n) [] p h = refl
last_by_lem zero (q ∷ qs) p h = absurd (omega arith)
last_by_lem (suc n) (q ∷ qs) p h = last_by_lem n qs p (omega arith)

pub last_entered : (n : ℕ) (st : State) (p : ℕ) → length st.rows ≤ n → N.sooner (N.sentences_past n (R.source st (p ∷ []) (faulty OverLimit p)).begun) (faulty OverLimit p) ≡ faulty OverLimit p
last_entered n st p h = last_by_lem n (places st.rows) p (omega (arith, h, places_length st.rows))
