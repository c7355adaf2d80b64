-- A clause: its labels are entered, and then its statement, or END. One law for each way out.
-- Assumes nothing.
use Rattle.std.proofs.Common.{Option, Some, None}
use mathlib.Core.Path.{◌≡◌, refl, sym, ap, subst, ◌∙◌}
use mathlib.Core.Bool.{Bool, true, false, cond, ◌&&◌, ◌||◌, false≢true}
use mathlib.Core.List.{List, [], ◌∷◌, ◌++◌}
use Prim.Native.Nat.{ℕ, ◌+◌, ◌<◌, ◌≤◌}
use native.Mathlib.Omega.{arith}
use borrow.Author.Tests.{leb-true, leb-false}
use lib.Dec.{leb}
use lib.ListN.{length, get_or, length-append}
use Rattle.definition.specs.Bytes.{mixed}
use Rattle.definition.specs.Limits.{declared_names}
use Rattle.definition.specs.Expressions.{Named}
use Rattle.definition.specs.Tokens as Tk
use Rattle.definition.specs.Tokens.{token_at}
use Rattle.definition.specs.declared.Why.TheVariants.{OverLimit}
use Rattle.tokens.specs.declared.Lexeme.{Lexeme}
use Rattle.tokens.specs.Answer.{Lexed}
use Rattle.definition.specs.Program as P
use Rattle.definition.specs.Statements as St
use Rattle.definition.specs.Reading as D
use Rattle.definition.specs.World as W
use Rattle.definition.specs.Names as N
use Rattle.definition.proofs.Keeping.{and_left}
use Rattle.entering.specs.declared.Meaning.{Meaning}
use Rattle.entering.specs.Book.{Book, first_of, book_past, book_more, book_add, book_joint, book_join, book_at, book_one, book_new, book_all, book_whole, book_of, Entered, meaning_of}
use Rattle.statements.specs.declared.Keyword.{Keyword}
use Rattle.statements.specs.Clauses.{scope_of, is_inside, Own, Lies}
use Rattle.statements.proofs.Listed.{all_append}
use Rattle.openings.specs.declared.Where.{Where}
use Rattle.openings.specs.declared.Labels.{Labels}
use Rattle.openings.specs.Open.{where_of, opened_of, TopKind, LabelsAt, is_end_in, keyword_at, opens_by}
use Rattle.openings.proofs.Stacked.{opened_size}
use Rattle.openings.proofs.Labelling.{labels_counted}
use Rattle.openings.proofs.Ends.{inside_is, end_is}
use Rattle.openings.proofs.Sentences.{no_longs, clause_end_long, clause_end, clause_full, clause_long, clause_token}
use Rattle.reading.specs.declared.State.{State}
use Rattle.reading.specs.declared.Turned.{Turned}
use Rattle.reading.specs.declared.Next.TheVariants as Nx
use Rattle.reading.specs.State.{rows_from, state_of, turn_of, with_tally, turned, state_in, begun_in, Sits, Does, Over, Starts, early, Fits, Way, does, stops, Takes, from_state, Clauses}
use Rattle.reading.specs.Labelled.{LabelsIf}
use Rattle.reading.specs.Sentences.{Comes, is_full, Clausal, ByToken, EndsLong, EndsAt}
use Rattle.reading.proofs.Rows.{rows_length, marks_none}
use Rattle.reading.proofs.Counting.{places_length}
use Rattle.reading.proofs.Overfull.{clause_begins}
use Rattle.reading.proofs.Parameters.{whole_plain, plain_means}

-- ---- which names there are, and which is past the limit, does not depend on what they mean
pub record SameNames (b c : Book) : Type 0 where
  pub identifiers : b.identifiers ≡ c.identifiers
  pub past : b.past ≡ c.past

joint_same : (v w : N.Joint) (a p : ℕ) (b c : Book) → SameNames b c → SameNames (book_joint v a p b) (book_joint w a p c)
joint_same (N.joint d) (N.joint e) a p b c h = record { identifiers = h.identifiers; past = h.past }
joint_same (N.joint d) N.twice a p b c h = record { identifiers = h.identifiers; past = h.past }
joint_same N.twice (N.joint e) a p b c h = record { identifiers = h.identifiers; past = h.past }
joint_same N.twice N.twice a p b c h = record { identifiers = h.identifiers; past = h.past }

add_same : (g : Bool) (i : W.Identifier) (d e : W.Denotation) (p : ℕ) (b c : Book) → SameNames b c → SameNames (cond g (book_past p b) (book_more i d b)) (cond g (book_past p c) (book_more i e c))
add_same true i d e p b c h = record { identifiers = h.identifiers; past = ap (λ (z : Option ℕ). first_of z p) h.past }
add_same false i d e p b c h = record { identifiers = ap (λ (z : List W.Identifier). z ++ i ∷ []) h.identifiers; past = h.past }

at_same : (x : W.Address) (i : W.Identifier) (d e : W.Denotation) (p : ℕ) (b c : Book) → SameNames b c → SameNames (book_at x i d p b) (book_at x i e p c)
unfolding book_add book_join
at_same W.unknown i d e p b c h =
    subst (λ (z : List W.Identifier). SameNames (cond (leb declared_names (length b.identifiers)) (book_past p b) (book_more i d b)) (cond (leb declared_names (length z)) (book_past p c) (book_more i e c))) h.identifiers
    (add_same (leb declared_names (length b.identifiers)) i d e p b c h)
at_same (W.address a) i d e p b c h = joint_same (N.joint_of (get_or b.denotations a W.builtin_name) d) (N.joint_of (get_or c.denotations a W.builtin_name) e) a p b c h

one_same : (i : W.Identifier) (d e : W.Denotation) (p : ℕ) (b c : Book) → SameNames b c → SameNames (book_one i d p b) (book_one i e p c)
unfolding book_one
one_same i d e p b c h =
    subst (λ (z : List W.Identifier). SameNames (book_at (W.address_in i.spelling i.owner 0 b.identifiers) i d p b) (book_at (W.address_in i.spelling i.owner 0 z) i e p c)) h.identifiers
    (at_same (W.address_in i.spelling i.owner 0 b.identifiers) i d e p b c h)

new_same : (x : N.New) (i : W.Identifier) (p : ℕ) (b c : Book) → SameNames b c → SameNames (book_new x i p b) (book_new x i p c)
new_same (N.new d) i p b c h = one_same i d d p b c h
new_same N.listing i p b c h = h

module _ (m : ℕ) where
  pub all_same : (ds : List P.Declared) (b c : Book) → SameNames b c → SameNames (book_all m ds b) (book_all m ds c)
  unfolding book_all
  all_same [] b c h = h
  all_same (d ∷ ds) b c h = all_same ds _ _ (new_same (N.new_of m d.meaning) (N.identifier_of m d) d.place b c h)

  -- labels of a statement that turns out wrong
  label_same : (o : St.Opens) (n : ℕ) (i : W.Identifier) (p : ℕ) (b c : Book) → SameNames b c → SameNames (book_new (N.new_of m (D.label_meaning o n)) i p b) (book_new (N.new_of m (P.label 0)) i p c)
  label_same St.opens_nothing n i p b c h = one_same i _ _ p b c h
  label_same St.opens_group n i p b c h = one_same i _ _ p b c h
  label_same St.opens_body n i p b c h = one_same i _ _ p b c h
  label_same St.opens_then n i p b c h = one_same i _ _ p b c h

  pub labels_same : (k : P.Scope) (o : St.Opens) (n : ℕ) (ns : List Named) (b c : Book) → SameNames b c → SameNames (book_all m (St.means k (D.label_meaning o n) ns) b) (book_all m (St.means k (P.label 0) ns) c)
  unfolding book_all
  labels_same k o n [] b c h = h
  labels_same k o n (x ∷ ns) b c h = labels_same k o n ns _ _ (label_same o n _ x.place b c h)

label_plain : (o : St.Opens) (n : ℕ) → N.is_parameter (D.label_meaning o n) ≡ false
label_plain St.opens_nothing n = refl
label_plain St.opens_group n = refl
label_plain St.opens_body n = refl
label_plain St.opens_then n = refl

-- ---- labels that were entered, and then a clause
module _ (d s n : List ℕ) (x y : State) (k : P.Scope) (o : St.Opens) (row : ℕ) (ns : List Named) (es : List P.Declared) (n₁ t' n' : List ℕ) (r : Turned)
    (h : Entered d n x.tally (book_all x.tally.member (St.means k (D.label_meaning o row) ns)) n₁ y.tally) where
  abbrev good : List P.Declared
  good = St.means k (D.label_meaning o row) ns

  abbrev bad : List P.Declared
  bad = St.means k (P.label 0) ns

  all_entered : Entered d n₁ y.tally (book_whole y.tally.member [] es) n' r.state.tally → Entered d n x.tally (book_whole x.tally.member [] (good ++ es)) n' r.state.tally
  all_entered e = record {
    book = e.book ∙ ap (λ (m : ℕ). book_whole m [] es (book_of d n₁ y.tally)) h.member ∙ ap (book_whole x.tally.member [] es) h.book ∙ sym (whole_plain x.tally.member [] good es (book_of d n x.tally) (plain_means k (D.label_meaning o row) ns (label_plain o row)));
    roomy = e.roomy;
    member = e.member ∙ h.member;
    base = e.base ∙ h.base;
  }

  wrong_names : SameNames (book_all y.tally.member es (book_of d n₁ y.tally)) (book_all x.tally.member (bad ++ es) (book_of d n x.tally))
  wrong_names =
      subst (λ (z : ℕ). SameNames (book_all z es (book_of d n₁ y.tally)) (book_all x.tally.member (bad ++ es) (book_of d n x.tally))) (sym h.member)
      (subst (λ (z : Book). SameNames (book_all x.tally.member es z) (book_all x.tally.member (bad ++ es) (book_of d n x.tally))) (sym h.book)
      (subst (λ (z : Book). SameNames (book_all x.tally.member es (book_all x.tally.member good (book_of d n x.tally))) z) (sym (all_append x.tally.member bad es (book_of d n x.tally)))
      (all_same x.tally.member es _ _ (labels_same x.tally.member k o row ns (book_of d n x.tally) (book_of d n x.tally) (record { identifiers = refl; past = refl })))))

  -- what comes of the clause is what the turn does
  pub does_comes : (X : D.Turn) → Comes d s n₁ y (good ++ es) (bad ++ es) es X t' n' r → Does d s n x.tally X t' n' r
  does_comes (D.go m at st) c = record {
    turn = subst (λ (z : List P.Declared). turn_of s t' z r ≡ D.go m at st) (sym c.declared) c.turn;
    entered = subst (λ (z : List P.Declared). Entered d n x.tally (book_whole x.tally.member [] z) n' r.state.tally) (sym c.declared) (all_entered c.entered);
  }
  does_comes (D.stop w p begun st) c = record {
    next = c.next;
    rows = c.rows;
    names = c.names ∙ wrong_names.identifiers ∙ ap (λ (z : List P.Declared). (book_all x.tally.member z (book_of d n x.tally)).identifiers) (sym c.declared);
    past = c.past ∙ wrong_names.past ∙ ap (λ (z : List P.Declared). (book_all x.tally.member z (book_of d n x.tally)).past) (sym c.declared);
  }
  does_comes (D.finish st) c = record {
    turn = subst (λ (z : List P.Declared). turn_of s t' z r ≡ D.finish st) (sym c.declared) c.turn;
    entered = subst (λ (z : List P.Declared). Entered d n x.tally (book_whole x.tally.member [] z) n' r.state.tally) (sym c.declared) (all_entered c.entered);
  }

-- ---- the tests
or_none : (a b : Bool) → (a || b) ≡ false → (a ≡ false) × (b ≡ false)
or_none true b e = absurd (false≢true (sym e))
or_none false b e = (refl, e)

or_left : (a b : Bool) → a ≡ true → (a || b) ≡ true
or_left true b e = refl
or_left false b e = absurd (false≢true e)

full_is : (s t : List ℕ) (x : State) (b : Bool) → leb 1024 x.rows ≡ b → D.is_full (from_state s t x) ≡ b
unfolding D.is_full state_of
full_is s t x b e = ap (leb 1024) (rows_length s t 0 x.rows) ∙ e

-- ---- a turn that begins a sentence which is not the 2,049th
fits_begun : (entered p : ℕ) (st : D.State) (X : D.Turn) → D.places (state_in X).rows ++ begun_in X ≡ D.places st.rows ++ p ∷ [] → entered + length st.rows < 2048 → Fits entered X
fits_begun entered p st (D.go m at y) e h = tt
fits_begun entered p st (D.finish y) e h = tt
fits_begun entered p st (D.stop w q begun y) e h =
    let a : length (D.places y.rows ++ begun) ≡ length (D.places st.rows ++ p ∷ []) = ap length e in
    let b : length (D.places y.rows ++ begun) ≡ length (D.places y.rows) + length begun = length-append (D.places y.rows) begun in
    let c : length (D.places st.rows ++ p ∷ []) ≡ length (D.places st.rows) + 1 = length-append (D.places st.rows) (p ∷ []) in
    early (omega (arith, a, b, c, places_length y.rows, places_length st.rows))

-- ---- THE CLAUSE at p: its labels l, and the token u behind them
module _ (d s t n : List ℕ) (x : State) (p at : ℕ) (l : Labels) (hl : LabelsAt s at l) (u : Lexeme) (lex : Lexed s l.to u) (w : Where) (hw : TopKind x.opened w) (e : Bool) (he : e ≡ (D.is_in_group (where_of w) && is_end_in s u)) (r : Turned) where
  test : (b : Bool) → e ≡ b → (D.is_in_group (D.kind_of (opened_of s x.opened)) && is_end_in s u) ≡ b
  test b f = ap (λ (z : D.Where). D.is_in_group z && is_end_in s u) (sym (hw.is s)) ∙ sym he ∙ f

  pub clause_ends_long : (n' : List ℕ) (q : ℕ) → e ≡ true → l.long ≡ Some q → EndsLong d s n x at q n' r → Clauses d s t n x p at t n' r
  unfolding state_of
  clause_ends_long n' q f g h = record { so = λ i lp la st. subst (λ (X : D.Turn). Takes d s t n x X t n' r) (sym (clause_end_long s p (from_state s t x) at l hl u lex (test true f) q g)) (h.so t i) }

  pub clause_ends : (n' : List ℕ) → e ≡ true → l.long ≡ None → EndsAt d s n x at u.to n' r → Clauses d s t n x p at t n' r
  unfolding state_of
  clause_ends n' f g h = record {
    so = λ i lp la st. subst (λ (X : D.Turn). Takes d s t n x X t n' r) (sym (clause_end s p (from_state s t x) at l hl u lex (test true f) g))
        (h.so t i (or_left (D.is_in_group (D.kind_of (opened_of s x.opened))) (D.is_in_body (D.kind_of (opened_of s x.opened))) (and_left (D.is_in_group (D.kind_of (opened_of s x.opened))) (is_end_in s u) (test true f))));
  }

  module _ (f : e ≡ false) where
    some : Sits d s t n x → 0 < length (opened_of s x.opened)
    some i = omega (arith, opened_size s x.opened, i.placed.some)

    no_end : (D.is_in_group (D.kind_of (opened_of s x.opened)) && D.is_end mixed s (D.labels mixed s at).behind) ≡ false
    no_end =
        ap (λ (z : Tk.Lexeme). D.is_in_group (D.kind_of (opened_of s x.opened)) && D.is_end mixed s z) hl.behind
        ∙ ap (λ (z : Bool). D.is_in_group (D.kind_of (opened_of s x.opened)) && z) (sym (end_is s l.to u lex))
        ∙ test false f

    -- a sentence that is not the 2,049th of all
    fits : Sits d s t n x → leb 2048 (x.entered + x.rows) ≡ false → Fits x.entered (D.clause_at mixed s p at (from_state s t x))
    unfolding state_of
    fits i g = fits_begun x.entered p (from_state s t x) (D.clause_at mixed s p at (from_state s t x)) (clause_begins s p (from_state s t x) (some i) at no_end)
        (omega (arith, leb-false 2048 (x.entered + x.rows) g, rows_length s t 0 x.rows))

    -- the 2,049th sentence of all, or the 1,025th of the member
    over_way : Sits d s t n x → p < length s → Starts s p at → leb 2048 (x.entered + x.rows) ≡ true → r.next ≡ Nx.Stop OverLimit p → Over s x.entered (D.clause_at mixed s p at (from_state s t x)) r
    unfolding state_of
    over_way i lp st g h = record {
      place = p;
      at = at;
      state = from_state s t x;
      next = h;
      full = omega (arith, leb-true 2048 (x.entered + x.rows) g, i.few, rows_length s t 0 x.rows);
      low = lp;
      starts = st;
      some = some i;
      none = refl;
      sentence = no_end;
      is = refl;
    }

    full_way : Sits d s t n x → leb 1024 x.rows ≡ true → r ≡ turned x (Nx.Stop OverLimit p) → Does d s n x.tally (D.clause_at mixed s p at (from_state s t x)) t n r
    unfolding state_of book_all
    full_way i g h = subst (λ (X : D.Turn). Does d s n x.tally X t n r) (sym (clause_full s p (from_state s t x) at l hl u lex (test false f) (full_is s t x true g)))
        (rw h (record { next = refl; rows = refl; names = refl; past = refl }))

    way_full : Sits d s t n x → p < length s → Starts s p at → (b : Bool) → leb 2048 (x.entered + x.rows) ≡ b → (b || leb 1024 x.rows) ≡ true → r ≡ turned x (Nx.Stop OverLimit p)
        → Way d s n x.entered x.tally (D.clause_at mixed s p at (from_state s t x)) t n r
    way_full i lp st true g c h = stops (over_way i lp st g (ap (λ (z : Turned). z.next) h)) (ap (λ (z : Turned). book_of d n z.state.tally) h)
    way_full i lp st false g c h = does (fits i g) (full_way i c h)

    pub clause_overfull : (b : Bool) → b ≡ is_full x → b ≡ true → r ≡ turned x (Nx.Stop OverLimit p) → Clauses d s t n x p at t n r
    clause_overfull b hb g h = record {
      so = λ i lp la st. record {
        way = way_full i lp st (leb 2048 (x.entered + x.rows)) refl (sym hb ∙ g) h;
        before = ap (λ (z : Turned). z.state.entered) h;
        few = subst (λ (z : Turned). z.state.entered + z.state.rows ≤ 2048) (sym h) i.few;
        own = subst (λ (z : Turned). Own x.tally.member z.state.scope) (sym h) i.ready.own;
        size = refl;
        marks = marks_none s t x.rows x.opened r.state.rows (omega (arith, ap (λ (z : Turned). z.state.rows) h));
      };
    }

    module _ (b : Bool) (hb : b ≡ is_full x) (g : b ≡ false) (k : Keyword) (a : Meaning) (ha : meaning_of a ≡ D.label_meaning (opens_by k) x.rows) (y : State) (n₁ : List ℕ) (hy : LabelsIf d s n x at a n₁ y) where
      low : (leb 2048 (x.entered + x.rows) ≡ false) × (leb 1024 x.rows ≡ false)
      low = or_none (leb 2048 (x.entered + x.rows)) (leb 1024 x.rows) (sym hb ∙ g)

      labels_in : Sits d s t n x → Entered d n x.tally (book_all x.tally.member (St.means (scope_of x.scope) (D.label_meaning (opens_by k) x.rows) (D.labels mixed s at).labels)) n₁ y.tally
      labels_in i = subst (λ (m : P.Meaning). Entered d n x.tally (book_all x.tally.member (St.means (scope_of x.scope) m (D.labels mixed s at).labels)) n₁ y.tally) ha (hy.names.is i.ready)

      pub clause_too_long : (q : ℕ) → l.long ≡ Some q → r ≡ turned y (Nx.Stop OverLimit q) → Clauses d s t n x p at t n₁ r
      unfolding state_of book_all
      clause_too_long q c h = record {
        so = λ i lp la st.
            subst (λ (z : D.Turn). Takes d s t n x z t n₁ r) (sym (clause_long s p (from_state s t x) at l hl u lex (test false f) (full_is s t x false low.1) q c))
            (rw h (record {
              way = does (subst (λ (v : D.Turn). Fits x.entered v) (clause_long s p (from_state s t x) at l hl u lex (test false f) (full_is s t x false low.1) q c) (fits i low.0)) (does_comes d s n x y (scope_of x.scope) (opens_by k) x.rows (D.labels mixed s at).labels [] n₁ t n₁ (turned y (Nx.Stop OverLimit q)) (labels_in i) (D.untaken p (D.labels mixed s at).labels (from_state s t x) OverLimit q [])
                  (record { next = refl; rows = ap (λ (z : State). rows_from s t 0 z.rows) hy.rest; declared = refl; names = refl; past = refl }));
              before = ap (λ (z : State). z.entered) hy.rest;
              few = subst (λ (z : State). z.entered + z.rows ≤ 2048) (sym hy.rest) i.few;
              own = subst (λ (z : State). Own x.tally.member z.scope) (sym hy.rest) i.ready.own;
              size = refl;
              marks = marks_none s t x.rows x.opened y.rows (omega (arith, ap (λ (z : State). z.rows) hy.rest));
            }));
      }

      pub clause_statement : (t' n' : List ℕ) → l.long ≡ None → k ≡ keyword_at s (where_of w) (is_inside x.scope) u l.count → ByToken d s t n₁ y k u l.to p at t' n' r → Clauses d s t n x p at t' n' r
      unfolding state_of
      clause_statement t' n' c hk h = record {
        so = λ i lp la st.
            let m : ByToken d s t n₁ (with_tally x y.tally) k u l.to p at t' n' r = subst (λ (v : State). ByToken d s t n₁ v k u l.to p at t' n' r) hy.rest h in
            let en : Entered d n x.tally (book_all x.tally.member (St.means (scope_of x.scope) (D.label_meaning (opens_by k) x.rows) (D.labels mixed s at).labels)) n₁ y.tally = labels_in i in
            let si : Sits d s t n₁ (with_tally x y.tally) = record {
              ready = record { roomy = en.roomy; lies = subst (λ (v : ℕ). Lies d s v) (sym en.base) i.ready.lies; own = subst (λ (v : ℕ). Own v x.scope) (sym en.member) i.ready.own };
              few = i.few;
              short = i.short;
              placed = record { room = i.placed.room; own = i.placed.own; stand = i.placed.stand; some = i.placed.some; deep = i.placed.deep };
            } in
            let q : Clausal d s t n₁ (with_tally x y.tally) (D.label_meaning (opens_by k) x.rows) (D.labels mixed s at).labels (D.by_token mixed (token_at mixed s l.to).token s p (D.labels mixed s at).labels (token_at mixed s l.to) (from_state s t x)) t' n' r =
            m.so (D.labels mixed s at).labels l.count (record { sits = si; room = (leb-false 1024 x.rows low.1, leb-false 2048 (x.entered + x.rows) low.0); place = omega (arith, lp, i.short); lexed = lex; labelled = refl })
            (hk ∙ ap (λ (v : D.Where). keyword_at s v (is_inside x.scope) u l.count) (hw.is s) ∙ ap (λ (v : Bool). keyword_at s (D.kind_of (opened_of s x.opened)) v u l.count) (sym (inside_is x.scope)))
            (labels_counted s at l hl (no_longs (D.labels mixed s at).long (sym hl.long ∙ c))) in
            subst (λ (v : D.Turn). Takes d s t n x v t' n' r) (sym (clause_token s p (from_state s t x) at l hl u lex (test false f) (full_is s t x false low.1) c))
            (record {
              way = does (subst (λ (v : D.Turn). Fits x.entered v) (clause_token s p (from_state s t x) at l hl u lex (test false f) (full_is s t x false low.1) c) (fits i low.0)) (does_comes d s n x (with_tally x y.tally) (scope_of x.scope) (opens_by k) x.rows (D.labels mixed s at).labels q.names n₁ t' n' r en (D.by_token mixed (token_at mixed s l.to).token s p (D.labels mixed s at).labels (token_at mixed s l.to) (from_state s t x)) q.comes);
              before = q.before;
              few = omega (arith, q.before, q.few, leb-false 2048 (x.entered + x.rows) low.0);
              own = subst (λ (v : ℕ). Own v r.state.scope) en.member q.own;
              size = q.size;
              marks = q.marks;
            });
      }
