-- A MEMBER, turn by turn: what the loop of `read_member` knows, and what it leaves by each way out.
-- Assumes nothing.
use Rattle.std.proofs.Common.{Option, Some, None, Result, Ok, Err}
use Prim.Native.Nat.{ℕ, zero, suc, ◌+◌, ◌-◌, ◌%◌, ◌≤◌, ◌<◌}
use native.Mathlib.Omega.{arith}
use mathlib.Core.Bool.{Bool, true, false, cond}
use mathlib.Core.List.{List, [], ◌∷◌, ◌++◌}
use mathlib.Core.Path.{◌≡◌, refl, sym, ap, subst, ◌∙◌}
use lib.Dec.{ltb}
use lib.ListN.{length}
use Rattle.definition.specs.Bytes.{mixed}
use Rattle.definition.specs.Deck.{line_at}
use Rattle.definition.specs.Limits.{entered_sentences}
use Rattle.definition.specs.Program as P
use Rattle.definition.specs.Reading as D
use Rattle.definition.specs.World as W
use Rattle.definition.specs.Names as N
use Rattle.definition.specs.declared.Why.{Why}
use Rattle.definition.specs.declared.Why.TheVariants.{Syntax, OverLimit}
use Rattle.deck.specs.Answer.{body_in}
use Rattle.rows.specs.Table.{row_in}
use Rattle.rows.specs.Tabled.{Tabled}
use Rattle.entering.specs.declared.Tally.{Tally}
use Rattle.entering.specs.Book.{Book, Roomy, tally_of, book_of, book_all, book_whole, fault_for, fault_in}
use Rattle.entering.specs.Entry.{Shows, Entry, goes_in, stays_out}
use Rattle.entering.proofs.Order.{decides, past_is}
use Rattle.statements.specs.Clauses.{Lies}
use Rattle.openings.specs.Open.{opened_of}
use Rattle.reading.specs.declared.State.{State}
use Rattle.reading.specs.declared.Turned.{Turned}
use Rattle.reading.specs.declared.Source.{Source}
use Rattle.reading.specs.declared.Mode.{Mode}
use Rattle.reading.specs.declared.Mode.TheVariants as Md
use Rattle.reading.specs.declared.Next.{Next}
use Rattle.reading.specs.declared.Next.TheVariants as Nx
use Rattle.reading.specs.State.{rows_from, state_of, mode_of, next_of, turn_of, state_in, Typed, Sits, Goes, Stops, Does, Over, Counts, early, last, Fits, Way, does, stops, Takes, from_state, Follows, Turns, Begins, Enough, source_of}
use Rattle.reading.specs.Members.{names_of, base_of, Fresh, Membered, Members}
use Rattle.reading.proofs.Rows.{rows_length}
use Rattle.reading.proofs.Turning.{opened_length}
use Rattle.reading.proofs.Frame.{with_declared, behind, prepend, clause_at_frame, read_turn}
use Rattle.reading.proofs.Owners.{Kept, OwnTurn, going, names_turn, whole_turn, owned_turn}
use Rattle.reading.proofs.Parameters.{Owned, almost_self, whole_almost, fault_either}
use Rattle.reading.proofs.Growth.{Sentence}
use Rattle.reading.proofs.Counting.{decides_past, all_entered, last_entered}
use Rattle.reading.proofs.Nested.{Nested, Deep, DeepTurn, turn_deep, nested_by, deep_by, start_deep, depth_in, depth_from, from_old, from_new, from_marks, types_on, tabled}
use Rattle.reading.proofs.Standing.{Well, WellFor, WellTurn, shallow, turn_well, start_well, Ongoing, goes_on_lem}
use Rattle.reading.proofs.Bounds.{InTurn, turn_in}

-- ---- THE LOOP: f turns are left, of the member m whose body is s; b are the names before it
pub record Going (d s : List ℕ) (m entered : ℕ) (b : Book) (t n : List ℕ) (x : State) (mode : Mode) (at f : ℕ) : Type 0 where
  pub sits : Sits d s t n x
  pub follows : Follows mode x.rows
  pub within : at ≤ length s
  pub well : Well (from_state s t x)
  pub fit : WellFor (mode_of mode) (from_state s t x)
  pub deep : Deep (depth_in t) (from_state s t x)
  pub typed : (i : ℕ) → i < x.rows → Typed s (row_in t i)
  pub member : x.tally.member ≡ m
  pub before : x.entered ≡ entered
  pub done : List P.Declared
  pub left : D.read_on mixed s f (D.go (mode_of mode) at (with_declared done (from_state s t x))) ≡ D.read_member mixed s
  pub owned : Owned 0 x.rows done
  pub names : book_of d n x.tally ≡ book_whole m [] done b

pub record Loop (d t₀ n₀ : List ℕ) (m entered names : ℕ) (s t n : List ℕ) (x : State) (mode : Mode) (at f : ℕ) : Type 0 where
  pub body : s ≡ body_in d m
  pub so : Fresh d s t₀ n₀ (base_of d m) entered names → Going d s m entered (names_of d n₀ names) t n x mode at f

-- ---- the start
well_first : (st : D.State) → st ≡ D.start → WellFor D.leading_text st
unfolding D.depth
well_first st e = rw e (omega arith)

pub loop_start : (d t n : List ℕ) (m entered names : ℕ) (s : List ℕ) → s ≡ body_in d m → (p base : ℕ) → p ≡ (line_at d m).offset → base ≡ p % 65536 → (x : State) → Begins m base entered names x → (f : ℕ) → Enough s f
    → Loop d t n m entered names s t n x Md.Leading 0 f
unfolding book_of book_whole D.read_member
loop_start d t n m entered names s hs p base hp hb x h f e = record {
  body = hs;
  so = λ k.
      let y : x.tally ≡ tally_of m base names None None = h.tally in
      let turns : f ≡ suc (suc (length s)) = omega (arith, e.is k.short) in
      record {
        sits = record {
          ready = record {
            roomy = subst (λ (z : Tally). Roomy n z) (sym y) (record { size = k.room; few = k.few });
            lies = subst (λ (z : Tally). Lies d s z.base) (sym y) (subst (λ (i : ℕ). Lies d s i) (sym (hb ∙ ap (λ (i : ℕ). i % 65536) hp)) k.lies);
            own = rw h.scope tt;
          };
          few = omega (arith, h.entered, h.rows, k.sentences);
          short = k.short;
          placed = h.placed s t k.rows;
        };
        follows = tt;
        within = omega arith;
        well = subst Well (sym (h.is s t)) start_well;
        fit = well_first (from_state s t x) (h.is s t);
        deep = subst (Deep (depth_in t)) (sym (h.is s t)) (start_deep (depth_in t));
        typed = λ i l. absurd (omega (arith, h.rows));
        member = ap (λ (z : Tally). z.member) y;
        before = h.entered;
        done = [];
        left = ap (λ (z : D.State). D.read_on mixed s f (D.go D.leading_text 0 (with_declared [] z))) (h.is s t) ∙ ap (λ (i : ℕ). D.read_on mixed s i (D.go D.leading_text 0 D.start)) turns;
        owned = tt;
        names = ap (book_of d n) y;
      };
}

-- ---- one turn: X is the definition's, from no declarations
module _ (d s : List ℕ) (m entered : ℕ) (b : Book) (t n : List ℕ) (x : State) (mode : Mode) (at f : ℕ) (h : Going d s m entered b t n x mode at (suc f)) where
  abbrev X : D.Turn
  X = D.turn mixed s (mode_of mode) at (from_state s t x)

  left_on : D.read_on mixed s f (prepend h.done X) ≡ D.read_member mixed s
  unfolding state_of
  left_on = sym (read_turn s h.done f (mode_of mode) at (from_state s t x)) ∙ h.left

  some_open : 0 < length (from_state s t x).opened
  unfolding state_of
  some_open = omega (arith, opened_length s x.opened, h.sits.placed.some, h.sits.placed.deep)

  owns : OwnTurn x.rows X
  unfolding state_of
  owns = subst (λ (i : ℕ). OwnTurn i X) (rows_length s t 0 x.rows) (names_turn s (mode_of mode) at (from_state s t x) some_open (shallow (mode_of mode) (from_state s t x) h.fit))

  entered_so : (Y : D.Turn) → X ≡ Y → book_whole m [] (h.done ++ (state_in Y).declared) b ≡ book_whole m [] (state_in Y).declared (book_of d n x.tally)
  entered_so Y e = whole_turn m x.rows h.done b h.owned (subst (OwnTurn x.rows) e owns) ∙ ap (book_whole m [] (state_in Y).declared) (sym h.names)

  well_turn : WellTurn X
  well_turn = turn_well s (mode_of mode) at (from_state s t x) h.well h.fit

  -- new rows are as deep as what is open
  abbrev depths : ℕ → ℕ
  depths = depth_from t x.rows (D.depth (opened_of s x.opened))

  deep_turn : DeepTurn depths X
  unfolding state_of
  deep_turn =
      let n : length (rows_from s t 0 x.rows) ≡ x.rows = rows_length s t 0 x.rows in
      turn_deep depths s (mode_of mode) at (from_state s t x)
      (deep_by (depth_in t) depths (from_state s t x) (λ i l. from_old t x.rows (D.depth (opened_of s x.opened)) i (omega (arith, l, n))) h.deep)
      (ap depths n ∙ from_new t x.rows (D.depth (opened_of s x.opened))) some_open (shallow (mode_of mode) (from_state s t x) h.fit)

  deep_rows : (t' n' : List ℕ) (r : Turned) → Takes d s t n x X t' n' r → (i : ℕ) → i < length (rows_from s t' 0 r.state.rows) → depths i ≡ depth_in t' i
  deep_rows t' n' r k i l = from_marks s t x.rows x.opened t' r.state.rows k.marks i (omega (arith, l, rows_length s t' 0 r.state.rows))

  module _ (t' n' : List ℕ) (r : Turned) (k : Takes d s t n x X t' n' r) where
    module _ (m' : Mode) (e : ℕ) (hn : r.next ≡ Nx.Go m' e) where
      going_on : {y : D.Mode} {q : ℕ} {u : D.State} → OwnTurn x.rows (D.go y q u) → Kept x.rows u
      going_on (going l j) = j

      again : (u : D.State) → X ≡ D.go (mode_of m') e u → u ≡ state_of s t' u.declared r.state → Goes d s n x.tally X t' n' r → Going d s m entered b t' n' r.state m' e f
      unfolding state_of
      again u hx hu g =
          let on : Ongoing d s t' n' r.state m' = goes_on_lem d s t n x X t' n' r m' e h.sits k g hn well_turn in
          let w : WellTurn (D.go (mode_of m') e u) = subst WellTurn hx well_turn in
          let v : Well (state_of s t' u.declared r.state) = subst Well hu w.0 in
          let y : Deep depths (state_of s t' u.declared r.state) = subst (Deep depths) hu (subst (DeepTurn depths) hx deep_turn) in
          let rows : length u.rows ≡ r.state.rows = ap (λ (z : D.State). length z.rows) hu ∙ rows_length s t' 0 r.state.rows in
          record {
            sits = on.sits;
            follows = on.follows;
            within = subst (InTurn s) hx (turn_in s (mode_of mode) at (from_state s t x) h.within);
            well = record { few = v.few; stand = v.stand; count = v.count };
            fit = fits (mode_of m') (subst (WellFor (mode_of m')) hu w.1);
            deep = deep_by depths (depth_in t') (state_of s t' [] r.state) (deep_rows t' n' r k) (record { rows = y.rows; around = y.around });
            typed = types_on s t x.rows x.opened t' r.state.rows k.marks h.typed;
            member = g.entered.member ∙ h.member;
            before = k.before ∙ h.before;
            done = h.done ++ u.declared;
            left = ap (λ (z : D.State). D.read_on mixed s f (D.go (mode_of m') e (with_declared (h.done ++ u.declared) z))) (sym hu) ∙ ap (λ (z : D.Turn). D.read_on mixed s f (prepend h.done z)) (sym hx) ∙ left_on;
            owned = subst (λ (i : ℕ). Owned 0 i (h.done ++ u.declared)) rows (owned_turn x.rows h.done u h.owned (going_on (subst (OwnTurn x.rows) hx owns)));
            names = g.entered.book ∙ ap (λ (i : ℕ). book_whole i [] (state_in X).declared (book_of d n x.tally)) h.member ∙ sym (entered_so X refl) ∙ ap (λ (z : D.Turn). book_whole m [] (h.done ++ (state_in z).declared) b) hx;
          }
        where
          fits : (y : D.Mode) → WellFor y (state_of s t' u.declared r.state) → WellFor y (state_of s t' [] r.state)
          fits D.leading_text z = z
          fits (D.text_behind i) z = z
          fits D.alternative z = z
          fits D.inner z = z

      by_does : (Y : D.Turn) → X ≡ Y → Does d s n x.tally Y t' n' r → Going d s m entered b t' n' r.state m' e f
      unfolding turn_of
      by_does (D.go y q u) hx g =
          let z : D.go (mode_of m') e (state_of s t' u.declared r.state) ≡ D.go y q u = ap (λ (i : Next). next_of i (state_of s t' u.declared r.state)) (sym hn) ∙ g.turn in
          let y' : mode_of m' ≡ y = cc in
          let q' : e ≡ q = cc in
          let u' : state_of s t' u.declared r.state ≡ u = cc in
          again u (hx ∙ ap (λ (i : D.Mode). D.go i q u) (sym y') ∙ ap (λ (i : ℕ). D.go (mode_of m') i u) (sym q')) (sym u') (subst (λ (Y : D.Turn). Goes d s n x.tally Y t' n' r) (sym hx) g)
      by_does (D.stop w p begun u) hx g = let z : Nx.Go m' e ≡ Nx.Stop w p = sym hn ∙ g.next in let o : ◌≡◌ {A = ℕ} 0 1 = cc in absurd (omega arith)
      by_does (D.finish u) hx g =
          let z : D.go (mode_of m') e (state_of s t' u.declared r.state) ≡ D.finish u = ap (λ (i : Next). next_of i (state_of s t' u.declared r.state)) (sym hn) ∙ g.turn in
          let o : ◌≡◌ {A = ℕ} 0 1 = cc in absurd (omega arith)

      by_way : Way d s n x.entered x.tally X t' n' r → Going d s m entered b t' n' r.state m' e f
      by_way (does c g) = by_does X refl g
      by_way (stops o c) = let z : Nx.Go m' e ≡ Nx.Stop OverLimit o.place = sym hn ∙ o.next in let i : ◌≡◌ {A = ℕ} 0 1 = cc in absurd (omega arith)

      pub going_again : Going d s m entered b t' n' r.state m' e f
      going_again = by_way k.way

-- AGAIN
pub loop_again : (d t₀ n₀ : List ℕ) (m entered names : ℕ) (s t n : List ℕ) (x : State) (mode : Mode) (at f : ℕ) → Loop d t₀ n₀ m entered names s t n x mode at f → 0 < f
    → (t' n' : List ℕ) (r : Turned) → Turns d s t n x mode at t' n' r → (m' : Mode) (e : ℕ) → r.next ≡ Nx.Go m' e → Loop d t₀ n₀ m entered names s t' n' r.state m' e (f - 1)
loop_again d t₀ n₀ m entered names s t n x mode at zero h l t' n' r k m' e hn = absurd (omega arith)
loop_again d t₀ n₀ m entered names s t n x mode at (suc f) h l t' n' r k m' e hn = record {
  body = h.body;
  so = λ z.
      let g : Going d s m entered (names_of d n₀ names) t n x mode at (suc f) = h.so z in
      let less : f ≡ suc f - 1 = omega arith in
      subst (Going d s m entered (names_of d n₀ names) t' n' r.state m' e) less
      (going_again d s m entered (names_of d n₀ names) t n x mode at f g t' n' r (k.so g.sits g.within g.follows) m' e hn);
}

-- ---- THE DECISION
faulty_in : (p q : Option ℕ) (e : Why) (r : ℕ) → fault_in p q (Err (e, r)) ≡ Ok tt → ⊥
unfolding fault_in
faulty_in None None e r z = let y : ◌≡◌ {A = ℕ} 0 1 = cc in omega arith
faulty_in None (Some q) e r z = let y : ◌≡◌ {A = ℕ} 0 1 = cc in omega arith
faulty_in (Some p) q e r z = either (ltb p r) z
  where
    either : (g : Bool) → cond {A = Result (Unit {0}) (Why × ℕ)} g (Err (OverLimit, p)) (Err (e, r)) ≡ Ok tt → ⊥
    either true z = let y : ◌≡◌ {A = ℕ} 0 1 = cc in omega arith
    either false z = let y : ◌≡◌ {A = ℕ} 0 1 = cc in omega arith

record Clean (p q : Option ℕ) : Type 0 where
  past : p ≡ None
  second : q ≡ None

sound_clean : (p q : Option ℕ) → fault_in p q (Ok tt) ≡ Ok tt → Clean p q
unfolding fault_in
sound_clean None None z = record { past = refl; second = refl }
sound_clean None (Some q) z = let y : ◌≡◌ {A = ℕ} 0 1 = cc in absurd (omega arith)
sound_clean (Some p) None z = let y : ◌≡◌ {A = ℕ} 0 1 = cc in absurd (omega arith)
sound_clean (Some p) (Some q) z = let y : ◌≡◌ {A = ℕ} 0 1 = cc in absurd (omega arith)

-- what a mark is does not matter to who has the names
enters_so : (m : ℕ) (x : P.Source) (d n : List ℕ) (k : Tally) (y : N.Entering) (f : Result (Unit {0}) (Why × ℕ)) → Entry m x (book_of d n k) y f → Entry m x (names_of d n k.names) y f
unfolding book_of
enters_so m x d n k y f (goes_in v e h g) = goes_in v e (record { identifiers = h.identifiers; denotations = h.denotations; activities = h.activities }) g
enters_so m x d n k y f (stays_out e p h g) = stays_out e p h g

stays_so : (m : ℕ) (x : P.Source) (c d : Book) (y : N.Entering) (e : Why) (i : ℕ) → c.past ≡ d.past → Entry m x c y (fault_in c.past c.second (Err (e, i))) → Entry m x d y (fault_in d.past d.second (Err (e, i)))
stays_so m x c d y e i g (goes_in v f j o) = absurd (faulty_in c.past c.second e i o)
stays_so m x c d y e i g (stays_out v j f o) = stays_out v j f (fault_either d.past d.second c.second e i ∙ ap (λ (z : Option ℕ). fault_in z c.second (Err (e, i))) (sym g) ∙ o)

abbrev Decided : ℕ → List ℕ → W.World → Book → Result (Unit {0}) (Why × ℕ) → Type 0
Decided m s w c g = Entry m (D.read_member mixed s) c (N.enter m (D.read_member mixed s) w) (fault_in c.past c.second g)

module _ (m : ℕ) (s : List ℕ) (w : W.World) (b : Book) (h : Shows w b) (u : b.past ≡ None) (v : b.second ≡ None) where
  -- the reading ended with the state st
  ended : (st : D.State) (begun : List ℕ) (g : Result (Unit {0}) (Why × ℕ)) → D.read_member mixed s ≡ D.source st begun (fault_for g)
      → N.sooner (N.sentences_past (entered_sentences - w.sentences) (D.source st begun (fault_for g)).begun) (fault_for g) ≡ fault_for g → Decided m s w (book_whole m [] st.declared b) g
  ended st begun g e k =
      let x : P.Source = D.source st begun (fault_for g) in
      let c : Book = book_whole m [] st.declared b in
      subst (λ (z : P.Source). Entry m z c (N.enter m z w) (fault_in c.past c.second g)) (sym e) (decides m x w b g h u v (sym k))

  pub ended_early : (st : D.State) (begun : List ℕ) (g : Result (Unit {0}) (Why × ℕ)) → D.read_member mixed s ≡ D.source st begun (fault_for g) → w.sentences + length st.rows + length begun ≤ 2048 → Decided m s w (book_whole m [] st.declared b) g
  ended_early st begun g e k = ended st begun g e (all_entered (entered_sentences - w.sentences) st begun (fault_for g) (omega (arith, k)))

  pub ended_last : (st : D.State) (p : ℕ) → D.read_member mixed s ≡ D.source st (p ∷ []) (P.faulty OverLimit p) → w.sentences + length st.rows ≤ 2048 → Decided m s w (book_whole m [] st.declared b) (Err (OverLimit, p))
  ended_last st p e k = ended st (p ∷ []) (Err (OverLimit, p)) e (last_entered (entered_sentences - w.sentences) st p (omega (arith, k)))

  pub ended_past : (p e : ℕ) (st : D.State) (f : ℕ) (c : Book) → D.read_member mixed s ≡ D.read_on mixed s f (D.clause_at mixed s p e st) → Sentence s p e st → w.sentences + length st.rows ≡ 2048 → c ≡ book_whole m [] st.declared b → Decided m s w c (Err (OverLimit, p))
  ended_past p e st f c k i j l =
      subst (λ (z : P.Source). Entry m z c (N.enter m z w) (fault_in c.past c.second (Err (OverLimit, p)))) (sym k)
      (decides_past m w s p e st i (omega (arith, j)) f c c.past c.second
      (ap (λ (z : Book). z.past) l ∙ past_is m [] st.declared b w.identifiers (record { past = u; size = rw h.identifiers; listed = λ i. rw h.identifiers })))

stop_on : (s : List ℕ) (f : ℕ) (w : Why) (p : ℕ) (begun : List ℕ) (st : D.State) → D.read_on mixed s f (D.stop w p begun st) ≡ D.source st begun (P.faulty w p)
unfolding D.read_on
stop_on s zero w p begun st = refl
stop_on s (suc f) w p begun st = refl

finish_on : (s : List ℕ) (f : ℕ) (st : D.State) → D.read_on mixed s f (D.finish st) ≡ D.source st [] P.sound
unfolding D.read_on
finish_on s zero st = refl
finish_on s (suc f) st = refl

-- ---- what is left where it is refused
out : (d s n₀ : List ℕ) (m entered names : ℕ) (t' n' : List ℕ) (x : State) (e : Why) (p : ℕ) (r : Source) → r ≡ source_of x (Err (e, p))
    → ((w : W.World) → Shows w (names_of d n₀ names) → w.sentences ≡ entered → Decided m s w (book_of d n' x.tally) (Err (e, p))) → Membered d s n₀ m entered names t' n' r
unfolding book_of
out d s n₀ m entered names t' n' x e p r hr h = rw hr (record {
  whole = λ z. absurd (faulty_in x.tally.past x.tally.second e p z);
  enters = λ w k l. enters_so m (D.read_member mixed s) d n' x.tally (N.enter m (D.read_member mixed s) w) (fault_in x.tally.past x.tally.second (Err (e, p))) (h w k l);
})

-- ---- NO TURN IS LEFT
module _ (d s n₀ : List ℕ) (m entered names : ℕ) (t n : List ℕ) (x : State) (mode : Mode) (at : ℕ) (h : Going d s m entered (names_of d n₀ names) t n x mode at 0) where
  turns_out : (r : Source) → r ≡ source_of x (Err (Syntax, at)) → Membered d s n₀ m entered names t n r
  unfolding D.read_on book_of state_of
  turns_out r hr = out d s n₀ m entered names t n x Syntax at r hr λ w k l.
      let st : D.State = with_declared h.done (from_state s t x) in
      let b : Book = names_of d n₀ names in
      subst (λ (c : Book). Decided m s w c (Err (Syntax, at))) (sym h.names)
      (ended_early m s w b k refl refl st [] (Err (Syntax, at)) (sym h.left) (omega (arith, l, rows_length s t 0 x.rows, h.before, h.sits.few)))

-- ---- A TURN REFUSES, OR ENDS THE MEMBER
module _ (d s n₀ : List ℕ) (m entered names : ℕ) (t n : List ℕ) (x : State) (mode : Mode) (at f : ℕ) (h : Going d s m entered (names_of d n₀ names) t n x mode at (suc f)) (t' n' : List ℕ) (r : Turned)
    (k : Takes d s t n x (D.turn mixed s (mode_of mode) at (from_state s t x)) t' n' r) where
  abbrev b : Book
  b = names_of d n₀ names

  abbrev Y : D.Turn
  Y = D.turn mixed s (mode_of mode) at (from_state s t x)

  ends : (Z : D.Turn) → Y ≡ Z → D.read_member mixed s ≡ D.read_on mixed s f (prepend h.done Z)
  ends Z e = sym (left_on d s m entered b t n x mode at f h) ∙ ap (λ (z : D.Turn). D.read_on mixed s f (prepend h.done z)) e

  module _ (e : Why) (p : ℕ) (hn : r.next ≡ Nx.Stop e p) (w : W.World) (hw : Shows w b) (l : w.sentences ≡ entered) where
    -- the names before the refusal
    pasts : (u : D.State) (begun : List ℕ) → Y ≡ D.stop e p begun u → Stops d s n x.tally e p u t' n' r → (book_whole m [] (h.done ++ u.declared) b).past ≡ (book_of d n' r.state.tally).past
    pasts u begun hx g =
        ap (λ (z : Book). z.past) (entered_so d s m entered b t n x mode at f h (D.stop e p begun u) hx)
        ∙ (whole_almost m [] u.declared (book_of d n x.tally) (book_of d n x.tally) (almost_self (book_of d n x.tally))).past
        ∙ ap (λ (i : ℕ). (book_all i u.declared (book_of d n x.tally)).past) (sym h.member) ∙ sym g.past

    refusal : (u : D.State) (begun : List ℕ) → Y ≡ D.stop e p begun u → Counts x.entered e p begun u → Decided m s w (book_whole m [] (h.done ++ u.declared) b) (Err (e, p))
    unfolding book_of
    refusal u begun hx (early c) =
        ended_early m s w b hw refl refl (behind h.done u) begun (Err (e, p)) (ends (D.stop e p begun u) hx ∙ stop_on s f e p begun (behind h.done u)) (omega (arith, l, h.before, c))
    refusal u begun hx (last a g c) =
        subst (λ (i : Why). Decided m s w (book_whole m [] (h.done ++ u.declared) b) (Err (i, p))) (sym a)
        (ended_last m s w b hw refl refl (behind h.done u) p
        (ends (D.stop e p begun u) hx ∙ stop_on s f e p begun (behind h.done u) ∙ ap (λ (i : Why). D.source (behind h.done u) begun (P.faulty i p)) a ∙ ap (λ (z : List ℕ). D.source (behind h.done u) z (P.faulty OverLimit p)) g)
        (omega (arith, l, h.before, c)))

    does_stop : (Z : D.Turn) → Y ≡ Z → Fits x.entered Z → Does d s n x.tally Z t' n' r → Decided m s w (book_of d n' r.state.tally) (Err (e, p))
    unfolding turn_of
    does_stop (D.go y q u) hx c g =
        let z : D.stop e p [] (state_of s t' u.declared r.state) ≡ D.go y q u = ap (λ (i : Next). next_of i (state_of s t' u.declared r.state)) (sym hn) ∙ g.turn in
        let o : ◌≡◌ {A = ℕ} 0 1 = cc in absurd (omega arith)
    does_stop (D.stop e' p' begun u) hx c g =
        let z : Nx.Stop e p ≡ Nx.Stop e' p' = sym hn ∙ g.next in
        let a : e ≡ e' = cc in
        let i : p ≡ p' = cc in
        let hy : Y ≡ D.stop e p begun u = hx ∙ ap (λ (v : Why). D.stop v p' begun u) (sym a) ∙ ap (λ (v : ℕ). D.stop e v begun u) (sym i) in
        let c' : Counts x.entered e p begun u = subst (λ (v : Why). Counts x.entered v p begun u) (sym a) (subst (λ (v : ℕ). Counts x.entered e' v begun u) (sym i) c) in
        let g' : Stops d s n x.tally e p u t' n' r = record { next = hn; rows = g.rows; names = g.names; past = g.past } in
        stays_so m (D.read_member mixed s) (book_whole m [] (h.done ++ u.declared) b) (book_of d n' r.state.tally) (N.enter m (D.read_member mixed s) w) e p (pasts u begun hy g') (refusal u begun hy c')
    does_stop (D.finish u) hx c g =
        let z : D.stop e p [] (state_of s t' u.declared r.state) ≡ D.finish u = ap (λ (i : Next). next_of i (state_of s t' u.declared r.state)) (sym hn) ∙ g.turn in
        let o : ◌≡◌ {A = ℕ} 0 1 = cc in absurd (omega arith)

    -- the sentence that is one too many
    over_stop : Over s x.entered Y r → book_of d n' r.state.tally ≡ book_of d n x.tally → Decided m s w (book_of d n' r.state.tally) (Err (e, p))
    unfolding book_of
    over_stop o c =
        let z : Nx.Stop e p ≡ Nx.Stop OverLimit o.place = sym hn ∙ o.next in
        let a : OverLimit ≡ e = cc in
        let i : o.place ≡ p = cc in
        let st : D.State = with_declared h.done o.state in
        let none : with_declared [] o.state ≡ o.state = ap (λ (ds : List P.Declared). with_declared ds o.state) (sym o.none) in
        let src : D.read_member mixed s ≡ D.read_on mixed s f (D.clause_at mixed s o.place o.at st) =
        ends (D.clause_at mixed s o.place o.at o.state) o.is ∙ ap (λ (v : D.State). D.read_on mixed s f (prepend h.done (D.clause_at mixed s o.place o.at v))) (sym none)
        ∙ ap (D.read_on mixed s f) (sym (clause_at_frame s h.done o.place o.at o.state)) in
        subst (λ (v : Why). Decided m s w (book_of d n' r.state.tally) (Err (v, p))) a
        (subst (λ (v : ℕ). Decided m s w (book_of d n' r.state.tally) (Err (OverLimit, v))) i
        (ended_past m s w b hw refl refl o.place o.at st f (book_of d n' r.state.tally) src
        (record { low = o.low; starts = o.starts; some = o.some; sentence = o.sentence }) (omega (arith, l, h.before, o.full)) (c ∙ h.names)))

    by_stop : Way d s n x.entered x.tally Y t' n' r → Decided m s w (book_of d n' r.state.tally) (Err (e, p))
    by_stop (does c g) = does_stop Y refl c g
    by_stop (stops o c) = over_stop o c

    pub stop_decides : Decided m s w (book_of d n' r.state.tally) (Err (e, p))
    stop_decides = by_stop k.way

  module _ (hn : r.next ≡ Nx.Finish) where
    -- the names of the whole member
    whole_names : (u : D.State) → Y ≡ D.finish u → Goes d s n x.tally (D.finish u) t' n' r → book_of d n' r.state.tally ≡ book_whole m [] (h.done ++ u.declared) b
    whole_names u hx g =
        g.entered.book ∙ ap (λ (i : ℕ). book_whole i [] u.declared (book_of d n x.tally)) h.member ∙ sym (entered_so d s m entered b t n x mode at f h (D.finish u) hx)

    unmarked : (q : Tally) → Clean q.past q.second → names_of d n' q.names ≡ book_of d n' q
    unfolding book_of
    unmarked q c = ap (λ (z : Option ℕ). book_of d n' (tally_of 0 0 q.names z None)) (sym c.past) ∙ ap (λ (z : Option ℕ). book_of d n' (tally_of 0 0 q.names q.past z)) (sym c.second)

    finished : (u : D.State) → Y ≡ D.finish u → u ≡ state_of s t' u.declared r.state → Goes d s n x.tally (D.finish u) t' n' r → (y : Source) → y ≡ source_of r.state (Ok tt) → Membered d s n₀ m entered names t' n' y
    unfolding state_of book_of
    finished u hx hu g y hy =
        let src : D.read_member mixed s ≡ D.source (behind h.done u) [] P.sound = ends (D.finish u) hx ∙ finish_on s f (behind h.done u) in
        let q : Tally = r.state.tally in
        let same : rows_from s t' 0 r.state.rows ≡ (D.read_member mixed s).rows = ap (λ (v : D.State). v.rows) (sym hu) ∙ ap (λ (v : P.Source). v.rows) (sym src) in
        let depths : ℕ → ℕ = depth_from t x.rows (D.depth (opened_of s x.opened)) in
        let rows : length u.rows ≡ r.state.rows = ap (λ (z : D.State). length z.rows) hu ∙ rows_length s t' 0 r.state.rows in
        rw hy (record {
          whole = λ z. record {
            reads = record {
              lead = ap (λ (v : D.State). v.lead) (sym hu) ∙ ap (λ (v : P.Source). v.lead) (sym src);
              first = ap (λ (v : D.State). v.first) (sym hu) ∙ ap (λ (v : P.Source). v.first) (sym src);
              rows = same;
              tabled = subst (Tabled t') same (tabled s t' r.state.rows
                  (nested_by depths (depth_in t') (rows_from s t' 0 r.state.rows) (deep_rows d s m entered b t n x mode at f h t' n' r k)
                  (subst (λ (v : D.State). Nested depths v.rows) hu (subst (DeepTurn depths) hx (deep_turn d s m entered b t n x mode at f h))))
                  (types_on s t x.rows x.opened t' r.state.rows k.marks h.typed));
              names = unmarked q (sound_clean q.past q.second z) ∙ whole_names u hx g ∙ ap (λ (v : P.Source). book_whole m [] v.declared b) (sym src);
            };
            few = g.entered.roomy.few;
            sentences = omega (arith, k.before, h.before, k.few);
          };
          enters = λ w hw l.
              enters_so m (D.read_member mixed s) d n' q (N.enter m (D.read_member mixed s) w) (fault_in q.past q.second (Ok tt))
              (subst (λ (c : Book). Decided m s w c (Ok tt)) (sym (whole_names u hx g))
              (ended_early m s w b hw refl refl (behind h.done u) [] (Ok tt) src (omega (arith, l, rows, k.before, h.before, k.few))));
        })

    does_finish : (Z : D.Turn) → Y ≡ Z → Does d s n x.tally Z t' n' r → (y : Source) → y ≡ source_of r.state (Ok tt) → Membered d s n₀ m entered names t' n' y
    unfolding turn_of
    does_finish (D.go i q u) hx g y hy =
        let z : D.finish (state_of s t' u.declared r.state) ≡ D.go i q u = ap (λ (v : Next). next_of v (state_of s t' u.declared r.state)) (sym hn) ∙ g.turn in
        let o : ◌≡◌ {A = ℕ} 0 1 = cc in absurd (omega arith)
    does_finish (D.stop e p begun u) hx g y hy = let z : Nx.Finish ≡ Nx.Stop e p = sym hn ∙ g.next in let o : ◌≡◌ {A = ℕ} 0 1 = cc in absurd (omega arith)
    does_finish (D.finish u) hx g y hy =
        let z : D.finish (state_of s t' u.declared r.state) ≡ D.finish u = ap (λ (v : Next). next_of v (state_of s t' u.declared r.state)) (sym hn) ∙ g.turn in
        let hu : state_of s t' u.declared r.state ≡ u = cc in
        finished u hx (sym hu) g y hy

    by_finish : Way d s n x.entered x.tally Y t' n' r → (y : Source) → y ≡ source_of r.state (Ok tt) → Membered d s n₀ m entered names t' n' y
    by_finish (does c g) y hy = does_finish Y refl g y hy
    by_finish (stops o c) y hy = let z : Nx.Finish ≡ Nx.Stop OverLimit o.place = sym hn ∙ o.next in let i : ◌≡◌ {A = ℕ} 0 1 = cc in absurd (omega arith)

-- ---- THE WAYS OUT
module _ (d t₀ n₀ : List ℕ) (m entered names : ℕ) (s t n : List ℕ) (x : State) (mode : Mode) (at f : ℕ) (h : Loop d t₀ n₀ m entered names s t n x mode at f) where
  members : (t' n' : List ℕ) (y : Source) → (Fresh d s t₀ n₀ (base_of d m) entered names → Membered d s n₀ m entered names t' n' y) → Members d t₀ n₀ m entered names t' n' y
  members t' n' y k = record { so = λ z. subst (λ (i : List ℕ). Membered d i n₀ m entered names t' n' y) h.body (k (subst (λ (i : List ℕ). Fresh d i t₀ n₀ (base_of d m) entered names) (sym h.body) z)) }

  pub loop_out : f ≤ 0 → (y : Source) → y ≡ source_of x (Err (Syntax, at)) → Members d t₀ n₀ m entered names t n y
  loop_out l y hy =
      let none : f ≡ 0 = omega arith in
      members t n y λ z. turns_out d s n₀ m entered names t n x mode at (subst (Going d s m entered (names_of d n₀ names) t n x mode at) none (h.so z)) y hy

  module _ (l : 0 < f) (t' n' : List ℕ) (r : Turned) (k : Turns d s t n x mode at t' n' r) where
    more : Fresh d s t₀ n₀ (base_of d m) entered names → Going d s m entered (names_of d n₀ names) t n x mode at (suc (f - 1))
    more z = let one : f ≡ suc (f - 1) = omega (arith, l) in subst (Going d s m entered (names_of d n₀ names) t n x mode at) one (h.so z)

    pub loop_stop : (w : Why) (p : ℕ) → r.next ≡ Nx.Stop w p → (y : Source) → y ≡ source_of r.state (Err (w, p)) → Members d t₀ n₀ m entered names t' n' y
    loop_stop w p hn y hy = members t' n' y λ z.
        let g : Going d s m entered (names_of d n₀ names) t n x mode at (suc (f - 1)) = more z in
        out d s n₀ m entered names t' n' r.state w p y hy
        (stop_decides d s n₀ m entered names t n x mode at (f - 1) g t' n' r (k.so g.sits g.within g.follows) w p hn)

    pub loop_finish : r.next ≡ Nx.Finish → (y : Source) → y ≡ source_of r.state (Ok tt) → Members d t₀ n₀ m entered names t' n' y
    loop_finish hn y hy = members t' n' y λ z.
        let g : Going d s m entered (names_of d n₀ names) t n x mode at (suc (f - 1)) = more z in
        let T : Takes d s t n x (D.turn mixed s (mode_of mode) at (from_state s t x)) t' n' r = k.so g.sits g.within g.follows in
        by_finish d s n₀ m entered names t n x mode at (f - 1) g t' n' r T hn (T).way y hy
