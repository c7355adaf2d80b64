-- A turn, from the contracts of its parts. One law for each way out.
-- Assumes nothing.
use Rattle.std.proofs.Common.{Option, Some, None, Result}
use mathlib.Core.Path.{◌≡◌, refl, sym, ap, subst, ◌∙◌}
use mathlib.Core.Bool.{Bool, true, false, ◌&&◌}
use mathlib.Core.List.{List, [], ◌∷◌}
use Prim.Native.Nat.{ℕ, zero, suc, ◌+◌, ◌*◌, ◌<◌, ◌≤◌}
use native.Mathlib.Omega.{arith}
use native.Mathlib.Nat.{mod-eq_of_lt}
use borrow.Author.Tests.{le-leb, lt-leb, leb-false}
use lib.Dec.{leb, eqb}
use lib.ListN.{length, get_or}
use Prim.Native.Char.{code}
use Rattle.definition.specs.Bytes.{mixed}
use Rattle.definition.specs.Choice.{when}
use Rattle.definition.specs.Room.{over}
use Rattle.definition.proofs.Rooms.{length_over}
use Rattle.definition.specs.Tokens as Tk
use Rattle.definition.specs.Tokens.{token_at, TextEnd, percent_at, at_end, open_at, text_end}
use Rattle.definition.proofs.Choices.{when_has}
use Rattle.definition.proofs.Keeping.{and_left}
use Rattle.definition.proofs.Ends.{Lies, token_at_lies}
use Rattle.definition.specs.Program as P
use Rattle.definition.specs.Reading as D
use Rattle.definition.specs.declared.Why.{Why}
use Rattle.definition.specs.declared.Why.TheVariants.{Syntax, OverLimit}
use Rattle.tokens.specs.Answer.{ending_for, Lexed, is_sign_in}
use Rattle.tokens.specs.declared.Ending.{Ending}
use Rattle.tokens.specs.declared.Ending.TheVariants as En
use Rattle.tokens.specs.declared.Lexeme.{Lexeme}
use Rattle.tokens.proofs.Pieces.{percent_there}
use Rattle.tokens.proofs.Lexemes.{is_sign_lem}
use Rattle.rows.specs.declared.Stretch.{Stretch}
use Rattle.rows.specs.Table.{stretch_numbers, row_in}
use Rattle.names.specs.declared.Owner.TheVariants.{Everyone}
use Rattle.entering.specs.declared.Tally.{Tally}
use Rattle.entering.specs.Book.{tally_of, fault_in, book_all, book_whole}
use Rattle.statements.specs.Clauses.{scope_of, Own, Ready}
use Rattle.openings.specs.declared.Where.{Where}
use Rattle.openings.specs.declared.Open.{Open}
use Rattle.openings.specs.declared.Opened.{Opened}
use Rattle.openings.specs.Open.{where_of, no_open, open_of, open_from, opened_of, Pushed, TopKind, Deep, end_for, begins_in, alternative_turn, Enters, first, behind as enters-behind, AlternativeFrom, PlaceAfter}
use Rattle.openings.proofs.Words.{begins_is}
use Rattle.reading.specs.declared.State.{State}
use Rattle.reading.specs.declared.Turned.{Turned}
use Rattle.reading.specs.declared.Source.{Source}
use Rattle.reading.specs.declared.Mode.{Mode}
use Rattle.reading.specs.declared.Mode.TheVariants as Md
use Rattle.reading.specs.declared.Next.TheVariants as Nx
use Rattle.reading.specs.State.{rows_from, state_of, turn_of, Stand, turned, stretch_at, Alike, Marks, Leads, Sits, Starts, behind, opens, Way, Counts, early, last, does, Takes, from_state, Clauses, LowEnd, Texts, Inners, Alternatives, Turns, Begins, source_of}
use Rattle.reading.specs.Sentences.{EndsBody}
use Rattle.reading.proofs.Places.{begins_real, sign_real}
use Rattle.reading.proofs.Rows.{rows_length, room_as, text_set, alike_over, marks_none, marks_after}

-- ---- where nothing is read, all stays
module _ (d s t n : List ℕ) (x : State) (h : Sits d s t n x) where
  pub stay_finish : Takes d s t n x (D.finish (from_state s t x)) t n (turned x Nx.Finish)
  unfolding turn_of state_of book_whole
  stay_finish = record {
    way = does tt (record { turn = refl; entered = record { book = refl; roomy = h.ready.roomy; member = refl; base = refl } });
    before = refl;
    few = h.few;
    own = h.ready.own;
    size = refl;
    marks = marks_none s t x.rows x.opened x.rows (omega arith);
  }

  pub stay_early : (w : Why) (p : ℕ) → Counts x.entered w p [] (from_state s t x)
  unfolding state_of
  stay_early w p = early (omega (arith, rows_length s t 0 x.rows, h.few))

  pub stay_last : (p : ℕ) → Counts x.entered OverLimit p (p ∷ []) (from_state s t x)
  unfolding state_of
  stay_last p = last refl refl (omega (arith, rows_length s t 0 x.rows, h.few))

  pub stay_stop : (w : Why) (p : ℕ) (begun : List ℕ) → Counts x.entered w p begun (from_state s t x) → Takes d s t n x (D.stop w p begun (from_state s t x)) t n (turned x (Nx.Stop w p))
  unfolding state_of book_all
  stay_stop w p begun c = record {
    way = does c (record { next = refl; rows = refl; names = refl; past = refl });
    before = refl;
    few = h.few;
    own = h.ready.own;
    size = refl;
    marks = marks_none s t x.rows x.opened x.rows (omega arith);
  }

-- ---- BEHIND A TEXT
module _ (d s t n : List ℕ) (x : State) (e : Ending) where
  pub texted_percent : (p q : ℕ) (t' n' : List ℕ) (r : Turned) → e ≡ En.Percent p → PlaceAfter s p q → Clauses d s t n x p q t' n' r → Texts d s t n x e t' n' r
  texted_percent p q t' n' r he a c = rw he (record { so = λ h E f k low hf ho. by h E f k low hf })
    where
      by : Sits d s t n x → (E : TextEnd) (f : ℕ → D.State) → En.Percent p ≡ ending_for E → p < length s → f p ≡ from_state s t x → Takes d s t n x (D.texted mixed E s f) t' n' r
      by h (percent_at j) f k low hf =
          let z : p ≡ j = cc in
          subst (λ (i : ℕ). Takes d s t n x (D.clause_at mixed s i (i + 1) (f i)) t' n' r) z
          (subst (λ (st : D.State). Takes d s t n x (D.clause_at mixed s p (p + 1) st) t' n' r) (sym hf)
          (subst (λ (i : ℕ). Takes d s t n x (D.clause_at mixed s p i (from_state s t x)) t' n' r) (a.is low)
          (c.so h low (omega (arith, low, a.is low)) (behind (omega (arith, a.is low))))))
      by h at_end f k low hf = let z : ◌≡◌ {A = ℕ} 0 1 = cc in absurd (omega arith)
      by h (open_at j) f k low hf = let z : ◌≡◌ {A = ℕ} 0 1 = cc in absurd (omega arith)

  pub texted_finish : e ≡ En.AtEnd → x.opened.count ≤ 1 → Texts d s t n x e t n (turned x Nx.Finish)
  texted_finish he l = rw he (record { so = λ h E f k low hf ho. by h E f k hf ho })
    where
      by : Sits d s t n x → (E : TextEnd) (f : ℕ → D.State) → En.AtEnd ≡ ending_for E → f (length s) ≡ from_state s t x → length (f 0).opened ≡ x.opened.count → Takes d s t n x (D.texted mixed E s f) t n (turned x Nx.Finish)
      by h (percent_at j) f k hf ho = let z : ◌≡◌ {A = ℕ} 0 1 = cc in absurd (omega arith)
      by h at_end f k hf ho = rw (le-leb (length (f 0).opened) 1 (omega (arith, ho, l)), hf) (stay_finish d s t n x h)
      by h (open_at j) f k hf ho = let z : ◌≡◌ {A = ℕ} 0 1 = cc in absurd (omega arith)

  pub texted_short : (r : Turned) → e ≡ En.AtEnd → 1 < x.opened.count → r ≡ turned x (Nx.Stop Syntax (length s)) → Texts d s t n x e t n r
  texted_short r he l hr = rw (he, hr) (record { so = λ h E f k low hf ho. by h E f k hf ho })
    where
      by : Sits d s t n x → (E : TextEnd) (f : ℕ → D.State) → En.AtEnd ≡ ending_for E → f (length s) ≡ from_state s t x → length (f 0).opened ≡ x.opened.count → Takes d s t n x (D.texted mixed E s f) t n (turned x (Nx.Stop Syntax (length s)))
      by h (percent_at j) f k hf ho = let z : ◌≡◌ {A = ℕ} 0 1 = cc in absurd (omega arith)
      by h at_end f k hf ho = rw (lt-leb (length (f 0).opened) 1 (omega (arith, ho, l)), hf) (stay_stop d s t n x h Syntax (length s) [] (stay_early d s t n x h Syntax (length s)))
      by h (open_at j) f k hf ho = let z : ◌≡◌ {A = ℕ} 0 1 = cc in absurd (omega arith)

  pub texted_open : (p : ℕ) (r : Turned) → e ≡ En.OpenAt p → r ≡ turned x (Nx.Stop Syntax p) → Texts d s t n x e t n r
  texted_open p r he hr = rw (he, hr) (record { so = λ h E f k low hf ho. by h E f k hf })
    where
      by : Sits d s t n x → (E : TextEnd) (f : ℕ → D.State) → En.OpenAt p ≡ ending_for E → f p ≡ from_state s t x → Takes d s t n x (D.texted mixed E s f) t n (turned x (Nx.Stop Syntax p))
      by h (percent_at j) f k hf = let z : ◌≡◌ {A = ℕ} 0 1 = cc in absurd (omega arith)
      by h at_end f k hf = let z : ◌≡◌ {A = ℕ} 0 1 = cc in absurd (omega arith)
      by h (open_at j) f k hf =
          let z : p ≡ j = cc in
          subst (λ (i : ℕ). Takes d s t n x (D.stop Syntax i [] (f i)) t n (turned x (Nx.Stop Syntax p))) z
          (subst (λ (st : D.State). Takes d s t n x (D.stop Syntax p [] st) t n (turned x (Nx.Stop Syntax p))) (sym hf) (stay_stop d s t n x h Syntax p [] (stay_early d s t n x h Syntax p)))

-- ---- A TEXT, and what is behind it
-- where it ends
abbrev place_of : List ℕ → TextEnd → ℕ
place_of s (percent_at p) = p
place_of s at_end = length s
place_of s (open_at p) = p

text_on_lem : (s : List ℕ) (x : Tk.Piece) (p q : ℕ) (f : ℕ → TextEnd) → p ≤ length s → place_of s (f q) ≤ length s → place_of s (Tk.text_on x p q f) ≤ length s
text_on_lem s (Tk.name w) p q f h k = k
text_on_lem s Tk.plain p q f h k = k
text_on_lem s Tk.unclosed p q f h k = h

text_within : (s : List ℕ) (f p : ℕ) → place_of s (text_end mixed f s p) ≤ length s
unfolding text_end
text_within s zero p = omega arith
text_within s (suc f) p =
    when_has (λ (E : TextEnd). place_of s E ≤ length s) (leb (length s) p) _ _ (λ _. omega arith) λ e.
    let h : p ≤ length s = omega (arith, leb-false (length s) p e) in
    when_has (λ (E : TextEnd). place_of s E ≤ length s) (eqb (get_or s p 0) (code "%")) _ _ (λ _. h) λ _. text_on_lem s (Tk.piece_at mixed s p).piece p (Tk.piece_at mixed s p).to (text_end mixed f s) h (text_within s f (Tk.piece_at mixed s p).to)

place_same : (s : List ℕ) (E : TextEnd) → end_for s (ending_for E) ≡ place_of s E
place_same s (percent_at p) = refl
place_same s at_end = refl
place_same s (open_at p) = refl

low_end : (s : List ℕ) (E : TextEnd) → ((q : ℕ) → E ≡ percent_at q → q < length s) → LowEnd s (ending_for E)
low_end s (percent_at q) h = h q refl
low_end s at_end h = tt
low_end s (open_at q) h = tt

-- the stretch up to there
module _ (s : List ℕ) (at z : ℕ) (e : Ending) (y : Stretch) (short : length s < 65536) (l : at ≤ length s) (he : e ≡ ending_for (text_end mixed (suc (length s)) s at)) (hz : z ≡ end_for s e) (hy : y ≡ stretch_at at z) where
  text_from : y.from ≡ at
  text_from = ap (λ (w : Stretch). w.from) hy ∙ mod-eq_of_lt (omega arith)

  text_end_lem : z ≡ place_of s (text_end mixed (suc (length s)) s at)
  text_end_lem = hz ∙ ap (end_for s) he ∙ place_same s (text_end mixed (suc (length s)) s at)

  text_to : y.to ≡ end_for s e
  text_to = ap (λ (w : Stretch). w.to) hy ∙ mod-eq_of_lt (omega (arith, text_end_lem, text_within s (suc (length s)) at, short)) ∙ hz

  text_low : LowEnd s e
  text_low = subst (LowEnd s) (sym he) (low_end s (text_end mixed (suc (length s)) s at) (λ q g. (percent_there (suc (length s)) s at q g).inside))

-- what is open stays
lead_kept : (w : D.Where) (k : ℕ) (l : P.Link) (bs : List (List ℕ)) (os : List D.Open) (a b : ℕ) (st : D.State) → (D.lead_in (record { kind = w; row = k; last = l; labels = bs } ∷ os) a b st).opened ≡ st.opened
lead_kept D.in_program k l bs os a b st = refl
lead_kept D.in_group k l bs os a b st = refl
lead_kept D.in_body k l bs os a b st = refl
lead_kept D.in_then k l bs os a b st = refl
lead_kept D.in_else k l bs os a b st = refl

lead_opened : (L : List D.Open) (a b : ℕ) (st : D.State) → (D.lead_in L a b st).opened ≡ st.opened
lead_opened [] a b st = refl
lead_opened (o ∷ os) a b st = lead_kept o.kind o.row o.last o.labels os a b st

pub opened_length : (s : List ℕ) (o : Opened) → length (opened_of s o) ≡ o.count
unfolding opened_of open_from
opened_length s o = by o.count
  where
    by : (n : ℕ) → length (open_from s o.items n) ≡ n
    by zero = refl
    by (suc n) = ap suc (by n)

-- from a state that only a text changed
module _ (d s t u n : List ℕ) (x y : State) (he : y.entered ≡ x.entered) (hk : y.tally ≡ x.tally) (hu : length u ≡ length t) (hr : y.rows ≡ x.rows) (ho : y.opened ≡ x.opened) (ha : (i : ℕ) → Alike (row_in u i) (row_in t i)) where
  takes_from : (X : D.Turn) (t' n' : List ℕ) (r : Turned) → Takes d s u n y X t' n' r → Takes d s t n x X t' n' r
  takes_from X t' n' r h = record {
    way = subst (λ (k : Tally). Way d s n x.entered k X t' n' r) hk (subst (λ (e : ℕ). Way d s n e y.tally X t' n' r) he h.way);
    before = h.before ∙ he;
    few = h.few;
    own = subst (λ (k : Tally). Own k.member r.state.scope) hk h.own;
    size = h.size ∙ hu;
    marks = marks_after s t u x.rows x.opened t' r.state.rows ha
        (subst (λ (k : ℕ). Marks s u k x.opened t' r.state.rows) hr (subst (λ (o : Opened). Marks s u y.rows o t' r.state.rows) ho h.marks));
  }

  sits_from : (Own x.tally.member x.scope → Own x.tally.member y.scope) → Sits d s t n x → Sits d s u n y
  sits_from hw h =
      let own : Own x.tally.member y.scope = hw h.ready.own in
      record {
        ready = subst (λ (k : Tally). Ready d s n k y.scope) (sym hk) (record { roomy = h.ready.roomy; lies = h.ready.lies; own = own });
        few = omega (arith, h.few, hr, he);
        short = h.short;
        placed = record {
          room = room_as x.entered y.entered t u he hu h.placed.room;
          own = omega (arith, h.placed.own, hr);
          stand = subst (λ (w : Opened). Stand y.rows (opened_of s w)) (sym ho) (subst (λ (m : ℕ). Stand m (opened_of s x.opened)) (sym hr) h.placed.stand);
          some = subst (λ (w : Opened). 0 < w.count) (sym ho) h.placed.some;
          deep = subst (λ (w : Opened). w.count ≤ 19) (sym ho) h.placed.deep;
        };
      }

module _ (d s t n : List ℕ) (x : State) (m : Mode) (at : ℕ) (t' n' : List ℕ) (r : Turned) where
  pub turn_leading : (e : Ending) (z : ℕ) (y : Stretch) (u : List ℕ) (led : State) → m ≡ Md.Leading → e ≡ ending_for (text_end mixed (suc (length s)) s at) → z ≡ end_for s e → y ≡ stretch_at at z → Leads t x y u led → Texts d s u n led e t' n' r
      → Turns d s t n x m at t' n' r
  unfolding D.turn state_of
  turn_leading e z y u led hm he hz hy a b = rw hm (record {
    so = λ h l k.
        let from : y.from ≡ at = text_from s at z e y h.short l he hz hy in
        let to : y.to ≡ end_for s e = text_to s at z e y h.short l he hz hy in
        takes_from d s t u n x led a.keeps.entered a.keeps.tally a.size a.rows a.opened a.marks (D.turn mixed s D.leading_text at (state_of s t [] x)) t' n' r
        (b.so (sits_from d s t u n x led a.keeps.entered a.keeps.tally a.size a.rows a.opened a.marks a.keeps.own h)
        (text_end mixed (suc (length s)) s at) (λ p. D.lead_in (opened_of s x.opened) at p (state_of s t [] x)) he (text_low s at z e y h.short l he hz hy)
        (sym (a.is s [] h.placed h.few ∙ ap (λ (i : ℕ). D.lead_in (opened_of s x.opened) i y.to (state_of s t [] x)) from ∙ ap (λ (i : ℕ). D.lead_in (opened_of s x.opened) at i (state_of s t [] x)) to))
        (ap length (lead_opened (opened_of s x.opened) at 0 (state_of s t [] x)) ∙ opened_length s x.opened ∙ sym (ap (λ (w : Opened). w.count) a.opened)));
  })

  pub turn_behind : (k : ℕ) (e : Ending) (z : ℕ) (y : Stretch) (u : List ℕ) → m ≡ Md.Behind k → e ≡ ending_for (text_end mixed (suc (length s)) s at) → z ≡ end_for s e → y ≡ stretch_at at z → u ≡ over t (16 * k + 12) (stretch_numbers y) → Texts d s u n x e t' n' r
      → Turns d s t n x m at t' n' r
  unfolding D.turn state_of
  turn_behind k e z y u hm he hz hy hu b = rw hm (record {
    so = λ h l f.
        let from : y.from ≡ at = text_from s at z e y h.short l he hz hy in
        let to : y.to ≡ end_for s e = text_to s at z e y h.short l he hz hy in
        let size : length u ≡ length t = ap length hu ∙ length_over t (16 * k + 12) (stretch_numbers y) in
        let rows : rows_from s u 0 x.rows ≡ D.change k (D.set_text (D.stretch y.from y.to)) (rows_from s t 0 x.rows) = ap (λ (w : List ℕ). rows_from s w 0 x.rows) hu ∙ text_set t k s x.rows f (h.placed.room x.rows h.placed.own h.few) y in
        let same : (i : ℕ) → Alike (row_in u i) (row_in t i) = λ i. subst (λ (w : List ℕ). Alike (row_in w i) (row_in t i)) (sym hu) (alike_over t (stretch_numbers y) k 12 i (omega arith) (omega arith)) in
        takes_from d s t u n x x refl refl size refl refl same (D.turn mixed s (D.text_behind k) at (state_of s t [] x)) t' n' r
        (b.so (sits_from d s t u n x x refl refl size refl refl same (λ w. w) h)
        (text_end mixed (suc (length s)) s at) (λ p. D.with_rows (D.change k (D.set_text (D.stretch at p)) (rows_from s t 0 x.rows)) (state_of s t [] x)) he (text_low s at z e y h.short l he hz hy)
        (sym (ap (λ (w : List P.Row). D.with_rows w (state_of s t [] x)) (rows ∙ ap (λ (i : ℕ). D.change k (D.set_text (D.stretch i y.to)) (rows_from s t 0 x.rows)) from ∙ ap (λ (i : ℕ). D.change k (D.set_text (D.stretch at i)) (rows_from s t 0 x.rows)) to)))
        (opened_length s x.opened));
  })

  pub turn_alternative : m ≡ Md.Alternative → Alternatives d s t n x at t' n' r → Turns d s t n x m at t' n' r
  unfolding D.turn state_of
  turn_alternative hm a = rw hm (record { so = λ h l f. a.so h l })

  pub turn_inner : m ≡ Md.Inner → Inners d s t n x at t' n' r → Turns d s t n x m at t' n' r
  unfolding D.turn state_of
  turn_inner hm a = rw hm (record { so = λ h l f. a.so h l })

-- ---- IN A PROCEDURE
module _ (d s t n : List ℕ) (x : State) (at : ℕ) (k : Lexeme) (lex : Lexed s at k) (w : Where) (hw : TopKind x.opened w) (b : Bool) (hb : b ≡ (D.is_in_body (where_of w) && is_sign_in s k (37 ∷ []))) where
  in_body_lem : (D.is_in_body (D.kind_of (opened_of s x.opened)) && Tk.is_sign "%" (token_at mixed s at).token) ≡ b
  in_body_lem = sym (hb ∙ rw (hw.is s, is_sign_lem s at k lex "%" (37 ∷ []) refl))

  pub inner_end : (n' : List ℕ) (r : Turned) → b ≡ true → EndsBody d s n x k.to n' r → Inners d s t n x at t n' r
  unfolding D.inner_at state_of
  inner_end n' r y p = record {
    so = λ h l.
        let e : D.is_in_body (D.kind_of (opened_of s x.opened)) ≡ true = and_left (D.is_in_body (D.kind_of (opened_of s x.opened))) (Tk.is_sign "%" (token_at mixed s at).token) (in_body_lem ∙ y) in
        rw (in_body_lem ∙ y) (subst (λ (i : ℕ). Takes d s t n x (D.procedure_end mixed s (D.labels mixed s i) (from_state s t x)) t n' r) lex.to (p.so t h e));
  }

  module _ (no : b ≡ false) (c : Bool) (hc : c ≡ begins_in s k) where
    begun : D.begins (token_at mixed s at).token ≡ c
    begun = sym (hc ∙ begins_is s at k lex)

    pub inner_clause : (t' n' : List ℕ) (r : Turned) → c ≡ true → Clauses d s t n x k.from at t' n' r → Inners d s t n x at t' n' r
    unfolding D.inner_at state_of
    inner_clause t' n' r y q = record {
      so = λ h l.
          let z : Lies s at (token_at mixed s at) = token_at_lies s at l in
          let low : k.from < length s = omega (arith, lex.from, z.some (begins_real (token_at mixed s at).token (begun ∙ y)), z.high) in
          rw (in_body_lem ∙ no, begun ∙ y) (subst (λ (i : ℕ). Takes d s t n x (D.clause_at mixed s i at (from_state s t x)) t' n' r) lex.from (q.so h low l (opens lex.from (begun ∙ y))));
    }

    pub inner_wrong : (r : Turned) → c ≡ false → r ≡ turned x (Nx.Stop Syntax k.from) → Inners d s t n x at t n r
    unfolding D.inner_at state_of
    inner_wrong r y hr = rw hr (record {
      so = λ h l. rw (in_body_lem ∙ no, begun ∙ y) (subst (λ (i : ℕ). Takes d s t n x (D.stop Syntax i [] (from_state s t x)) t n (turned x (Nx.Stop Syntax k.from))) lex.from (stay_stop d s t n x h Syntax k.from [] (stay_early d s t n x h Syntax k.from)));
    })

-- ---- AN ALTERNATIVE
-- where its statement begins
pub record Entering (s : List ℕ) (p q : ℕ) : Type 0 where
  pub low : p < length s
  pub within : q ≤ length s
  pub starts : Starts s p q

enters_low : (s : List ℕ) (at q : ℕ) → at ≤ length s → Enters s at q → Entering s (token_at mixed s at).from q
enters_low s at q l (first e f) =
    let z : Lies s at (token_at mixed s at) = token_at_lies s at l in
    record {
      low = omega (arith, z.some (begins_real (token_at mixed s at).token f), z.high);
      within = omega (arith, e, l);
      starts = opens (ap (λ (i : ℕ). (token_at mixed s i).from) (sym e)) (ap (λ (i : ℕ). D.begins (token_at mixed s i).token) e ∙ f);
    }
enters_low s at q l (enters-behind e f) =
    let z : Lies s at (token_at mixed s at) = token_at_lies s at l in
    let some : (token_at mixed s at).from < (token_at mixed s at).to = z.some (sign_real "%" (token_at mixed s at).token f) in
    record { low = omega (arith, some, z.high); within = omega (arith, e, z.high); starts = behind (omega (arith, some, e)) }

module _ (d s t n : List ℕ) (x : State) (at : ℕ) (k : Lexeme) (lex : Lexed s at k) (m : Option ℕ) (hm : AlternativeFrom s x.scope k at m) where
  pub alternative_wrong : (r : Turned) → m ≡ None → r ≡ turned x (Nx.Stop Syntax k.from) → Alternatives d s t n x at t n r
  alternative_wrong r y hr = rw hr (record {
    so = λ h l.
        subst (λ (X : D.Turn). Takes d s t n x X t n (turned x (Nx.Stop Syntax k.from))) (sym (hm.is lex (from_state s t x) ∙ ap (λ (w : Option ℕ). alternative_turn w s (token_at mixed s at) (from_state s t x)) y))
        (subst (λ (i : ℕ). Takes d s t n x (D.stop Syntax i [] (from_state s t x)) t n (turned x (Nx.Stop Syntax k.from))) lex.from (stay_stop d s t n x h Syntax k.from [] (stay_early d s t n x h Syntax k.from)));
  })

  module _ (q g : ℕ) (y : m ≡ Some q) (hg : Deep x.opened g) where
    deep_is : D.alternative_at mixed (scope_of x.scope) s at (token_at mixed s at) (from_state s t x) ≡ when (leb g 16) (λ _. D.clause_at mixed s (token_at mixed s at).from q (from_state s t x)) (λ _. D.stop OverLimit (token_at mixed s at).from ((token_at mixed s at).from ∷ []) (from_state s t x))
    unfolding D.deep_enough state_of
    deep_is = hm.is lex (from_state s t x) ∙ ap (λ (w : Option ℕ). alternative_turn w s (token_at mixed s at) (from_state s t x)) y ∙ rw (hg.is s)

    pub alternative_clause : (t' n' : List ℕ) (r : Turned) → g ≤ 16 → Clauses d s t n x k.from q t' n' r → Alternatives d s t n x at t' n' r
    alternative_clause t' n' r l c = record {
      so = λ h w.
          let e : Entering s (token_at mixed s at).from q = enters_low s at q w (hm.enters lex q y) in
          let f : Entering s k.from q = subst (λ (i : ℕ). Entering s i q) (sym lex.from) e in
          subst (λ (X : D.Turn). Takes d s t n x X t' n' r) (sym (deep_is ∙ rw (le-leb g 16 l)))
          (subst (λ (i : ℕ). Takes d s t n x (D.clause_at mixed s i q (from_state s t x)) t' n' r) lex.from (c.so h f.low f.within f.starts));
    }

    pub alternative_deep : (r : Turned) → 16 < g → r ≡ turned x (Nx.Stop OverLimit k.from) → Alternatives d s t n x at t n r
    alternative_deep r l hr = rw hr (record {
      so = λ h w.
          subst (λ (X : D.Turn). Takes d s t n x X t n (turned x (Nx.Stop OverLimit k.from))) (sym (deep_is ∙ rw (lt-leb g 16 l)))
          (subst (λ (i : ℕ). Takes d s t n x (D.stop OverLimit i (i ∷ []) (from_state s t x)) t n (turned x (Nx.Stop OverLimit k.from))) lex.from (stay_stop d s t n x h OverLimit k.from (k.from ∷ []) (stay_last d s t n x h k.from)));
    })

-- ---- THE START
pub begins_so : (m base entered names : ℕ) (g : Open) (xs : List Open) (o : Opened) (y : Stretch) (k : Tally) → g ≡ no_open → y ≡ stretch_at 0 0 → Pushed (record { count = 0; items = xs }) g o → k ≡ tally_of m base names None None
    → Begins m base entered names (record { entered = entered; rows = 0; first = None; lead = y; opened = o; scope = Everyone; tally = k })
unfolding state_of rows_from opened_of open_from open_of
begins_so m base entered names g xs o y k hg hy hp hk =
    let one : (s : List ℕ) → opened_of s o ≡ D.opening D.in_program 0 [] ∷ [] = λ s. hp.is (omega arith) s ∙ rw hg in
    let count : o.count ≡ 1 = hp.count (omega arith) in
    record {
      is = λ s t. rw hy (ap (λ (w : List D.Open). D.state (D.stretch 0 0) P.nowhere [] [] w P.global) (one s));
      placed = λ s t h. record { room = h; own = omega arith; stand = subst (λ (w : List D.Open). Stand 0 w) (sym (one s)) (record { row = tt; last = tt }, tt); some = omega (arith, count); deep = omega (arith, count) };
      entered = refl;
      rows = refl;
      scope = refl;
      tally = hk;
    }

-- ---- leaves
pub source_is : (x : State) (f g : Result (Unit {0}) (Why × ℕ)) → g ≡ fault_in x.tally.past x.tally.second f
    → ◌≡◌ {A = Source} (record { first = x.first; lead = x.lead; rows = x.rows; names = x.tally.names; fault = g }) (source_of x f)
source_is x f g e = rw e
