-- Two readings of a member, by the letters α and β, whose tokens agree at the places of P: they give the same member, and each of
-- its texts has the property Q, if each text that begins at such a place has it.
-- Assumes nothing.
use Prim.Native.Nat.{ℕ, zero, suc, ◌+◌}
use mathlib.Core.Bool.{Bool, true, false, not, ◌&&◌, ◌||◌}
use mathlib.Core.List.{List, [], ◌∷◌, ◌++◌}
use mathlib.Core.Path.{◌≡◌, refl}
use lib.Dec.{leb, ltb}
use lib.ListN.{length}
use Rattle.definition.specs.Bytes.{Letters}
use Rattle.definition.specs.Limits.{open_groups}
use Rattle.definition.specs.Refusal.{Why, syntax, over_limit}
use Rattle.definition.specs.Tokens.{Token, word, integer, string, bits, sign, nothing, wrong, Lexeme, is_word, is_sign, token_at, TextEnd, percent_at, at_end, open_at, text_end}
use Rattle.definition.specs.Expressions.{Reading, read, refused, Named, name_of}
use Rattle.definition.specs.Program.{Statement, null, Link, nowhere, row, listed, then_part, else_part, Stretch, Row, Scope, global, inside, Declared, Source}
use Rattle.definition.specs.Statements.{Opens, opens_nothing, opens_group, opens_body, opens_then, Clause, clause, Declaring}
use Rattle.definition.specs.World.{row_of}
use Rattle.definition.specs.Reading as R
use Rattle.definition.specs.Reading.{Where, in_program, in_group, in_body, in_then, in_else, Open, State, stretch, change, new_row, set_next, set_child, set_other, set_lead, set_text, linked, add_in, add_to, add_row, Mode, Turn, go, stop, finish, is_decided, Else, else_to, no_else, else_word, else_at, elsed, complete_in, complete, Labelled, is_name, add_label, labels_from, labels, opened, taken, untaken, take_read, take_declared, is_declare, is_procedure, is_none, is_inside, is_list, kind_of, do_at, common, in_list, outer, by_word, by_name, by_token, may_name, end_name, end_read, end_at, is_in_group, is_in_body, is_full, is_end, long_label, clause_from, texted, lead_in, not_end, procedure_end, begins, inner_at, depth, deep_enough, alternative_at, leading_text, text_behind, alternative, inner, turn, read_on, read_member}
use Rattle.definition.proofs.Choices.{when_both, cond_has}
use Rattle.definition.proofs.Alike.{Alike, both, neither, then_alike, Names, name_of_lem, word_alike, Clauses, assignment_alike, if_alike, do_alike, goto_alike, include_alike, activate_alike, deactivate_alike, return_alike, Declares, declares, declares_not, declare_alike, procedure_alike}

-- ---- rows whose texts have the property
module _ (Q : Stretch → Type 0) (none : Q (stretch 0 0)) where
  abbrev pub FineRow : Row → Type 0
  FineRow r = Q r.lead × Q r.text

  abbrev pub FineRows : List Row → Type 0
  FineRows [] = Unit {0}
  FineRows (r ∷ rs) = FineRow r × FineRows rs

  record Fine (st : State) : Type 0 where
    lead : Q st.lead
    rows : FineRows st.rows

  change_fine : (n : ℕ) (f : Row → Row) → ((r : Row) → FineRow r → FineRow (f r)) → (rs : List Row) → FineRows rs → FineRows (change n f rs)
  unfolding change
  change_fine n f k [] h = tt
  change_fine zero f k (r ∷ rs) h = (k r h.0, h.1)
  change_fine (suc n) f k (r ∷ rs) h = (h.0, change_fine n f k rs h.1)

  more_fine : (rs : List Row) (r : Row) → FineRows rs → FineRow r → FineRows (rs ++ r ∷ [])
  more_fine [] r h k = (k, tt)
  more_fine (q ∷ rs) r h k = (h.0, more_fine rs r h.1 k)

  linked_fine : (n : ℕ) (l : Link) (f : List Row → List Row) → ((rs : List Row) → FineRows rs → FineRows (f rs)) → (rs : List Row) → FineRows rs → FineRows (linked n l f rs)
  linked_fine n nowhere f k rs h = k rs h
  linked_fine n (row l) f k rs h = change_fine l (set_next n) (λ r i. i) rs h

  child_fine : (g n : ℕ) (rs : List Row) → FineRows rs → FineRows (change g (set_child n) rs)
  child_fine g n rs h = change_fine g (set_child n) (λ r i. i) rs h

  add_in_lem : (k : Where) (o : Open) (os : List Open) (x : Statement) (p : ℕ) (st : State) → Fine st → Fine (add_in k o os x p st)
  add_in_lem in_program o os x p st h =
      let n : ℕ = length st.rows in
      record { lead = h.lead; rows = more_fine (linked n o.last (λ rs. rs) st.rows) (new_row x p nowhere listed) (linked_fine n o.last (λ rs. rs) (λ rs i. i) st.rows h.rows) (none, none) }
  add_in_lem in_group o os x p st h =
      let n : ℕ = length st.rows in
      record { lead = h.lead; rows = more_fine (linked n o.last (change o.row (set_child n)) st.rows) (new_row x p (row o.row) listed) (linked_fine n o.last (change o.row (set_child n)) (child_fine o.row n) st.rows h.rows) (none, none) }
  add_in_lem in_body o os x p st h =
      let n : ℕ = length st.rows in
      record { lead = h.lead; rows = more_fine (linked n o.last (change o.row (set_child n)) st.rows) (new_row x p (row o.row) listed) (linked_fine n o.last (change o.row (set_child n)) (child_fine o.row n) st.rows h.rows) (none, none) }
  add_in_lem in_then o os x p st h =
      let n : ℕ = length st.rows in
      record { lead = h.lead; rows = more_fine (change o.row (set_child n) st.rows) (new_row x p (row o.row) then_part) (child_fine o.row n st.rows h.rows) (none, none) }
  add_in_lem in_else o os x p st h =
      let n : ℕ = length st.rows in
      record { lead = h.lead; rows = more_fine (change o.row (set_other n) st.rows) (new_row x p (row o.row) else_part) (change_fine o.row (set_other n) (λ r i. i) st.rows h.rows) (none, none) }

  add_to_lem : (os : List Open) (x : Statement) (p : ℕ) (st : State) → Fine st → Fine (add_to os x p st)
  add_to_lem [] x p st h = h
  add_to_lem (o ∷ os) x p st h = add_in_lem o.kind o os x p st h

  add_row_lem : (x : Statement) (p : ℕ) (st : State) → Fine st → Fine (add_row x p st)
  unfolding add_row
  add_row_lem x p st h = add_to_lem st.opened x p st h

  -- a state with the same texts
  like : {st : State} (other : State) → other.lead ≡ st.lead → other.rows ≡ st.rows → Fine st → Fine other
  like other p q h = record { lead = rw p h.lead; rows = rw q h.rows }

  lead_in_lem : (os : List Open) (from p : ℕ) (st : State) → Q (stretch from p) → Fine st → Fine (lead_in os from p st)
  lead_in_lem [] from p st h k = k
  lead_in_lem (o ∷ os) from p st h k = at_kind o.kind
    where
      at_kind : (x : Where) → Fine ((elim x as (λ _. ℕ → State) [ in_program ↦ λ n. R.with_lead (stretch from p) st | in_group ↦ λ n. R.with_rows (change n (set_lead (stretch from p)) st.rows) st | in_body ↦ λ n. st | in_then ↦ λ n. st | in_else ↦ λ n. st ]) o.row)
      at_kind in_program = record { lead = h; rows = k.rows }
      at_kind in_group = record { lead = k.lead; rows = change_fine o.row (set_lead (stretch from p)) (λ r i. (h, i.1)) st.rows k.rows }
      at_kind in_body = k
      at_kind in_then = k
      at_kind in_else = k

  pub row_fine : (rs : List Row) → FineRows rs → (n : ℕ) → FineRow (row_of rs n)
  row_fine [] h n = (none, none)
  row_fine (r ∷ rs) h zero = h.0
  row_fine (r ∷ rs) h (suc n) = row_fine rs h.1 n

-- where the text from e on ends: a sentence begins behind it at a place of P, and the text has the property
pub data EndsAlike (P : ℕ → Type 0) (Q : Stretch → Type 0) (s : List ℕ) (e : ℕ) : TextEnd → TextEnd → Type 0 where
  at_percent : {p : ℕ} → P (p + 1) → Q (stretch e p) → EndsAlike P Q s e (percent_at p) (percent_at p)
  at_end_lem : Q (stretch e (length s)) → EndsAlike P Q s e at_end at_end
  at_open : {p : ℕ} → Q (stretch e p) → EndsAlike P Q s e (open_at p) (open_at p)

-- two members that were read
pub record SameMember (Q : Stretch → Type 0) (none : Q (stretch 0 0)) (x y : Source) : Type 0 where
  pub equal : x ≡ y
  pub lead : Q y.lead
  pub rows : FineRows Q none y.rows

module _ (α β : Letters) (s : List ℕ) (P : ℕ → Type 0) (tokens : (e : ℕ) → P e → (token_at α s e ≡ token_at β s e) × P (token_at β s e).to)
    (Q : Stretch → Type 0) (none : Q (stretch 0 0)) (texts : (e : ℕ) → P e → EndsAlike P Q s e (text_end α (suc (length s)) s e) (text_end β (suc (length s)) s e)) where
  abbrev T : ℕ → Lexeme
  T e = token_at β s e

  abbrev F : State → Type 0
  F st = Fine Q none st

  data Turns : Turn → Turn → Type 0 where
    going : {m : Mode} {p : ℕ} {st : State} → P p → F st → Turns (go m p st) (go m p st)
    stopping : {e : Why} {p : ℕ} {ps : List ℕ} {st : State} → F st → Turns (stop e p ps st) (stop e p ps st)
    finishing : {st : State} → F st → Turns (finish st) (finish st)

  -- ---- ELSE, and what a statement completes
  data Elses : Else → Else → Type 0 where
    elses : {q : ℕ} → P q → Elses (else_to q) (else_to q)
    no_else_lem : Elses no_else no_else

  else_word_lem : (t : Lexeme) → P t.to → Elses (else_word α s t) (else_word β s t)
  unfolding else_word
  else_word_lem t h = rw (tokens t.to h).0 (cond_has (λ x. Elses x x) (is_word "ELSE" t.token && is_decided (T t.to).token) _ _ (λ _. elses h) λ _. no_else_lem)

  else_at_lem : (b : Bool) (e : ℕ) → P e → Elses (else_at α b s e) (else_at β b s e)
  unfolding else_at
  else_at_lem true e h = rw (tokens e h).0 (else_word_lem (T e) (tokens e h).1)
  else_at_lem false e h = rw ((tokens e h).0, (tokens (T e).to (tokens e h).1).0) (when_both Elses (is_sign "%" (T e).token) _ _ _ _ (else_word_lem (T (T e).to) (tokens (T e).to (tokens e h).1).1) no_else_lem)

  elsed_alike : {x y : Else} → Elses x y → (i : ℕ) (os : List Open) (st : State) (f g : Unit {0} → Turn) → F st → Turns (f tt) (g tt) → Turns (elsed x i os st f) (elsed y i os st g)
  elsed_alike (elses p) i os st f g h k = going p (like Q none _ refl refl h)
  elsed_alike no_else_lem i os st f g h k = k

  complete_in_lem : (k : Where) (i : ℕ) (os : List Open) (n e : ℕ) (st : State) (f g : ℕ → Turn) → P e → F st → Turns (f i) (g i) → Turns (complete_in α k s i os n e st f) (complete_in β k s i os n e st g)
  complete_in_lem in_program i os n e st f g p h k = going p h
  complete_in_lem in_group i os n e st f g p h k = going p h
  complete_in_lem in_body i os n e st f g p h k = going p h
  complete_in_lem in_then i os n e st f g p h k = elsed_alike (else_at_lem (is_inside st.scope) e p) i os st _ _ h k
  complete_in_lem in_else i os n e st f g p h k = k

  complete_alike : (os : List Open) (n e : ℕ) (st : State) → P e → F st → Turns (complete α s os n e st) (complete β s os n e st)
  unfolding complete
  complete_alike [] n e st p h = finishing h
  complete_alike (o ∷ os) n e st p h = complete_in_lem o.kind o.row os n e _ _ _ p (like Q none _ refl refl h) (complete_alike os o.row e st p h)

  -- ---- labels
  data Labels : Labelled → Labelled → Type 0 where
    labelled : {L : Labelled} → P L.behind.to → Labels L L

  add_label_lem : (r : Reading Named) (ns : List Named) (long : List ℕ) (f g : List Named → List ℕ → Labelled) → ((ns : List Named) (long : List ℕ) → Labels (f ns long) (g ns long)) → Labels (add_label r ns long f) (add_label r ns long g)
  add_label_lem (read n) ns long f g k = k _ _
  add_label_lem (refused w p) ns long f g k = k _ _

  labels_from_lem : (f : ℕ) (ns : List Named) (long : List ℕ) (at : ℕ) → P at → Labels (labels_from α s f ns long at) (labels_from β s f ns long at)
  unfolding labels_from
  labels_from_lem zero ns long at h = rw (tokens at h).0 (labelled (tokens at h).1)
  labels_from_lem (suc f) ns long at h =
      let k : P (T at).to = (tokens at h).1 in
      rw ((tokens at h).0, (tokens (T at).to k).0) (when_both Labels (is_name (T at).token && is_sign ":" (T (T at).to).token) _ _ _ _
      (add_label_lem (name_of (T at).token (T at).from (T at).to) ns long _ _ λ ms more. labels_from_lem f ms more (T (T at).to).to (tokens (T at).to k).1)
      (labelled k))

  -- ---- a statement that was read
  opened_alike : (o : Opens) (n : ℕ) (ns : List Named) (e : ℕ) (st : State) → P e → F st → Turns (opened α o s n ns e st) (opened β o s n ns e st)
  opened_alike opens_nothing n ns e st p h = complete_alike st.opened n e st p h
  opened_alike opens_group n ns e st p h = going p (like Q none _ refl refl h)
  opened_alike opens_body n ns e st p h = going p (like Q none _ refl refl h)
  opened_alike opens_then n ns e st p h = going p (like Q none _ refl refl h)

  taken_alike : (p : ℕ) (ns : List Named) (st : State) (c : Clause) (ds : List Declared) → P c.to → F st → Turns (taken α s p ns st c ds) (taken β s p ns st c ds)
  unfolding taken
  taken_alike p ns st c ds k h = opened_alike c.opens _ ns c.to _ k (like Q none _ refl refl (add_row_lem Q none c.statement p st h))

  untaken_alike : (p : ℕ) (ns : List Named) (st : State) (w : Why) (q : ℕ) (ds : List Declared) → F st → Turns (untaken p ns st w q ds) (untaken p ns st w q ds)
  untaken_alike p ns st w q ds h = stopping (like Q none _ refl refl h)

  take_read_lem : (p : ℕ) (ns : List Named) (st : State) {r u : Reading Clause} → F st → Clauses α β s P tokens r u → Turns (take_read α s p ns st r) (take_read β s p ns st u)
  take_read_lem p ns st h (both {a = c} k) = taken_alike p ns st c [] k h
  take_read_lem p ns st h (neither {w} {p = q}) = untaken_alike p ns st w q [] h

  take_declared_lem : (p : ℕ) (ns : List Named) (st : State) {r u : Declaring} → F st → Declares α β s P tokens r u → Turns (take_declared α s p ns st r) (take_declared β s p ns st u)
  take_declared_lem p ns st h (declares {c} {ds} k) = taken_alike p ns st c ds k h
  take_declared_lem p ns st h (declares_not {w} {p = q} {ds}) = untaken_alike p ns st w q ds h

  do_at_lem : (from to : ℕ) (st : State) → P to → Clauses α β s P tokens (do_at α s from to st) (do_at β s from to st)
  unfolding do_at
  do_at_lem from to st k = when_both (Clauses α β s P tokens) (ltb (depth st.opened) open_groups) _ _ _ _ (do_alike α β s P tokens to k) neither

  -- which statement begins with the word t
  module _ (p : ℕ) (ns : List Named) (t : Lexeme) (k : P t.to) (st : State) (h : F st) where
    abbrev Goes : (Unit {0} → Turn) → (Unit {0} → Turn) → Type 0
    Goes f g = Turns (f tt) (g tt)

    take : {r u : Reading Clause} → Clauses α β s P tokens r u → Turns (take_read α s p ns st r) (take_read β s p ns st u)
    take c = take_read_lem p ns st h c

    common_alike : (f g : Unit {0} → Turn) → Goes f g → Turns (common α s t st (take_read α s p ns st) f) (common β s t st (take_read β s p ns st) g)
    unfolding common
    common_alike f g i =
        when_both Turns (is_word "IF" t.token) _ _ _ _ (take (if_alike α β s P tokens (is_inside st.scope) t.to k))
        (when_both Turns (is_word "DO" t.token) _ _ _ _ (take (do_at_lem t.from t.to st k))
        (when_both Turns (is_word "GOTO" t.token) _ _ _ _ (take (goto_alike α β s P tokens t.to k))
        (when_both Turns (is_word "GO" t.token) _ _ _ _ (take (then_alike _ _ (word_alike α β s P tokens "TO" t.to k) λ e q. goto_alike α β s P tokens e q)) i)))

    in_list_lem : (f g : Unit {0} → Turn) → Goes f g → Turns (in_list α s p ns t st f) (in_list β s p ns t st g)
    unfolding in_list
    in_list_lem f g i =
        when_both Turns (is_list (kind_of st.opened) && is_declare t.token) _ _ _ _ (take_declared_lem p ns st h (declare_alike α β s P tokens st.scope (length s) [] t.to k))
        (when_both Turns (is_list (kind_of st.opened) && not (is_inside st.scope) && not (is_none ns) && is_procedure t.token) _ _ _ _ (take_declared_lem p ns st h (procedure_alike α β s P tokens (inside (length st.rows)) t.to k)) i)

    outer_alike : (x : Scope) (f g : Unit {0} → Turn) → Goes f g → Turns (outer α x s t (take_read α s p ns st) f) (outer β x s t (take_read β s p ns st) g)
    outer_alike global f g i =
        when_both Turns (is_word "INCLUDE" t.token) _ _ _ _ (take (include_alike α β s P tokens t.to k))
        (when_both Turns (is_word "ACTIVATE" t.token || is_word "ACT" t.token) _ _ _ _ (take (activate_alike α β s P tokens t.to k))
        (when_both Turns (is_word "DEACTIVATE" t.token || is_word "DEACT" t.token) _ _ _ _ (take (deactivate_alike α β s P tokens t.to k)) i))
    outer_alike (inside r) f g i = when_both Turns (is_word "RETURN" t.token) _ _ _ _ (take (return_alike α β s P tokens t.to k)) i

    by_word_lem : (w : List ℕ) (u : Lexeme) → P u.to → Turns (by_word α s p ns w t u st) (by_word β s p ns w t u st)
    unfolding by_word
    by_word_lem w u q =
        when_both Turns (is_sign "=" u.token) _ _ _ _ (take (assignment_alike α β s P tokens w u.to q))
        (common_alike _ _ (outer_alike st.scope _ _ (in_list_lem _ _ (untaken_alike p ns st syntax u.from [] h))))

    by_name_lem : (n : Reading Named) → Turns (by_name α n s p ns t st) (by_name β n s p ns t st)
    by_name_lem (read n) = rw (tokens t.to k).0 (by_word_lem n.spelling (T t.to) (tokens t.to k).1)
    by_name_lem (refused w q) = untaken_alike p ns st w q [] h

    by_token_lem : (x : Token) → Turns (by_token α x s p ns t st) (by_token β x s p ns t st)
    by_token_lem (word w) = by_name_lem (name_of (word w) t.from t.to)
    by_token_lem (integer w) = untaken_alike p ns st syntax _ [] h
    by_token_lem (string w) = untaken_alike p ns st syntax _ [] h
    by_token_lem (bits w) = untaken_alike p ns st syntax _ [] h
    by_token_lem (sign w) = when_both Turns (is_sign ";" (sign w)) _ _ _ _ (taken_alike p ns st (clause null opens_nothing t.to) [] k h) (untaken_alike p ns st syntax _ [] h)
    by_token_lem nothing = untaken_alike p ns st syntax _ [] h
    by_token_lem wrong = untaken_alike p ns st syntax _ [] h

  -- ---- END
  end_name_lem : (ls : List (List ℕ)) (at : ℕ) → P at → Alike P (end_name α s ls at) (end_name β s ls at)
  unfolding end_name
  end_name_lem ls at h =
      let k : P (T at).to = (tokens at h).1 in
      rw ((tokens at h).0, (tokens (T at).to k).0) (
      when_both (Alike P) (is_sign ";" (T at).token) _ _ _ _ (both k)
      (when_both (Alike P) (may_name (T at).token ls) _ _ _ _ (when_both (Alike P) (is_sign ";" (T (T at).to).token) _ _ _ _ (both (tokens (T at).to k).1) neither) neither))

  end_read_lem : (ns : List Named) (o : Open) (os : List Open) (st : State) {r u : Reading ℕ} → F st → Alike P r u → Turns (end_read α s ns o os st r) (end_read β s ns o os st u)
  end_read_lem ns o os st h (both {a = e} k) = complete_alike os o.row e _ k (like Q none _ refl refl h)
  end_read_lem ns o os st h neither = stopping (like Q none _ refl refl h)

  end_at_lem : (ns : List Named) (at : ℕ) (os : List Open) (st : State) → P at → F st → Turns (end_at α s ns at os st) (end_at β s ns at os st)
  end_at_lem ns at [] st k h = stopping h
  end_at_lem ns at (o ∷ os) st k h = end_read_lem ns o os st h (end_name_lem o.labels at k)

  -- ---- a clause
  too_long_lem : (ps : List ℕ) (x y : ℕ → Turn) (f g : Unit {0} → Turn) → ((p : ℕ) → Turns (x p) (y p)) → Turns (f tt) (g tt) → Turns (long_label ps x f) (long_label ps y g)
  too_long_lem [] x y f g h k = k
  too_long_lem (p ∷ ps) x y f g h k = h p

  end_same : (t : Lexeme) → P t.to → is_end α s t ≡ is_end β s t
  unfolding is_end
  end_same t k = rw (tokens t.to k).0

  clause_alike : (p : ℕ) {L M : Labelled} (st : State) → F st → Labels L M → Turns (clause_from α s p L st) (clause_from β s p M st)
  unfolding clause_from
  clause_alike p st h (labelled {L} k) = rw (end_same L.behind k) (
      when_both Turns (is_in_group (kind_of st.opened) && is_end β s L.behind) _ _ _ _
      (too_long_lem L.long _ _ _ _ (λ q. stopping (like Q none _ refl refl h)) (end_at_lem L.labels L.behind.to st.opened st k h))
      (when_both Turns (is_full st) _ _ _ _ (stopping h)
      (too_long_lem L.long _ _ _ _ (λ q. untaken_alike p L.labels st over_limit q [] h) (by_token_lem p L.labels L.behind k st h L.behind.token))))

  clause_at_lem : (p at : ℕ) (st : State) → P at → F st → Turns (clause_from α s p (labels α s at) st) (clause_from β s p (labels β s at) st)
  clause_at_lem p at st k h = clause_alike p st h (labels_from_lem (length s) [] [] at k)

  -- ---- texts, procedures, alternatives
  texted_alike : {e : ℕ} {x y : TextEnd} (f : ℕ → State) → ((p : ℕ) → Q (stretch e p) → F (f p)) → EndsAlike P Q s e x y → Turns (texted α x s f) (texted β y s f)
  texted_alike f k (at_percent {p} h q) = clause_at_lem p (p + 1) (f p) h (k p q)
  texted_alike f k (at_end_lem q) = cond_has (λ x. Turns x x) (leb (length (f 0).opened) 1) _ _ (λ _. finishing (k (length s) q)) λ _. stopping (k (length s) q)
  texted_alike f k (at_open {p} q) = stopping (k p q)

  not_end_lem : {r u : Reading Named} (st : State) → F st → Names α β s P tokens r u → Turns (not_end α r s st) (not_end β u s st)
  not_end_lem st h (both {a = n} k) = rw (tokens n.to k).0 (stopping h)
  not_end_lem st h neither = stopping h

  procedure_end_lem : {L M : Labelled} (st : State) → F st → Labels L M → Turns (procedure_end α s L st) (procedure_end β s M st)
  procedure_end_lem st h (labelled {L} k) =
      too_long_lem L.long _ _ _ _ (λ q. stopping (like Q none _ refl refl h))
      (when_both Turns (is_word "END" L.behind.token) _ _ _ _ (end_at_lem L.labels L.behind.to st.opened st k h)
      (not_end_lem _ (like Q none _ refl refl h) (name_of_lem α β s P tokens L.behind.token L.behind.from L.behind.to k)))

  inner_alike : (at : ℕ) (t : Lexeme) (st : State) → P at → P t.to → F st → Turns (inner_at α s at t st) (inner_at β s at t st)
  unfolding inner_at
  inner_alike at t st p q h =
      when_both Turns (is_in_body (kind_of st.opened) && is_sign "%" t.token) _ _ _ _ (procedure_end_lem st h (labels_from_lem (length s) [] [] t.to q))
      (when_both Turns (begins t.token) _ _ _ _ (clause_at_lem t.from at st p h) (stopping h))

  deep_alike : (p : ℕ) (st : State) (f g : Unit {0} → Turn) → F st → Turns (f tt) (g tt) → Turns (deep_enough p st f) (deep_enough p st g)
  unfolding deep_enough
  deep_alike p st f g h k = when_both Turns (leb (depth st.opened) open_groups) _ _ _ _ k (stopping h)

  alternative_alike : (x : Scope) (at : ℕ) (t : Lexeme) (st : State) → P at → P t.to → F st → Turns (alternative_at α x s at t st) (alternative_at β x s at t st)
  alternative_alike global at t st p q h = when_both Turns (is_sign "%" t.token) _ _ _ _ (deep_alike t.from st _ _ h (clause_at_lem t.from t.to st q h)) (stopping h)
  alternative_alike (inside r) at t st p q h = when_both Turns (begins t.token) _ _ _ _ (deep_alike t.from st _ _ h (clause_at_lem t.from at st p h)) (stopping h)

  turn_alike : (m : Mode) (at : ℕ) (st : State) → P at → F st → Turns (turn α s m at st) (turn β s m at st)
  unfolding turn
  turn_alike leading_text at st p h = texted_alike _ (λ q i. lead_in_lem Q none st.opened at q st i h) (texts at p)
  turn_alike (text_behind n) at st p h = texted_alike _ (λ q i. record { lead = h.lead; rows = change_fine Q none n (set_text (stretch at q)) (λ r j. (j.0, i)) st.rows h.rows }) (texts at p)
  turn_alike alternative at st p h = rw (tokens at p).0 (alternative_alike st.scope at (T at) st p (tokens at p).1 h)
  turn_alike inner at st p h = rw (tokens at p).0 (inner_alike at (T at) st p (tokens at p).1 h)

  -- ---- the member
  read_alike : (f : ℕ) {x y : Turn} → Turns x y → SameMember Q none (read_on α s f x) (read_on β s f y)
  unfolding read_on
  read_alike zero (going p h) = record { equal = refl; lead = h.lead; rows = h.rows }
  read_alike zero (stopping h) = record { equal = refl; lead = h.lead; rows = h.rows }
  read_alike zero (finishing h) = record { equal = refl; lead = h.lead; rows = h.rows }
  read_alike (suc f) (going {m} {p} {st} k h) = read_alike f (turn_alike m p st k h)
  read_alike (suc f) (stopping h) = record { equal = refl; lead = h.lead; rows = h.rows }
  read_alike (suc f) (finishing h) = record { equal = refl; lead = h.lead; rows = h.rows }

  pub member_alike : P 0 → SameMember Q none (read_member α s) (read_member β s)
  unfolding read_member
  member_alike h = read_alike (suc (suc (length s))) (going h (record { lead = none; rows = tt }))
