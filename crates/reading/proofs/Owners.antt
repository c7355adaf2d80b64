-- The parameters that a turn declares belong to the procedure whose row it adds: they are of no row before the turn, and of a row
-- that is there behind it. So the names of a run of turns are those of its turns, one after the other.
-- Assumes nothing.
use Prim.Native.Nat.{ℕ, zero, suc, ◌≤◌, ◌<◌}
use native.Mathlib.Omega.{arith}
use mathlib.Core.Bool.{false, false≢true}
use mathlib.Core.List.{List, [], ◌∷◌, ◌++◌}
use mathlib.Core.Path.{◌≡◌, refl, sym, ap, ◌∙◌}
use lib.ListN.{length, length-append}
use Rattle.definition.specs.Bytes.{mixed}
use Rattle.definition.specs.Choice.{when}
use Rattle.definition.specs.declared.Why.{Why}
use Rattle.definition.specs.Tokens.{Token, is_word, is_sign, token_at}
use Rattle.definition.specs.Expressions.{Reading, read, refused, Named, name_at, expect_sign}
use Rattle.definition.specs.Program.{Statement, Link, nowhere, row, listed, then_part, else_part, Row, Scope, global, inside, Meaning, parameter, label, end_label, Declared}
use Rattle.definition.specs.Statements as S
use Rattle.definition.specs.Statements.{Opens, opens_nothing, opens_group, opens_body, opens_then, Clause, Declaring, declared, then_declare, means, names_at, attribute, declare_names, declare_next, declare_from, procedure_clause}
use Rattle.definition.specs.Reading as R
use Rattle.definition.specs.Reading.{Where, in_program, in_group, in_body, in_then, in_else, Open, State, change, new_row, set_next, set_child, set_other, linked, add_in, add_to, add_row, with_names, Mode, Turn, go, stop, finish, Else, else_to, no_else, else_at, elsed, complete_in, complete, labels, opened, taken, untaken, label_meaning, is_inside, turn}
use Rattle.definition.specs.Names as N
use Rattle.definition.proofs.Choices.{when_has}
use Rattle.entering.specs.Book.{Book, book_whole}
use Rattle.statements.specs.Clauses.{names_in, names_read}
use Rattle.reading.specs.State.{state_in}
use Rattle.reading.proofs.Frame.{with_declared}
use Rattle.reading.proofs.Walking.{Lists, none, declares, parameters, Steps, Shallow, turn_walk}
use Rattle.reading.proofs.Parameters.{Within, Owned, AllPlain, plain_means, clause_names, whole_behind}

-- ---- lists of declarations
owned_append : (low high : ℕ) (ds es : List Declared) → Owned low high ds → Owned low high es → Owned low high (ds ++ es)
owned_append low high [] es h k = k
owned_append low high (d ∷ ds) es h k = (h.0, owned_append low high ds es h.1 k)

within_wider : (low high low' high' : ℕ) (k : Scope) → low' ≤ low → high ≤ high' → Within low high k → Within low' high' k
within_wider low high low' high' global h k w = w
within_wider low high low' high' (inside r) h k w = (omega (arith, h, w.0), omega (arith, k, w.1))

pub owned_wider : (low high low' high' : ℕ) (ds : List Declared) → low' ≤ low → high ≤ high' → Owned low high ds → Owned low' high' ds
owned_wider low high low' high' [] h k w = tt
owned_wider low high low' high' (d ∷ ds) h k w = (record { is = λ z. within_wider low high low' high' d.scope h k (w.0.is z) }, owned_wider low high low' high' ds h k w.1)

plain_owned : (low high : ℕ) (ds : List Declared) → AllPlain ds → Owned low high ds
plain_owned low high [] h = tt
plain_owned low high (d ∷ ds) h = (record { is = λ z. absurd (false≢true (sym h.0.is ∙ z)) }, plain_owned low high ds h.1)

plain_append : (ds es : List Declared) → AllPlain ds → AllPlain es → AllPlain (ds ++ es)
plain_append [] es h k = k
plain_append (d ∷ ds) es h k = (h.0, plain_append ds es h.1 k)

own_means : (low r : ℕ) (ns : List Named) → low ≤ r → Owned low (suc r) (means (inside r) parameter ns)
own_means low r [] h = tt
own_means low r (n ∷ ns) h = (record { is = λ _. (h, omega arith) }, own_means low r ns h)

-- ---- DECLARE declares no parameters
plain_then : {A : Type 0} (ds : List Declared) (r : Reading A) (f : A → Declaring) → AllPlain ds → ((a : A) → AllPlain (names_in (f a))) → AllPlain (names_in (then_declare ds r f))
plain_then ds (read a) f h k = k a
plain_then ds (refused w p) f h k = h

abbrev PlainNames : Declaring → Type 0
PlainNames x = AllPlain (names_in x)

module _ (s : List ℕ) where
  names_plain : (k : Scope) (m : Meaning) → N.is_parameter m ≡ false → (ds : List Declared) → AllPlain ds → (f : ℕ) (ns : List Named) (e : ℕ) (g : List Named → ℕ → Declaring)
      → ((ms : List Named) (q : ℕ) → PlainNames (g ms q)) → PlainNames (names_at mixed k m s ds f ns e g)
  unfolding names_at
  names_plain k m z ds h zero ns e g j = h
  names_plain k m z ds h (suc f) ns e g j =
      plain_then (ds ++ means k m ns) (name_at mixed s e) _ (plain_append ds _ h (plain_means k m ns z)) λ x.
      when_has PlainNames (is_sign "," (token_at mixed s x.to).token) _ _ (λ _. names_plain k m z ds h f (ns ++ x ∷ []) (token_at mixed s x.to).to g j) λ _.
      plain_then (ds ++ means k m (ns ++ x ∷ [])) (expect_sign mixed ")" s x.to) _ (plain_append ds _ h (plain_means k m (ns ++ x ∷ []) z)) λ q. j (ns ++ x ∷ []) q

  attribute_plain : (k : Scope) (t : Token) (a b : ℕ) (f : Meaning → ℕ → Declaring) (g : Unit {0} → Declaring) → ((m : Meaning) → N.is_parameter m ≡ false → PlainNames (f m b)) → PlainNames (g tt) → PlainNames (attribute k t a b f g)
  unfolding attribute
  attribute_plain global t a b f g h i =
      when_has PlainNames (S.is_character t) _ _ (λ _. h _ refl) λ _. when_has PlainNames (is_word "FIXED" t) _ _ (λ _. h _ refl) λ _. when_has PlainNames (is_word "ENTRY" t) _ _ (λ _. h _ refl) λ _. i
  attribute_plain (inside r) t a b f g h i =
      when_has PlainNames (S.is_character t) _ _ (λ _. h _ refl) λ _. when_has PlainNames (is_word "FIXED" t) _ _ (λ _. h _ refl) λ _. when_has PlainNames (is_word "BUILTIN" t) _ _ (λ _. h _ refl) λ _. i

  declared_plain : (k : Scope) (ds : List Declared) (ns : List Named) (e : ℕ) (g : List Declared → ℕ → Declaring) → AllPlain ds → ((es : List Declared) (q : ℕ) → AllPlain es → PlainNames (g es q)) → PlainNames (declare_names mixed k s ds ns e g)
  unfolding declare_names
  declared_plain k ds ns e g h j =
      attribute_plain k (token_at mixed s e).token (token_at mixed s e).from (token_at mixed s e).to _ _ (λ m z. j _ _ (plain_append ds _ h (plain_means k m ns z))) (plain_append ds _ h (plain_means k _ ns refl))

  next_plain : (g : List Declared → ℕ → Declaring) → ((es : List Declared) (q : ℕ) → AllPlain es → PlainNames (g es q)) → (ds : List Declared) (e : ℕ) → AllPlain ds → PlainNames (declare_next mixed s g ds e)
  unfolding declare_next
  next_plain g j ds e h = when_has PlainNames (is_sign "," (token_at mixed s e).token) _ _ (λ _. j ds _ h) λ _. plain_then ds (expect_sign mixed ";" s e) _ h λ q. h

  pub declare_plain : (k : Scope) (f : ℕ) (ds : List Declared) (e : ℕ) → AllPlain ds → PlainNames (declare_from mixed k s f ds e)
  unfolding declare_from
  declare_plain k zero ds e h = h
  declare_plain k (suc f) ds e h =
      when_has PlainNames (is_sign "(" (token_at mixed s e).token) _ _
      (λ _. names_plain k _ refl ds h (length s) [] (token_at mixed s e).to _ λ ns q. declared_plain k ds ns q _ h (next_plain _ (λ es z. declare_plain k f es z))) λ _.
      plain_then ds (name_at mixed s e) _ h λ n. declared_plain k ds (n ∷ []) n.to _ h (next_plain _ (λ es z. declare_plain k f es z))

-- ---- rows
pub change_length : (n : ℕ) (f : Row → Row) (rs : List Row) → length (change n f rs) ≡ length rs
unfolding change
change_length n f [] = refl
change_length zero f (r ∷ rs) = refl
change_length (suc n) f (r ∷ rs) = ap suc (change_length n f rs)

linked_length : (n : ℕ) (l : Link) (f : List Row → List Row) → ((rs : List Row) → length (f rs) ≡ length rs) → (rs : List Row) → length (linked n l f rs) ≡ length rs
linked_length n nowhere f k rs = k rs
linked_length n (row l) f k rs = change_length l (set_next n) rs

put_length : (qs rs : List Row) (r : Row) → length qs ≡ length rs → length (qs ++ r ∷ []) ≡ suc (length rs)
put_length qs rs r h = omega (arith, h, length-append qs (r ∷ []))

pub add_length : (k : Where) (o : Open) (os : List Open) (x : Statement) (c : ℕ) (st : State) → length (add_in k o os x c st).rows ≡ suc (length st.rows)
add_length in_program o os x c st =
    let n : ℕ = length st.rows in
    put_length (linked n o.last (λ rs. rs) st.rows) st.rows (new_row x c nowhere listed) (linked_length n o.last (λ rs. rs) (λ rs. refl) st.rows)
add_length in_group o os x c st =
    let n : ℕ = length st.rows in
    put_length (linked n o.last (change o.row (set_child n)) st.rows) st.rows (new_row x c (row o.row) listed) (linked_length n o.last (change o.row (set_child n)) (change_length o.row (set_child n)) st.rows)
add_length in_body o os x c st =
    let n : ℕ = length st.rows in
    put_length (linked n o.last (change o.row (set_child n)) st.rows) st.rows (new_row x c (row o.row) listed) (linked_length n o.last (change o.row (set_child n)) (change_length o.row (set_child n)) st.rows)
add_length in_then o os x c st =
    let n : ℕ = length st.rows in
    put_length (change o.row (set_child n) st.rows) st.rows (new_row x c (row o.row) then_part) (change_length o.row (set_child n) st.rows)
add_length in_else o os x c st =
    let n : ℕ = length st.rows in
    put_length (change o.row (set_other n) st.rows) st.rows (new_row x c (row o.row) else_part) (change_length o.row (set_other n) st.rows)

add_names : (k : Where) (o : Open) (os : List Open) (x : Statement) (c : ℕ) (st : State) → (add_in k o os x c st).declared ≡ st.declared
add_names in_program o os x c st = refl
add_names in_group o os x c st = refl
add_names in_body o os x c st = refl
add_names in_then o os x c st = refl
add_names in_else o os x c st = refl

pub row_length : (os : List Open) (x : Statement) (c : ℕ) (st : State) → 0 < length os → length (add_to os x c st).rows ≡ suc (length st.rows)
row_length [] x c st h = absurd (omega arith)
row_length (o ∷ os) x c st h = add_length o.kind o os x c st

row_names : (os : List Open) (x : Statement) (c : ℕ) (st : State) → (add_to os x c st).declared ≡ st.declared
row_names [] x c st = refl
row_names (o ∷ os) x c st = add_names o.kind o os x c st

-- ---- turns
pub record Kept (low : ℕ) (st : State) : Type 0 where
  pub rows : low ≤ length st.rows
  pub names : Owned low (length st.rows) st.declared

pub data OwnTurn (low : ℕ) : Turn → Type 0 where
  going : {m : Mode} {q : ℕ} {st : State} → 0 < length st.opened → Kept low st → OwnTurn low (go m q st)
  stopping : {w : Why} {q : ℕ} {begun : List ℕ} {st : State} → Owned low (suc (length st.rows)) st.declared → OwnTurn low (stop w q begun st)
  finishing : {st : State} → Kept low st → OwnTurn low (finish st)

module _ (s : List ℕ) (low : ℕ) where
  pub like : {st : State} (other : State) → other.declared ≡ st.declared → length other.rows ≡ length st.rows → Kept low st → Kept low other
  like {st} other a b h = record { rows = rw b h.rows; names = rw (a, b) h.names }

  opens_on : {m : Mode} {q : ℕ} (o : Open) (os : List Open) (x : Scope) (st : State) → Kept low st → OwnTurn low (go m q (R.with_opened (o ∷ os) x st))
  opens_on o os x st h = going {st = R.with_opened (o ∷ os) x st} (some_open o os) (like _ refl refl h)
    where
      some_open : (o : Open) (os : List Open) → 0 < length (o ∷ os)
      some_open o os = omega arith

  pub halting : {w : Why} {q : ℕ} {begun : List ℕ} {st : State} → Kept low st → OwnTurn low (stop w q begun st)
  halting {st = st} h = stopping (owned_wider low (length st.rows) low (suc (length st.rows)) st.declared (omega arith) (omega arith) h.names)

  elsed_own : (x : Else) (i : ℕ) (os : List Open) (st : State) (f : Unit {0} → Turn) → Kept low st → OwnTurn low (f tt) → OwnTurn low (elsed x i os st f)
  elsed_own (else_to q) i os st f h g = opens_on (R.opening in_else i []) os st.scope st h
  elsed_own no_else i os st f h g = g

  complete_in_lem : (k : Where) (i : ℕ) (os : List Open) (n e : ℕ) (st : State) (f : ℕ → Turn) → 0 < length st.opened → Kept low st → OwnTurn low (f i) → OwnTurn low (complete_in mixed k s i os n e st f)
  complete_in_lem in_program i os n e st f l h g = going l h
  complete_in_lem in_group i os n e st f l h g = going l h
  complete_in_lem in_body i os n e st f l h g = going l h
  complete_in_lem in_then i os n e st f l h g = elsed_own (else_at mixed (is_inside st.scope) s e) i os st _ h g
  complete_in_lem in_else i os n e st f l h g = g

  complete_own : (os : List Open) (n e : ℕ) (st : State) → Kept low st → OwnTurn low (complete mixed s os n e st)
  unfolding complete
  complete_own [] n e st h = finishing h
  complete_own (o ∷ os) n e st h = complete_in_lem o.kind o.row os n e (R.with_opened (o ∷ os) st.scope st) _ (omega arith) (like _ refl refl h) (complete_own os o.row e st h)

  opened_own : (o : Opens) (n : ℕ) (ns : List Named) (e : ℕ) (st : State) → Kept low st → OwnTurn low (opened mixed o s n ns e st)
  opened_own opens_nothing n ns e st h = complete_own st.opened n e st h
  opened_own opens_group n ns e st h = opens_on (R.opening in_group n (R.spelled ns)) st.opened st.scope st h
  opened_own opens_body n ns e st h = opens_on (R.opening in_body n (R.spelled ns)) st.opened (inside n) st h
  opened_own opens_then n ns e st h = opens_on (R.opening in_then n []) st.opened st.scope st h

  -- labels are no parameters
  meaning_plain : (o : Opens) (n : ℕ) → N.is_parameter (label_meaning o n) ≡ false
  meaning_plain opens_nothing n = refl
  meaning_plain opens_group n = refl
  meaning_plain opens_body n = refl
  meaning_plain opens_then n = refl

  more_own : (st : State) (ns : List Named) (m : Meaning) → N.is_parameter m ≡ false → Kept low st → Kept low (with_names (means st.scope m ns) st)
  more_own st ns m z h = record { rows = h.rows; names = owned_append low (length st.rows) st.declared _ h.names (plain_owned low (length st.rows) (means st.scope m ns) (plain_means st.scope m ns z)) }

  module _ (c : ℕ) (ns : List Named) (st : State) (l : 0 < length st.opened) (h : Kept low st) where
    abbrev After : List Declared → Type 0
    After es = Owned low (suc (length st.rows)) es

    named_own : (m : Meaning) → N.is_parameter m ≡ false → (es : List Declared) → After es → After (st.declared ++ (means st.scope m ns ++ es))
    named_own m z es k =
        let n : ℕ = suc (length st.rows) in
        owned_append low n st.declared _ (owned_wider low (length st.rows) low n st.declared (omega arith) (omega arith) h.names)
        (owned_append low n (means st.scope m ns) es (plain_owned low n (means st.scope m ns) (plain_means st.scope m ns z)) k)

    taken_own : (x : Clause) (es : List Declared) → After es → OwnTurn low (taken mixed s c ns st x es)
    unfolding taken add_row
    taken_own x es k =
        let n : length (add_to st.opened x.statement c st).rows ≡ suc (length st.rows) = row_length st.opened x.statement c st l in
        opened_own x.opens (length st.rows) ns x.to _
        (record { rows = omega (arith, n, h.rows); names = rw (n, row_names st.opened x.statement c st) (named_own (label_meaning x.opens (length st.rows)) (meaning_plain x.opens (length st.rows)) es k) })

    untaken_own : (w : Why) (q : ℕ) (es : List Declared) → After es → OwnTurn low (untaken c ns st w q es)
    untaken_own w q es k = stopping (named_own (label 0) refl es k)

    procedure_own : (e : ℕ) → After (names_in (procedure_clause mixed (inside (length st.rows)) s e))
    procedure_own e = rw (clause_names s (inside (length st.rows)) e) (own_means low (length st.rows) (when (is_sign "(" (token_at mixed s e).token) (λ _. names_read s (length s) (token_at mixed s e).to) (λ _. [])) h.rows)

    lists_own : (es : List Declared) → Lists s st es → After es
    lists_own es none = tt
    lists_own es (declares e) = plain_owned low (suc (length st.rows)) (names_in (declare_from mixed st.scope s (length s) [] e)) (declare_plain s st.scope (length s) [] e tt)
    lists_own es (parameters e) = procedure_own e

  record Owning (st : State) : Type 0 where
    some : 0 < length st.opened
    kept : Kept low st

  steps : Steps s Owning (OwnTurn low)
  steps = record {
    halts = λ w p begun st h. halting h.kept;
    finishes = λ st h. finishing h.kept;
    statements = λ p ns st h d small. record {
      takes = λ k c es o r l. taken_own p ns st h.some h.kept c es (lists_own p ns st h.some h.kept es l);
      refuses = λ w q es l. untaken_own p ns st h.some h.kept w q es (lists_own p ns st h.some h.kept es l);
    };
    ends = λ o os ns e st h q x d. complete_own os o.row e _ (like _ refl refl (more_own st ns (end_label o.row) refl h.kept));
    labels = λ m ns st e h. record { some = h.some; kept = more_own st ns m e h.kept };
    relinks = λ k g st r h. record { some = h.some; kept = like _ refl (change_length k g st.rows) h.kept };
    leads = λ x st h. record { some = h.some; kept = like _ refl refl h.kept };
  }

-- ---- THE NAMES OF A TURN, begun with none, behind those of the turns before it
pub names_turn : (s : List ℕ) (m : Mode) (e : ℕ) (st : State) → 0 < length st.opened → Shallow m (with_declared [] st) → OwnTurn (length st.rows) (turn mixed s m e (with_declared [] st))
names_turn s m e st l d =
    let low : ℕ = length st.rows in
    turn_walk s (Owning s low) (OwnTurn low) (steps s low) m e (with_declared [] st) (record { some = l; kept = record { rows = omega arith; names = tt } }) d

own_names : (low : ℕ) {x : Turn} → OwnTurn low x → Owned low (suc (length (state_in x).rows)) (state_in x).declared
own_names low (going {st = st} l h) = owned_wider low (length st.rows) low (suc (length st.rows)) st.declared (omega arith) (omega arith) h.names
own_names low (stopping h) = h
own_names low (finishing {st} h) = owned_wider low (length st.rows) low (suc (length st.rows)) st.declared (omega arith) (omega arith) h.names

pub whole_turn : (n low : ℕ) (ds : List Declared) (b : Book) {x : Turn} → Owned 0 low ds → OwnTurn low x → book_whole n [] (ds ++ (state_in x).declared) b ≡ book_whole n [] (state_in x).declared (book_whole n [] ds b)
whole_turn n low ds b {x} h k = whole_behind n 0 low (suc (length (state_in x).rows)) ds (state_in x).declared b h (own_names low k)

-- and what is kept where the reading goes on
pub owned_turn : (low : ℕ) (ds : List Declared) (st : State) → Owned 0 low ds → Kept low st → Owned 0 (length st.rows) (ds ++ st.declared)
owned_turn low ds st h k = owned_append 0 (length st.rows) ds st.declared (owned_wider 0 low 0 (length st.rows) ds (omega arith) k.rows h) (owned_wider low (length st.rows) 0 (length st.rows) st.declared (omega arith) (omega arith) k.names)
