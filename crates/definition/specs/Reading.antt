-- 01, "Reading": a member is read once, from left to right, with a list of what is open, innermost first.
-- "A program is text, then sentences each followed by text." The first token that cannot follow stops the reading.
use Rattle.std.specs.Prelude.{ℕ, zero, suc, ◌+◌, Bool, true, false, not, cond, ◌&&◌, ◌||◌, List, [], ◌∷◌, ◌++◌, leb, ltb, length}
use Rattle.definition.specs.Bytes.{Letters}
use Rattle.definition.specs.Choice.{when}
use Rattle.definition.specs.Limits.{member_sentences, open_groups}
use Rattle.definition.specs.Lists.{is_one_of}
use Rattle.definition.specs.Refusal.{Why, syntax, over_limit}
use Rattle.definition.specs.Tokens.{Token, word, integer, string, bits, sign, nothing, wrong, Lexeme, is_word, is_sign, token_at, TextEnd, percent_at, at_end, open_at, text_end}
use Rattle.definition.specs.Expressions.{Reading, read, refused, then, expect_word, Named, name_of}
use Rattle.definition.specs.Program.{Statement, null, Link, nowhere, row, Role, listed, then_part, else_part, Stretch, Row, Scope, global, inside, Meaning, label, end_label, body, Declared, Fault, sound, faulty, Source}
use Rattle.definition.specs.Statements.{Opens, opens_nothing, opens_group, opens_body, opens_then, Clause, clause, assignment, if_clause, do_clause, goto_clause, include_clause, activate_clause, deactivate_clause, return_clause, Declaring, declared, undeclared, declare_from, procedure_clause, means}

-- ---- what is open: the program, a group, a procedure's body, an alternative; its row, the last row of its list so
-- far, and the labels that END may name
pub data Where : Type 0 where
  in_program : Where
  in_group : Where
  in_body : Where
  in_then : Where
  in_else : Where

pub record Open : Type 0 where
  pub kind : Where
  pub row : ℕ
  pub last : Link
  pub labels : List (List ℕ)

abbrev pub opening : Where → ℕ → List (List ℕ) → Open
opening k n ls = record { kind = k; row = n; last = nowhere; labels = ls }

-- "a 17th group or alternative open in a member, procedures counted through"
abbrev pub counts : Where → ℕ
counts in_program = 0
counts in_group = 1
counts in_body = 0
counts in_then = 1
counts in_else = 1

unfoldable pub depth : List Open → ℕ
depth [] = 0
depth (o ∷ os) = counts o.kind + depth os

abbrev pub kind_of : List Open → Where
kind_of [] = in_program
kind_of (o ∷ os) = o.kind

abbrev pub is_in_group : Where → Bool
is_in_group in_program = false
is_in_group in_group = true
is_in_group in_body = false
is_in_group in_then = false
is_in_group in_else = false

abbrev pub is_in_body : Where → Bool
is_in_body in_program = false
is_in_body in_group = false
is_in_body in_body = true
is_in_body in_then = false
is_in_body in_else = false

-- whether sentences of a list stand there, and not an alternative
abbrev pub is_list : Where → Bool
is_list in_program = true
is_list in_group = true
is_list in_body = true
is_list in_then = false
is_list in_else = false

-- ---- what has been read
pub record State : Type 0 where
  pub lead : Stretch
  pub first : Link
  pub rows : List Row
  pub declared : List Declared
  pub opened : List Open
  pub scope : Scope

abbrev pub state : Stretch → Link → List Row → List Declared → List Open → Scope → State
state x first rs ds os k = record { lead = x; first = first; rows = rs; declared = ds; opened = os; scope = k }

abbrev pub is_inside : Scope → Bool
is_inside global = false
is_inside (inside r) = true

abbrev pub stretch : ℕ → ℕ → Stretch
stretch a b = record { from = a; to = b }

-- a row changed
unfoldable pub change : ℕ → (Row → Row) → List Row → List Row
change n f [] = []
change zero f (r ∷ rs) = f r ∷ rs
change (suc n) f (r ∷ rs) = r ∷ change n f rs

-- a row with other links and texts
abbrev pub relinked : Link → Link → Link → Stretch → Stretch → Row → Row
relinked next child other lead text r = record {
  statement = r.statement;
  place = r.place;
  parent = r.parent;
  role = r.role;
  next = next;
  child = child;
  other = other;
  lead = lead;
  text = text;
}

abbrev pub set_next : ℕ → Row → Row
set_next n r = relinked (row n) r.child r.other r.lead r.text r

abbrev pub set_child : ℕ → Row → Row
set_child n r = relinked r.next (row n) r.other r.lead r.text r

abbrev pub set_other : ℕ → Row → Row
set_other n r = relinked r.next r.child (row n) r.lead r.text r

abbrev pub set_lead : Stretch → Row → Row
set_lead x r = relinked r.next r.child r.other x r.text r

abbrev pub set_text : Stretch → Row → Row
set_text x r = relinked r.next r.child r.other r.lead x r

abbrev pub new_row : Statement → ℕ → Link → Role → Row
new_row x p up k = record {
  statement = x;
  place = p;
  parent = up;
  role = k;
  next = nowhere;
  child = nowhere;
  other = nowhere;
  lead = stretch 0 0;
  text = stretch 0 0;
}

-- the new row n of a list: the first inside its parent, or behind the last
abbrev pub linked : ℕ → Link → (List Row → List Row) → List Row → List Row
linked n nowhere as_first rs = as_first rs
linked n (row l) as_first rs = change l (set_next n) rs

abbrev pub first_of : Link → Link → ℕ → Link
first_of first nowhere n = row n
first_of first (row l) n = first

abbrev pub at_last : Open → ℕ → Open
at_last o n = record { kind = o.kind; row = o.row; last = row n; labels = o.labels }

abbrev pub grown : State → Link → List Row → List Open → State
grown st f rs os = state st.lead f rs st.declared os st.scope

-- the statement x of the place p as a new row, in what is open
abbrev pub add_in : Where → Open → List Open → Statement → ℕ → State → State
add_in in_program o os x p st =
    let n = length st.rows in
    grown st (first_of st.first o.last n)
    (linked n o.last (λ rs. rs) st.rows ++ new_row x p nowhere listed ∷ []) (at_last o n ∷ os)
add_in in_group o os x p st =
    let n = length st.rows in
    grown st st.first
    (linked n o.last (change o.row (set_child n)) st.rows ++ new_row x p (row o.row) listed ∷ [])
    (at_last o n ∷ os)
add_in in_body o os x p st =
    let n = length st.rows in
    grown st st.first
    (linked n o.last (change o.row (set_child n)) st.rows ++ new_row x p (row o.row) listed ∷ [])
    (at_last o n ∷ os)
add_in in_then o os x p st =
    let n = length st.rows in
    grown st st.first (change o.row (set_child n) st.rows ++ new_row x p (row o.row) then_part ∷ []) (o ∷ os)
add_in in_else o os x p st =
    let n = length st.rows in
    grown st st.first (change o.row (set_other n) st.rows ++ new_row x p (row o.row) else_part ∷ []) (o ∷ os)

-- something is always open, the program at the least: here and below, `[]` is not met
abbrev pub add_to : List Open → Statement → ℕ → State → State
add_to [] x p st = st
add_to (o ∷ os) x p st = add_in o.kind o os x p st

unfoldable pub add_row : Statement → ℕ → State → State
add_row x p st = add_to st.opened x p st

abbrev pub with_names : List Declared → State → State
with_names ds st = state st.lead st.first st.rows (st.declared ++ ds) st.opened st.scope

abbrev pub with_opened : List Open → Scope → State → State
with_opened os k st = state st.lead st.first st.rows st.declared os k

abbrev pub with_rows : List Row → State → State
with_rows rs st = state st.lead st.first rs st.declared st.opened st.scope

abbrev pub with_lead : Stretch → State → State
with_lead x st = state x st.first st.rows st.declared st.opened st.scope

-- ---- one turn after the other. What comes next: the text that the program or a group begins with, the text behind the
-- sentence of a row, the statement of an alternative, or in a procedure a statement or END
pub data Mode : Type 0 where
  leading_text : Mode
  text_behind : ℕ → Mode
  alternative : Mode
  inner : Mode

pub data Turn : Type 0 where
  go : Mode → ℕ → State → Turn
  stop : Why → ℕ → List ℕ → State → Turn
  finish : State → Turn

-- ELSE and END are words that may turn out to be a target or a label, by the token behind them
unfoldable pub is_decided : Token → Bool
is_decided t = not (is_sign "=" t) && not (is_sign ":" t)

-- ELSE: the place past it
pub data Else : Type 0 where
  else_to : ℕ → Else
  no_else : Else

unfoldable pub else_word : Letters → List ℕ → Lexeme → Else
else_word α s t =
    cond (is_word "ELSE" t.token && is_decided (token_at α s t.to).token) (else_to t.to) no_else

unfoldable pub else_at : Letters → Bool → List ℕ → ℕ → Else
else_at α true s e = else_word α s (token_at α s e)
else_at α false s e = when (is_sign "%" (token_at α s e).token) (λ _. else_word α s (token_at α s (token_at α s e).to)) (λ _. no_else)

-- the statement of row n ends at e. "ELSE goes with the nearest IF."
abbrev pub elsed : Else → ℕ → List Open → State → (Unit {0} → Turn) → Turn
elsed (else_to q) i os st up = go alternative q (with_opened (opening in_else i [] ∷ os) st.scope st)
elsed no_else i os st up = up tt

abbrev pub behind : Scope → ℕ → Mode
behind global n = text_behind n
behind (inside r) n = inner

abbrev pub complete_in : Letters → Where → List ℕ → ℕ → List Open → ℕ → ℕ → State → (ℕ → Turn) → Turn
complete_in α in_program s i os n e st up = go (behind st.scope n) e st
complete_in α in_group s i os n e st up = go (behind st.scope n) e st
complete_in α in_body s i os n e st up = go (behind st.scope n) e st
complete_in α in_then s i os n e st up = elsed (else_at α (is_inside st.scope) s e) i os st (λ _. up i)
complete_in α in_else s i os n e st up = up i

unfoldable pub complete : Letters → List ℕ → List Open → ℕ → ℕ → State → Turn
complete α s [] n e st = finish st
complete α s (o ∷ os) n e st =
    complete_in α o.kind s o.row os n e (with_opened (o ∷ os) st.scope st) (λ i. complete α s os i e st)

-- ---- labels, and the token behind them; `long` are the places of those over 31 bytes
pub record Labelled : Type 0 where
  pub labels : List Named
  pub long : List ℕ
  pub behind : Lexeme

abbrev pub is_name : Token → Bool
is_name (word w) = true
is_name (integer w) = false
is_name (string w) = false
is_name (bits w) = false
is_name (sign w) = false
is_name nothing = false
is_name wrong = false

abbrev pub add_label : Reading Named → List Named → List ℕ → (List Named → List ℕ → Labelled) → Labelled
add_label (read n) ns long f = f (ns ++ n ∷ []) long
add_label (refused w p) ns long f = f ns (long ++ p ∷ [])

-- "An identifier followed by `:` is a label"; f is more than the turns
unfoldable pub labels_from : Letters → List ℕ → ℕ → List Named → List ℕ → ℕ → Labelled
labels_from α s zero ns long at = record { labels = ns; long = long; behind = token_at α s at }
labels_from α s (suc f) ns long at =
    when (is_name (token_at α s at).token && is_sign ":" (token_at α s (token_at α s at).to).token)
    (λ _. add_label (name_of (token_at α s at).token (token_at α s at).from (token_at α s at).to) ns long
    (λ ms more. labels_from α s f ms more (token_at α s (token_at α s at).to).to))
    (λ _. record { labels = ns; long = long; behind = token_at α s at })

abbrev pub labels : Letters → List ℕ → ℕ → Labelled
labels α s at = labels_from α s (length s) [] [] at

abbrev pub spelled : List Named → List (List ℕ)
spelled [] = []
spelled (n ∷ ns) = n.spelling ∷ spelled ns

-- ---- a statement that was read at p, with its labels
abbrev pub opened : Letters → Opens → List ℕ → ℕ → List Named → ℕ → State → Turn
opened α opens_nothing s n ns e st = complete α s st.opened n e st
opened α opens_group s n ns e st =
    go (cond (is_inside st.scope) inner leading_text) e
    (with_opened (opening in_group n (spelled ns) ∷ st.opened) st.scope st)
opened α opens_body s n ns e st = go inner e (with_opened (opening in_body n (spelled ns) ∷ st.opened) (inside n) st)
opened α opens_then s n ns e st = go alternative e (with_opened (opening in_then n [] ∷ st.opened) st.scope st)

-- labels before what opens a body are entry names
abbrev pub label_meaning : Opens → ℕ → Meaning
label_meaning opens_nothing n = label n
label_meaning opens_group n = label n
label_meaning opens_body n = body n
label_meaning opens_then n = label n

unfoldable pub taken : Letters → List ℕ → ℕ → List Named → State → Clause → List Declared → Turn
taken α s p ns st c ds =
    let n = length st.rows in
    opened α c.opens s n ns c.to
    (with_names (means st.scope (label_meaning c.opens n) ns ++ ds) (add_row c.statement p st))

-- the labels of what turns out wrong: they are names, and count as such
abbrev pub named : List Named → State → State
named ns st = with_names (means st.scope (label 0) ns) st

-- a statement that is wrong: it counts as one, and its names count
abbrev pub untaken : ℕ → List Named → State → Why → ℕ → List Declared → Turn
untaken p ns st w q ds = stop w q (p ∷ []) (with_names (means st.scope (label 0) ns ++ ds) st)

abbrev pub take_read : Letters → List ℕ → ℕ → List Named → State → Reading Clause → Turn
take_read α s p ns st (read c) = taken α s p ns st c []
take_read α s p ns st (refused w q) = untaken p ns st w q []

abbrev pub take_declared : Letters → List ℕ → ℕ → List Named → State → Declaring → Turn
take_declared α s p ns st (declared c ds) = taken α s p ns st c ds
take_declared α s p ns st (undeclared w q ds) = untaken p ns st w q ds

-- ---- which statement begins with the word t; u is the token behind it
abbrev pub is_none : List Named → Bool
is_none [] = true
is_none (n ∷ ns) = false

abbrev pub is_declare : Token → Bool
is_declare t = is_word "DECLARE" t || is_word "DCL" t

abbrev pub is_procedure : Token → Bool
is_procedure t = is_word "PROCEDURE" t || is_word "PROC" t

-- "a 17th group": at its DO
unfoldable pub do_at : Letters → List ℕ → ℕ → ℕ → State → Reading Clause
do_at α s from to st = when (ltb (depth st.opened) open_groups) (λ _. do_clause α s to) (λ _. refused over_limit from)

-- statements of either kind
unfoldable pub common : Letters → List ℕ → Lexeme → State → (Reading Clause → Turn) → (Unit {0} → Turn) → Turn
common α s t st take other =
    when (is_word "IF" t.token) (λ _. take (if_clause α (is_inside st.scope) s t.to))
    (λ _. when (is_word "DO" t.token) (λ _. take (do_at α s t.from t.to st))
    (λ _. when (is_word "GOTO" t.token) (λ _. take (goto_clause α s t.to))
    (λ _. when (is_word "GO" t.token) (λ _. take (then (expect_word α "TO" s t.to) (goto_clause α s)))
    other)))

-- statements of a list alone
unfoldable pub in_list : Letters → List ℕ → ℕ → List Named → Lexeme → State → (Unit {0} → Turn) → Turn
in_list α s p ns t st other =
    when (is_list (kind_of st.opened) && is_declare t.token)
    (λ _. take_declared α s p ns st (declare_from α st.scope s (length s) [] t.to))
    (λ _. when (is_list (kind_of st.opened) && not (is_inside st.scope) && not (is_none ns) && is_procedure t.token)
    (λ _. take_declared α s p ns st (procedure_clause α (inside (length st.rows)) s t.to))
    other)

abbrev pub outer : Letters → Scope → List ℕ → Lexeme → (Reading Clause → Turn) → (Unit {0} → Turn) → Turn
outer α global s t take other =
    when (is_word "INCLUDE" t.token) (λ _. take (include_clause α s t.to))
    (λ _. when (is_word "ACTIVATE" t.token || is_word "ACT" t.token) (λ _. take (activate_clause α s t.to))
    (λ _. when (is_word "DEACTIVATE" t.token || is_word "DEACT" t.token) (λ _. take (deactivate_clause α s t.to))
    other))
outer α (inside r) s t take other = when (is_word "RETURN" t.token) (λ _. take (return_clause α s t.to)) other

-- "by `=` an assignment"; a word that begins no statement here is not wrong, but the token behind it is
unfoldable pub by_word : Letters → List ℕ → ℕ → List Named → List ℕ → Lexeme → Lexeme → State → Turn
by_word α s p ns w t u st =
    when (is_sign "=" u.token) (λ _. take_read α s p ns st (assignment α s w u.to))
    (λ _. common α s t st (take_read α s p ns st)
    (λ _. outer α st.scope s t (take_read α s p ns st)
    (λ _. in_list α s p ns t st
    (λ _. untaken p ns st syntax u.from []))))

abbrev pub by_name : Letters → Reading Named → List ℕ → ℕ → List Named → Lexeme → State → Turn
by_name α (read n) s p ns t st = by_word α s p ns n.spelling t (token_at α s t.to) st
by_name α (refused w q) s p ns t st = untaken p ns st w q []

abbrev pub by_token : Letters → Token → List ℕ → ℕ → List Named → Lexeme → State → Turn
by_token α (word w) s p ns t st = by_name α (name_of (word w) t.from t.to) s p ns t st
by_token α (integer w) s p ns t st = untaken p ns st syntax t.from []
by_token α (string w) s p ns t st = untaken p ns st syntax t.from []
by_token α (bits w) s p ns t st = untaken p ns st syntax t.from []
by_token α (sign w) s p ns t st =
    when (is_sign ";" (sign w))
    (λ _. taken α s p ns st (clause null opens_nothing t.to) [])
    (λ _. untaken p ns st syntax t.from [])
by_token α nothing s p ns t st = untaken p ns st syntax t.from []
by_token α wrong s p ns t st = untaken p ns st syntax t.from []

-- ---- END, from behind it: "A name after END must be a label of what it ends, else 3."
abbrev pub may_name : Token → List (List ℕ) → Bool
may_name (word w) ls = is_one_of w ls
may_name (integer w) ls = false
may_name (string w) ls = false
may_name (bits w) ls = false
may_name (sign w) ls = false
may_name nothing ls = false
may_name wrong ls = false

unfoldable pub end_name : Letters → List ℕ → List (List ℕ) → ℕ → Reading ℕ
end_name α s ls at =
    when (is_sign ";" (token_at α s at).token) (λ _. read (token_at α s at).to)
    (λ _. when (may_name (token_at α s at).token ls)
    (λ _. when (is_sign ";" (token_at α s (token_at α s at).to).token) (λ _. read (token_at α s (token_at α s at).to).to)
    (λ _. refused syntax (token_at α s (token_at α s at).to).from))
    (λ _. refused syntax (token_at α s at).from))

abbrev pub scope_out : Where → Scope → Scope
scope_out in_program k = k
scope_out in_group k = k
scope_out in_body k = global
scope_out in_then k = k
scope_out in_else k = k

abbrev pub end_read : Letters → List ℕ → List Named → Open → List Open → State → Reading ℕ → Turn
end_read α s ns o os st (read e) =
    complete α s os o.row e
    (with_opened os (scope_out o.kind st.scope) (with_names (means st.scope (end_label o.row) ns) st))
end_read α s ns o os st (refused w q) = stop w q [] (with_names (means st.scope (end_label o.row) ns) st)

abbrev pub end_at : Letters → List ℕ → List Named → ℕ → List Open → State → Turn
end_at α s ns at [] st = stop syntax at [] st
end_at α s ns at (o ∷ os) st = end_read α s ns o os st (end_name α s o.labels at)

-- ---- a clause at p, from behind its `%` or in a procedure from its first token
unfoldable pub is_full : State → Bool
is_full st = leb member_sentences (length st.rows)

-- "over 1,024 sentences": at its `%`, also where it turns out wrong; END is no sentence
unfoldable pub is_end : Letters → List ℕ → Lexeme → Bool
is_end α s t = is_word "END" t.token && is_decided (token_at α s t.to).token

abbrev pub long_label : List ℕ → (ℕ → Turn) → (Unit {0} → Turn) → Turn
long_label [] f on = on tt
long_label (p ∷ ps) f on = f p

unfoldable pub clause_from : Letters → List ℕ → ℕ → Labelled → State → Turn
clause_from α s p L st =
    when (is_in_group (kind_of st.opened) && is_end α s L.behind)
    (λ _. long_label L.long (λ q. stop over_limit q [] (named L.labels st))
    (λ _. end_at α s L.labels L.behind.to st.opened st))
    (λ _. when (is_full st) (λ _. stop over_limit p (p ∷ []) st)
    (λ _. long_label L.long (λ q. untaken p L.labels st over_limit q [])
    (λ _. by_token α L.behind.token s p L.labels L.behind st)))

abbrev pub clause_at : Letters → List ℕ → ℕ → ℕ → State → Turn
clause_at α s p at st = clause_from α s p (labels α s at) st

-- ---- texts
abbrev pub texted : Letters → TextEnd → List ℕ → (ℕ → State) → Turn
texted α (percent_at p) s f = clause_at α s p (p + 1) (f p)
texted α at_end s f =
    cond (leb (length (f 0).opened) 1) (finish (f (length s))) (stop syntax (length s) [] (f (length s)))
texted α (open_at p) s f = stop syntax p [] (f p)

-- only the program and groups begin with a text
abbrev pub lead_in : List Open → ℕ → ℕ → State → State
lead_in [] at p st = st
lead_in (o ∷ os) at p st = lead_of o.kind o.row
  where
    lead_of : Where → ℕ → State
    lead_of in_program n = with_lead (stretch at p) st
    lead_of in_group n = with_rows (change n (set_lead (stretch at p)) st.rows) st
    lead_of in_body n = st
    lead_of in_then n = st
    lead_of in_else n = st

-- ---- in a procedure: `%` begins only its END
-- another word could still be a label, and the token behind it is wrong
abbrev pub not_end : Letters → Reading Named → List ℕ → State → Turn
not_end α (read n) s st = stop syntax (token_at α s n.to).from [] st
not_end α (refused w p) s st = stop w p [] st

abbrev pub procedure_end : Letters → List ℕ → Labelled → State → Turn
procedure_end α s L st =
    long_label L.long (λ q. stop over_limit q [] (named L.labels st))
    (λ _. when (is_word "END" L.behind.token) (λ _. end_at α s L.labels L.behind.to st.opened st)
    (λ _. not_end α (name_of L.behind.token L.behind.from L.behind.to) s (named L.labels st)))

-- whether a token can begin a statement
abbrev pub begins : Token → Bool
begins t = is_name t || is_sign ";" t

unfoldable pub inner_at : Letters → List ℕ → ℕ → Lexeme → State → Turn
inner_at α s at t st =
    when (is_in_body (kind_of st.opened) && is_sign "%" t.token) (λ _. procedure_end α s (labels α s t.to) st)
    (λ _. when (begins t.token) (λ _. clause_at α s t.from at st)
    (λ _. stop syntax t.from [] st))

-- ---- an alternative: "the 17th alternative at its `%`"
unfoldable pub deep_enough : ℕ → State → (Unit {0} → Turn) → Turn
deep_enough p st on = when (leb (depth st.opened) open_groups) on (λ _. stop over_limit p (p ∷ []) st)

abbrev pub alternative_at : Letters → Scope → List ℕ → ℕ → Lexeme → State → Turn
alternative_at α global s at t st =
    when (is_sign "%" t.token)
    (λ _. deep_enough t.from st (λ _. clause_at α s t.from t.to st))
    (λ _. stop syntax t.from [] st)
alternative_at α (inside r) s at t st =
    when (begins t.token)
    (λ _. deep_enough t.from st (λ _. clause_at α s t.from at st))
    (λ _. stop syntax t.from [] st)

unfoldable pub turn : Letters → List ℕ → Mode → ℕ → State → Turn
turn α s leading_text at st = texted α (text_end α (suc (length s)) s at) s (λ p. lead_in st.opened at p st)
turn α s (text_behind n) at st =
    texted α (text_end α (suc (length s)) s at) s (λ p. with_rows (change n (set_text (stretch at p)) st.rows) st)
turn α s alternative at st = alternative_at α st.scope s at (token_at α s at) st
turn α s inner at st = inner_at α s at (token_at α s at) st

-- ---- the member
abbrev pub places : List Row → List ℕ
places [] = []
places (r ∷ rs) = r.place ∷ places rs

abbrev pub source : State → List ℕ → Fault → Source
source st begun f = record {
  lead = st.lead;
  first = st.first;
  rows = st.rows;
  declared = st.declared;
  begun = places st.rows ++ begun;
  fault = f;
}

-- f is more than the turns, so that none are lacking where more are to come
unfoldable pub read_on : Letters → List ℕ → ℕ → Turn → Source
read_on α s zero (go m at st) = source st [] (faulty syntax at)
read_on α s zero (stop w p begun st) = source st begun (faulty w p)
read_on α s zero (finish st) = source st [] sound
read_on α s (suc f) (go m at st) = read_on α s f (turn α s m at st)
read_on α s (suc f) (stop w p begun st) = source st begun (faulty w p)
read_on α s (suc f) (finish st) = source st [] sound

abbrev pub start : State
start = state (stretch 0 0) nowhere [] [] (opening in_program 0 [] ∷ []) global

-- THE MEMBER whose body is s
unfoldable pub read_member : Letters → List ℕ → Source
read_member α s = read_on α s (suc (suc (length s))) (go leading_text 0 start)
