-- What is open while a member is read stands for in the definition, and what the answers about labels, ELSE and texts do.
use Rattle.statements.specs.Types.{Read}
use Rattle.std.specs.Prelude.{ℕ, zero, suc, ◌+◌, ◌-◌, ◌≤◌, ◌<◌, Bool, true, false, cond, not, ◌&&◌, ◌||◌, List, [], ◌∷◌, ◌≡◌, ltb, length, get_or, Option, Some, None}
use Rattle.definition.specs.Bytes.{mixed}
use Rattle.definition.specs.Choice.{when}
use Rattle.definition.specs.Lists.{same, is_one_of}
use Rattle.definition.specs.Expressions.{Reading, read, refused, Named}
use Rattle.definition.specs.Statements as St
use Rattle.definition.specs.declared.Why.TheVariants.{Syntax}
use Rattle.definition.specs.declared.ValueType.TheVariants.{FixedType}
use Rattle.definition.specs.Text.{bytes_of}
use Rattle.definition.specs.Tokens as Tk
use Rattle.definition.specs.Tokens.{token_at}
use Rattle.definition.specs.Program as P
use Rattle.definition.specs.Reading as D
use Rattle.tokens.specs.Answer.{Lexed, spelling, is_word_kind, is_word_in, is_sign_in}
use Rattle.tokens.specs.declared.Lexeme.{Lexeme}
use Rattle.tokens.specs.declared.Ending.{Ending}
use Rattle.tokens.specs.declared.Ending.TheVariants as E
use Rattle.rows.specs.declared.Role.{Role}
use Rattle.rows.specs.declared.Role.TheVariants as Rl
use Rattle.rows.specs.declared.Statement.TheVariants as S
use Rattle.names.specs.declared.Owner.{Owner}
use Rattle.entering.specs.Book.{first_of}
use Rattle.statements.specs.declared.Keyword.{Keyword}
use Rattle.statements.specs.declared.Keyword.TheVariants as K
use Rattle.statements.specs.Clauses.{Own, scope_of, go_clause, read_for}
use Rattle.openings.specs.declared.Where.{Where}
use Rattle.openings.specs.declared.Where.TheVariants as Wh
use Rattle.openings.specs.declared.Open.{Open}
use Rattle.openings.specs.declared.Opened.{Opened}
use Rattle.openings.specs.declared.Labels.{Labels}
use Rattle.openings.specs.declared.Done.{Done}
use Rattle.openings.specs.declared.Done.TheVariants as Dn

-- ---- links and roles of rows
abbrev pub link_of : Option ℕ → P.Link
link_of None = P.nowhere
link_of (Some n) = P.row n

abbrev pub role_of : Role → P.Role
role_of Rl.Listed = P.listed
role_of Rl.ThenPart = P.then_part
role_of Rl.ElsePart = P.else_part

-- ---- what is open, innermost first
abbrev pub where_of : Where → D.Where
where_of Wh.InProgram = D.in_program
where_of Wh.InGroup = D.in_group
where_of Wh.InBody = D.in_body
where_of Wh.InThen = D.in_then
where_of Wh.InElse = D.in_else

-- an alternative has one statement, so that its last row is of no matter; END names labels of groups and bodies alone
abbrev pub last_of : Where → Option ℕ → P.Link
last_of Wh.InProgram l = link_of l
last_of Wh.InGroup l = link_of l
last_of Wh.InBody l = link_of l
last_of Wh.InThen l = P.nowhere
last_of Wh.InElse l = P.nowhere

abbrev pub labels_of : List ℕ → Where → ℕ → List (List ℕ)
labels_of s Wh.InProgram at = []
labels_of s Wh.InGroup at = D.spelled (D.labels mixed s at).labels
labels_of s Wh.InBody at = D.spelled (D.labels mixed s at).labels
labels_of s Wh.InThen at = []
labels_of s Wh.InElse at = []

unfoldable pub open_of : List ℕ → Open → D.Open
open_of s o = record { kind = where_of o.kind; row = o.row; last = last_of o.kind o.last; labels = labels_of s o.kind o.labels }

abbrev pub no_open : Open
no_open = record { kind = Wh.InProgram; row = 0; last = None; labels = 0 }

-- the n first of a list of what is open, the last of them on top
unfoldable pub open_from : List ℕ → List Open → ℕ → List D.Open
open_from s os zero = []
open_from s os (suc n) = open_of s (get_or os n no_open) ∷ open_from s os n

-- ---- THE LIST of what is open, for any body s: labels are read again in it
unfoldable pub opened_of : List ℕ → Opened → List D.Open
opened_of s o = open_from s o.items o.count

abbrev pub top_in : List Open → ℕ → Open
top_in os zero = no_open
top_in os (suc n) = get_or os n no_open

abbrev pub rest_of : List D.Open → List D.Open
rest_of [] = []
rest_of (o ∷ os) = os

pub record Opening (k : Where) (n at : ℕ) (r : Open) : Type 0 where
  pub is : (s : List ℕ) → open_of s r ≡ D.opening (where_of k) n (labels_of s k at)

pub record OpenAt (o : Opened) (i : ℕ) (r : Open) : Type 0 where
  pub is : r ≡ get_or o.items i no_open
  pub past : 20 ≤ i → r ≡ no_open

pub record Pushed (o : Opened) (x : Open) (r : Opened) : Type 0 where
  pub is : o.count < 20 → (s : List ℕ) → opened_of s r ≡ open_of s x ∷ opened_of s o
  pub count : o.count < 20 → r.count ≡ suc o.count

pub record Popped (o r : Opened) : Type 0 where
  pub is : (s : List ℕ) → opened_of s r ≡ rest_of (opened_of s o)
  pub count : r.count ≡ o.count - 1

pub record TopKind (o : Opened) (r : Where) : Type 0 where
  pub is : (s : List ℕ) → where_of r ≡ D.kind_of (opened_of s o)

-- the last row of a list; an alternative has none
abbrev pub last_by : D.Where → D.Open → ℕ → D.Open
last_by D.in_program o n = D.at_last o n
last_by D.in_group o n = D.at_last o n
last_by D.in_body o n = D.at_last o n
last_by D.in_then o n = o
last_by D.in_else o n = o

abbrev pub last_in : ℕ → List D.Open → List D.Open
last_in n [] = []
last_in n (o ∷ os) = last_by o.kind o n ∷ os

pub record WithLast (x : Open) (n : ℕ) (r : Open) : Type 0 where
  pub is : (s : List ℕ) → open_of s r ≡ last_by (where_of x.kind) (open_of s x) n

pub record AtLast (o : Opened) (n : ℕ) (r : Opened) : Type 0 where
  pub is : 0 < o.count → o.count ≤ 20 → (s : List ℕ) → opened_of s r ≡ last_in n (opened_of s o)
  pub count : 0 < o.count → o.count ≤ 20 → r.count ≡ o.count

-- what a new row has from where it stands, and what it changes there (`D.addIn`)
abbrev pub parent_in : D.Where → ℕ → P.Link
parent_in D.in_program n = P.nowhere
parent_in D.in_group n = P.row n
parent_in D.in_body n = P.row n
parent_in D.in_then n = P.row n
parent_in D.in_else n = P.row n

abbrev pub role_in : D.Where → P.Role
role_in D.in_program = P.listed
role_in D.in_group = P.listed
role_in D.in_body = P.listed
role_in D.in_then = P.then_part
role_in D.in_else = P.else_part

abbrev pub first_in : D.Where → P.Link → P.Link → ℕ → P.Link
first_in D.in_program f l n = D.first_of f l n
first_in D.in_group f l n = f
first_in D.in_body f l n = f
first_in D.in_then f l n = f
first_in D.in_else f l n = f

abbrev pub linked_in : D.Where → D.Open → ℕ → List P.Row → List P.Row
linked_in D.in_program o n rs = D.linked n o.last (λ xs. xs) rs
linked_in D.in_group o n rs = D.linked n o.last (D.change o.row (D.set_child n)) rs
linked_in D.in_body o n rs = D.linked n o.last (D.change o.row (D.set_child n)) rs
linked_in D.in_then o n rs = D.change o.row (D.set_child n) rs
linked_in D.in_else o n rs = D.change o.row (D.set_other n) rs

pub record ScopeOut (k : Where) (o r : Owner) : Type 0 where
  pub is : scope_of r ≡ D.scope_out (where_of k) (scope_of o)
  pub own : (m : ℕ) → Own m o → Own m r

-- how deep
pub record Deep (o : Opened) (r : ℕ) : Type 0 where
  pub is : (s : List ℕ) → r ≡ D.depth (opened_of s o)

pub record Sum20 (n k r : ℕ) : Type 0 where
  pub low : n < 20 → k < 20 → r ≡ n + k
  pub high : 20 ≤ n → r ≡ 20

-- ---- leaves
abbrev pub counts_for : Where → ℕ
counts_for k = D.counts (where_of k)

abbrev pub else_for : D.Else → Option ℕ
else_for (D.else_to q) = Some q
else_for D.no_else = None

-- where a text ends
abbrev pub end_for : List ℕ → Ending → ℕ
end_for s (E.Percent p) = p
end_for s E.AtEnd = length s
end_for s (E.OpenAt p) = p

-- the place past a label
unfoldable pub label_past : List ℕ → ℕ → Option ℕ
label_past s at = cond (D.is_name (token_at mixed s at).token && Tk.is_sign ":" (token_at mixed s (token_at mixed s at).to).token) (Some (token_at mixed s (token_at mixed s at).to).to) None

-- ELSE, as the lexeme t says
unfoldable pub else_word_in : List ℕ → Lexeme → Option ℕ
else_word_in s t = cond (is_word_in s t (bytes_of "ELSE") && D.is_decided (token_at mixed s t.to).token) (Some t.to) None

-- ---- labels
abbrev pub labelled : List ℕ → ℕ → List (List ℕ)
labelled s at = D.spelled (D.labels mixed s at).labels

abbrev pub first_long : List ℕ → Option ℕ
first_long [] = None
first_long (p ∷ ps) = Some p

abbrev pub long_after : Option ℕ → Reading Named → Option ℕ
long_after m (read n) = m
long_after m (refused w p) = first_of m p

pub record LabelsAt (s : List ℕ) (from : ℕ) (r : Labels) : Type 0 where
  pub behind : (D.labels mixed s from).behind ≡ token_at mixed s r.to
  pub long : r.long ≡ first_long (D.labels mixed s from).long
  pub count : r.count ≡ length (D.labels mixed s from).labels + length (D.labels mixed s from).long

-- whether a name is spelled so
abbrev pub names_as : List ℕ → Reading Named → Bool
names_as w (read n) = same w n.spelling
names_as w (refused y p) = false

-- ---- WHICH STATEMENT begins with a word, by the definition's tests in its order (`D.by_word`): of a word before `=`, in a list,
-- in a procedure, with labels, by a test on its spellings
abbrev pub outer_by : Bool → (List ℕ → Bool) → Keyword → Keyword
outer_by false is other =
    cond (is (bytes_of "INCLUDE")) K.Include
    (cond (is (bytes_of "ACTIVATE") || is (bytes_of "ACT")) K.Activate
    (cond (is (bytes_of "DEACTIVATE") || is (bytes_of "DEACT")) K.Deactivate other))
outer_by true is other = cond (is (bytes_of "RETURN")) K.Return other

abbrev pub list_by : Bool → Bool → Bool → (List ℕ → Bool) → Keyword
list_by list inside labels is =
    cond (list && (is (bytes_of "DECLARE") || is (bytes_of "DCL"))) K.Declare
    (cond (list && not inside && labels && (is (bytes_of "PROCEDURE") || is (bytes_of "PROC"))) K.Procedure K.Other)

unfoldable pub keyword_here : Bool → Bool → Bool → Bool → (List ℕ → Bool) → Keyword
keyword_here equals list inside labels is =
    cond equals K.Other
    (cond (is (bytes_of "IF")) K.If
    (cond (is (bytes_of "DO")) K.Do
    (cond (is (bytes_of "GOTO")) K.Goto
    (cond (is (bytes_of "GO")) K.Go (outer_by inside is (list_by list inside labels is))))))

-- the same of a lexeme behind n labels
unfoldable pub keyword_at : List ℕ → D.Where → Bool → Lexeme → ℕ → Keyword
keyword_at s k inside t n = keyword_here (Tk.is_sign "=" (token_at mixed s t.to).token) (D.is_list k) inside (ltb 0 n) (is_word_in s t)

-- whether a word that is k begins a statement
abbrev pub may_stand : Keyword → Bool → Bool → Bool → Bool
may_stand K.If list inside labels = true
may_stand K.Do list inside labels = true
may_stand K.Goto list inside labels = true
may_stand K.Go list inside labels = true
may_stand K.Include list inside labels = not inside
may_stand K.Activate list inside labels = not inside
may_stand K.Deactivate list inside labels = not inside
may_stand K.Return list inside labels = inside
may_stand K.Declare list inside labels = list
may_stand K.Procedure list inside labels = list && not inside && labels
may_stand K.Other list inside labels = false

abbrev pub opens_by : Keyword → St.Opens
opens_by K.If = St.opens_then
opens_by K.Do = St.opens_group
opens_by K.Goto = St.opens_nothing
opens_by K.Go = St.opens_nothing
opens_by K.Include = St.opens_nothing
opens_by K.Activate = St.opens_nothing
opens_by K.Deactivate = St.opens_nothing
opens_by K.Return = St.opens_nothing
opens_by K.Declare = St.opens_nothing
opens_by K.Procedure = St.opens_body
opens_by K.Other = St.opens_nothing

-- a word that begins no statement, with the token u behind it
unfoldable pub other_at : List ℕ → List ℕ → Tk.Lexeme → Reading St.Clause
other_at s w u = when (Tk.is_sign "=" u.token) (λ _. St.assignment mixed s w u.to) (λ _. refused Syntax u.from)

unfoldable pub other_for : List ℕ → ℕ → ℕ → Read
other_for s c to = read_for S.Assign c FixedType (other_at s [] (token_at mixed s to))

unfoldable pub null_for : ℕ → ℕ → Read
null_for from to = read_for S.Null from FixedType (read (St.clause P.null St.opens_nothing to))

-- THE TURN of the statement k: t is its word, spelled w, and u the token behind it
abbrev pub by_keyword : Keyword → List ℕ → ℕ → List Named → List ℕ → Tk.Lexeme → Tk.Lexeme → D.State → D.Turn
by_keyword K.If s p ns w t u st = D.take_read mixed s p ns st (St.if_clause mixed (D.is_inside st.scope) s t.to)
by_keyword K.Do s p ns w t u st = D.take_read mixed s p ns st (D.do_at mixed s t.from t.to st)
by_keyword K.Goto s p ns w t u st = D.take_read mixed s p ns st (St.goto_clause mixed s t.to)
by_keyword K.Go s p ns w t u st = D.take_read mixed s p ns st (go_clause s t.to)
by_keyword K.Include s p ns w t u st = D.take_read mixed s p ns st (St.include_clause mixed s t.to)
by_keyword K.Activate s p ns w t u st = D.take_read mixed s p ns st (St.activate_clause mixed s t.to)
by_keyword K.Deactivate s p ns w t u st = D.take_read mixed s p ns st (St.deactivate_clause mixed s t.to)
by_keyword K.Return s p ns w t u st = D.take_read mixed s p ns st (St.return_clause mixed s t.to)
by_keyword K.Declare s p ns w t u st = D.take_declared mixed s p ns st (St.declare_from mixed st.scope s (length s) [] t.to)
by_keyword K.Procedure s p ns w t u st = D.take_declared mixed s p ns st (St.procedure_clause mixed (P.inside (length st.rows)) s t.to)
by_keyword K.Other s p ns w t u st = D.take_read mixed s p ns st (other_at s w u)

-- ---- what the definition asks a token, asked of a lexeme
unfoldable pub begins_in : List ℕ → Lexeme → Bool
begins_in s t = is_word_kind t.kind || is_sign_in s t (bytes_of ";")

unfoldable pub is_end_in : List ℕ → Lexeme → Bool
is_end_in s t = is_word_in s t (bytes_of "END") && D.is_decided (token_at mixed s t.to).token

unfoldable pub may_name_in : List ℕ → Lexeme → List (List ℕ) → Bool
may_name_in s t ls = is_word_kind t.kind && is_one_of (spelling s t) ls

-- ---- behind a statement
abbrev pub done_turn : Done → List D.Open → ℕ → ℕ → D.State → (ℕ → D.Turn) → D.Turn
done_turn (Dn.Up i) os n e st up = up i
done_turn (Dn.OnElse i q) os n e st up = D.go D.alternative q (D.with_opened (D.opening D.in_else i [] ∷ os) st.scope st)
done_turn Dn.On os n e st up = D.go (D.behind st.scope n) e st

pub record Completes (s : List ℕ) (o : Open) (k : Owner) (e : ℕ) (r : Done) : Type 0 where
  pub is : (os : List D.Open) (n : ℕ) (st : D.State) (up : ℕ → D.Turn) → st.scope ≡ scope_of k
      → D.complete_in mixed (where_of o.kind) s o.row os n e st up ≡ done_turn r os n e st up

-- the statement of an alternative, from a place on
abbrev pub alternative_turn : Option ℕ → List ℕ → Tk.Lexeme → D.State → D.Turn
alternative_turn (Some q) s t st = D.deep_enough t.from st (λ _. D.clause_at mixed s t.from q st)
alternative_turn None s t st = D.stop Syntax t.from [] st

-- which begins with the first token, in a procedure, or behind `%`
pub data Enters (s : List ℕ) (at q : ℕ) : Type 0 where
  first : q ≡ at → D.begins (token_at mixed s at).token ≡ true → Enters s at q
  behind : q ≡ (token_at mixed s at).to → Tk.is_sign "%" (token_at mixed s at).token ≡ true → Enters s at q

pub record AlternativeFrom (s : List ℕ) (k : Owner) (t : Lexeme) (at : ℕ) (r : Option ℕ) : Type 0 where
  pub is : Lexed s at t → (st : D.State) → D.alternative_at mixed (scope_of k) s at (token_at mixed s at) st ≡ alternative_turn r s (token_at mixed s at) st
  pub enters : Lexed s at t → (q : ℕ) → r ≡ Some q → Enters s at q

pub record PlaceAfter (s : List ℕ) (p r : ℕ) : Type 0 where
  pub is : p < length s → r ≡ p + 1
