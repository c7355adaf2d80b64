-- What the answers about a statement stand for: the clause that the definition reads, with the statement itself forgotten.
-- `Again` reads it again, from where the answer says.
use Rattle.statements.specs.Types.{Read}
use Rattle.expressions.specs.Types.{Expected}
use Rattle.std.specs.Prelude.{ℕ, zero, suc, ◌+◌, ◌-◌, ◌≤◌, Bool, true, false, cond, ◌&&◌, ◌||◌, List, [], ◌∷◌, ◌≡◌, leb, eqb, length, Some, None, Ok, Err}
use Rattle.std.specs.declared.option.Option.{Option}
use Rattle.std.specs.declared.result.Result.{Result}
use Rattle.definition.specs.Bytes.{mixed, folded}
use Rattle.definition.specs.Choice.{when}
use Rattle.definition.specs.Text.{bytes_of}
use Rattle.definition.specs.Tokens.{Token, is_sign, token_at}
use Rattle.definition.specs.Expressions.{Reading, read, refused, then, expect_word, Named, name_at, whole_expression}
use Rattle.definition.specs.Statements as D
use Rattle.definition.specs.Program as P
use Rattle.definition.specs.Lists.{part, same}
use Rattle.definition.specs.declared.Why.{Why}
use Rattle.definition.specs.declared.Why.TheVariants.{Syntax}
use Rattle.definition.specs.declared.ValueType.{ValueType}
use Rattle.definition.specs.declared.ValueType.TheVariants.{FixedType, CharacterType}
use Rattle.expressions.specs.Check.{expected, expected_word, is_worded, is_spelled, end_for}
use Rattle.rows.specs.declared.Statement.{Statement}
use Rattle.rows.specs.declared.Statement.TheVariants as S
use Rattle.names.specs.declared.Owner.{Owner}
use Rattle.names.specs.declared.Owner.TheVariants.{Everyone, Procedure}
use Rattle.entering.specs.declared.Meaning.{Meaning}
use Rattle.entering.specs.declared.Meaning.TheVariants as M
use Rattle.entering.specs.declared.Tally.{Tally}
use Rattle.entering.specs.Book.{Book, Roomy, Entered, book_all, tally_second}
use Rattle.statements.specs.declared.Opens.{Opens}
use Rattle.statements.specs.declared.Opens.TheVariants as O
use Rattle.statements.specs.declared.Keyword.{Keyword}
use Rattle.statements.specs.declared.Keyword.TheVariants as K
use Rattle.statements.specs.declared.Clause.{Clause}
use Rattle.statements.specs.declared.Each.{Each}
use Rattle.statements.specs.declared.Each.TheVariants as Ea
use Rattle.statements.specs.declared.Declaring.{Declaring}
use Rattle.statements.specs.declared.Item.{Item}

-- ---- the words that begin statements, by a test on their spellings
unfoldable pub other_by : (List ℕ → Bool) → Keyword
other_by is =
    cond (is (bytes_of "INCLUDE")) K.Include
    (cond (is (bytes_of "ACTIVATE") || is (bytes_of "ACT")) K.Activate
    (cond (is (bytes_of "DEACTIVATE") || is (bytes_of "DEACT")) K.Deactivate
    (cond (is (bytes_of "RETURN")) K.Return
    (cond (is (bytes_of "DECLARE") || is (bytes_of "DCL")) K.Declare
    (cond (is (bytes_of "PROCEDURE") || is (bytes_of "PROC")) K.Procedure K.Other)))))

unfoldable pub keyword_by : (List ℕ → Bool) → Keyword
keyword_by is =
    cond (is (bytes_of "IF")) K.If
    (cond (is (bytes_of "DO")) K.Do
    (cond (is (bytes_of "GOTO")) K.Goto
    (cond (is (bytes_of "GO")) K.Go (other_by is))))

-- ---- answers
abbrev pub opens_for : D.Opens → Opens
opens_for D.opens_nothing = O.Nothing
opens_for D.opens_group = O.Group
opens_for D.opens_body = O.Body
opens_for D.opens_then = O.Then

abbrev pub clause_of : Statement → Opens → ℕ → ℕ → ValueType → Clause
clause_of k o c to v = record { statement = k; opens = o; content = c; to = to; value_type = v }

-- a statement of kind k that is read again at c, of a procedure with the type v
unfoldable pub read_for : Statement → ℕ → ValueType → Reading D.Clause → Read
read_for k c v (read x) = Ok (clause_of k (opens_for x.opens) c x.to v)
read_for k c v (refused w p) = Err (w, p)

unfoldable pub read_up_to : Statement → Opens → ℕ → Expected → Read
read_up_to k o c (Ok to) = Ok (clause_of k o c to FixedType)
read_up_to k o c (Err d) = Err d

-- ---- what must follow, one after the other
unfoldable pub then_sign : List ℕ → List ℕ → Expected → Expected
then_sign w s (Ok q) = expected w s q
then_sign w s (Err d) = Err d

unfoldable pub then_word : List ℕ → List ℕ → Expected → Expected
then_word w s (Ok q) = expected_word w s q
then_word w s (Err d) = Err d

unfoldable pub then_expression : List ℕ → Expected → Expected
then_expression s (Ok q) = end_for (whole_expression mixed s q)
then_expression s (Err d) = Err d

-- BY or TO with its expression, if the word stands there
unfoldable pub bound_past : List ℕ → List ℕ → Expected → Expected
bound_past w s (Ok q) = cond (is_worded w (token_at mixed s q).token) (end_for (whole_expression mixed s (token_at mixed s q).to)) (Ok q)
bound_past w s (Err d) = Err d

unfoldable pub bounds_past : List ℕ → Expected → Expected
bounds_past s (Ok q) =
    cond (is_worded (bytes_of "BY") (token_at mixed s q).token) (bound_past (bytes_of "TO") s (end_for (whole_expression mixed s (token_at mixed s q).to)))
    (bound_past (bytes_of "BY") s (bound_past (bytes_of "TO") s (Ok q)))
bounds_past s (Err d) = Err d

-- a name
unfoldable pub name_end : Reading Named → Expected
name_end (read n) = Ok n.to
name_end (refused w p) = Err (w, p)

-- past NORESCAN or RESCAN
unfoldable pub rescan_past : List ℕ → ℕ → ℕ
rescan_past s at = cond (is_worded (bytes_of "NORESCAN") (token_at mixed s at).token || is_worded (bytes_of "RESCAN") (token_at mixed s at).token) (token_at mixed s at).to at

abbrev pub rescanned : List ℕ → Expected → Expected
rescanned s (Ok q) = Ok (rescan_past s q)
rescanned s (Err d) = Err d

-- past the member in parentheses, behind a library's name
unfoldable pub member_past : List ℕ → Expected → Expected
member_past s (Ok q) =
    cond (is_spelled (bytes_of "(") (token_at mixed s q).token) (then_sign (bytes_of ")") s (name_end (name_at mixed s (token_at mixed s q).to))) (Ok q)
member_past s (Err d) = Err d

unfoldable pub item_past : Each → List ℕ → ℕ → Expected
item_past Ea.Name s at = name_end (name_at mixed s at)
item_past Ea.Activation s at = rescanned s (name_end (name_at mixed s at))
item_past Ea.Member s at = member_past s (name_end (name_at mixed s at))

-- items with commas between them and `w` behind; f is more than the turns
abbrev pub list_next : List ℕ → List ℕ → Expected → (ℕ → Expected) → Expected
list_next w s (Ok e) again = when (is_spelled (bytes_of ",") (token_at mixed s e).token) (λ _. again (token_at mixed s e).to) (λ _. expected w s e)
list_next w s (Err d) again = Err d

unfoldable pub list_end : List ℕ → Each → List ℕ → ℕ → ℕ → Expected
list_end w i s zero at = Err (Syntax, at)
list_end w i s (suc f) at = list_next w s (item_past i s at) (list_end w i s f)

-- names alone
abbrev pub names_end : List ℕ → List ℕ → ℕ → ℕ → Expected
names_end w s = list_end w Ea.Name s

-- ---- the statements that declare nothing
-- GO and TO apart
unfoldable pub go_clause : List ℕ → ℕ → Reading D.Clause
go_clause s at = then (expect_word mixed "TO" s at) (D.goto_clause mixed s)

-- DO alone opens a group, else it is an iterated one
unfoldable pub do_kind : List ℕ → ℕ → Statement
do_kind s at = cond (is_sign ";" (token_at mixed s at).token) S.Group S.Iterated

-- from behind the word at `from`, which ends at `at`; b in a procedure
unfoldable pub plain_for : Keyword → Bool → List ℕ → ℕ → ℕ → Read
plain_for K.If b s from at = read_for S.Conditional at FixedType (D.if_clause mixed b s at)
plain_for K.Do b s from at = read_for (do_kind s at) at FixedType (D.do_clause mixed s at)
plain_for K.Goto b s from at = read_for S.Goto at FixedType (D.goto_clause mixed s at)
plain_for K.Go b s from at = read_for S.Goto (token_at mixed s at).to FixedType (go_clause s at)
plain_for K.Include b s from at = read_for S.Include at FixedType (D.include_clause mixed s at)
plain_for K.Activate b s from at = read_for S.Activate at FixedType (D.activate_clause mixed s at)
plain_for K.Deactivate b s from at = read_for S.Deactivate at FixedType (D.deactivate_clause mixed s at)
plain_for K.Return b s from at = read_for S.Return at FixedType (D.return_clause mixed s at)
plain_for K.Declare b s from at = Err (Syntax, from)
plain_for K.Procedure b s from at = Err (Syntax, from)
plain_for K.Other b s from at = Err (Syntax, from)

-- ---- DECLARE
abbrev pub scope_of : Owner → P.Scope
scope_of Everyone = P.global
scope_of (Procedure p) = P.inside p.row

abbrev pub is_inside : Owner → Bool
is_inside Everyone = false
is_inside (Procedure p) = true

-- the names from a place on, as far as they can be read; at most f
abbrev pub names_next : List ℕ → Reading Named → (ℕ → List Named) → List Named
names_next s (read n) again = n ∷ when (is_spelled (bytes_of ",") (token_at mixed s n.to).token) (λ _. again (token_at mixed s n.to).to) (λ _. [])
names_next s (refused w p) again = []

unfoldable pub names_read : List ℕ → ℕ → ℕ → List Named
names_read s zero at = []
names_read s (suc f) at = names_next s (name_at mixed s at) (names_read s f)

abbrev pub item_of : ℕ → ℕ → Expected → Item
item_of n m e = record { names = n; most = m; to = e }

-- the item at a place: one name, or names in parentheses
unfoldable pub item_in : List ℕ → ℕ → Item
item_in s at =
    cond (is_spelled (bytes_of "(") (token_at mixed s at).token)
    (item_of (token_at mixed s at).to (length s) (names_end (bytes_of ")") s (length s) (token_at mixed s at).to))
    (item_of at 1 (name_end (name_at mixed s at)))

-- the attribute that a word is, by a test on its spellings
unfoldable pub attribute_by : Bool → (List ℕ → Bool) → Option Meaning
attribute_by inside is =
    cond (is (bytes_of "CHARACTER") || is (bytes_of "CHAR")) (Some (M.Variable CharacterType))
    (cond (is (bytes_of "FIXED")) (Some (M.Variable FixedType))
    (cond inside (cond (is (bytes_of "BUILTIN")) (Some M.BuiltinName) None)
    (cond (is (bytes_of "ENTRY")) (Some M.EntryOnly) None)))

abbrev pub worded : Token → List ℕ → Bool
worded t w = is_worded w t

-- a part of a statement that was read, with the place past it, or why it is wrong, and where
abbrev pub Part : Type 0 → Type 0
Part A = Result (A × ℕ) (Why × ℕ)

abbrev pub itemized_by : Option Meaning → ℕ → ℕ → Part Meaning
itemized_by (Some m) from to = Ok (m, to)
itemized_by None from to = Err (Syntax, from)

unfoldable pub itemized : List ℕ → Expected → Bool → Part Meaning
itemized s (Ok e) inside = itemized_by (attribute_by inside (worded (token_at mixed s e).token)) (token_at mixed s e).from (token_at mixed s e).to
itemized s (Err d) inside = Err d

abbrev pub meaning_in : Part Meaning → Meaning
meaning_in (Ok x) = x.0
meaning_in (Err x) = M.Variable FixedType

-- ---- PROCEDURE
abbrev pub type_by : Bool → Bool → ℕ → ℕ → Part ValueType
type_by character fixed from to = cond character (Ok (CharacterType, to)) (cond fixed (Ok (FixedType, to)) (Err (Syntax, from)))

unfoldable pub type_from : List ℕ → Expected → Part ValueType
type_from s (Ok q) = type_by (is_worded (bytes_of "CHARACTER") (token_at mixed s q).token || is_worded (bytes_of "CHAR") (token_at mixed s q).token) (is_worded (bytes_of "FIXED") (token_at mixed s q).token) (token_at mixed s q).from (token_at mixed s q).to
type_from s (Err d) = Err d

unfoldable pub head_up_to : ValueType → ℕ → Expected → Read
head_up_to v c (Ok to) = Ok (clause_of S.Procedure O.Body c to v)
head_up_to v c (Err d) = Err d

unfoldable pub head_from : List ℕ → ℕ → Part ValueType → Read
head_from s c (Ok (v, q)) = head_up_to v c (then_sign (bytes_of ";") s (expected (bytes_of ")") s q))
head_from s c (Err d) = Err d

-- ---- what the definition's answer about a declaration says
abbrev pub clause_in : D.Declaring → Reading D.Clause
clause_in (D.declared c ds) = read c
clause_in (D.undeclared w p ds) = refused w p

abbrev pub names_in : D.Declaring → List P.Declared
names_in (D.declared c ds) = ds
names_in (D.undeclared w p ds) = ds

-- the body s lies in the deck d from `base` on
pub record Lies (d s : List ℕ) (base : ℕ) : Type 0 where
  pub size : base + length s ≤ 65536
  pub same : s ≡ part (length s) base d

-- a procedure belongs to the member that is read
abbrev pub Own : ℕ → Owner → Type 0
Own m Everyone = Unit {0}
Own m (Procedure p) = p.member ≡ m

pub record Ready (d s t : List ℕ) (x : Tally) (o : Owner) : Type 0 where
  pub roomy : Roomy t x
  pub lies : Lies d s x.base
  pub own : Own x.member o

-- names that are entered, where all is in its place
pub record NamedIf (d s t : List ℕ) (x : Tally) (o : Owner) (f : Book → Book) (u : List ℕ) (y : Tally) : Type 0 where
  pub is : Ready d s t x o → Entered d t x f u y

-- the statement from behind DECLARE
pub record Declares (d s t : List ℕ) (x : Tally) (o : Owner) (from : ℕ) (u : List ℕ) (y : Declaring) : Type 0 where
  pub entered : Entered d t x (book_all x.member (names_in (D.declare_from mixed (scope_of o) s (length s) [] from))) u y.tally
  pub is : y.read ≡ read_for S.Declare from FixedType (clause_in (D.declare_from mixed (scope_of o) s (length s) [] from))

pub record DeclaresIf (d s t : List ℕ) (x : Tally) (o : Owner) (from : ℕ) (u : List ℕ) (y : Declaring) : Type 0 where
  pub is : Ready d s t x o → Declares d s t x o from u y

-- the statement from behind PROCEDURE: what is read again at c, with its type
abbrev pub type_in : P.Statement → ValueType
type_in P.null = FixedType
type_in (P.declare ns) = FixedType
type_in (P.procedure ns t) = t
type_in (P.assign n t) = FixedType
type_in (P.conditional t) = FixedType
type_in P.group = FixedType
type_in (P.iterated n t bs) = FixedType
type_in (P.goto n) = FixedType
type_in (P.include ns) = FixedType
type_in (P.activate ns) = FixedType
type_in (P.deactivate ns) = FixedType
type_in (P.return t) = FixedType

unfoldable pub read_procedure : ℕ → D.Declaring → Read
read_procedure c (D.declared x ds) = Ok (clause_of S.Procedure (opens_for x.opens) c x.to (type_in x.statement))
read_procedure c (D.undeclared w p ds) = Err (w, p)

-- whether the bytes from p to q spell the name from `from` to `to`
unfoldable pub spelled_as : List ℕ → ℕ → ℕ → ℕ → ℕ → Bool
spelled_as s from to p q = eqb (q - p) (to - from) && same (folded mixed (part (to - from) p s)) (folded mixed (part (to - from) from s))

-- whether the bytes from `from` to `to` are spelled by one of the tokens from a place on, with one between them, before `from`
unfoldable pub listed_before : List ℕ → ℕ → ℕ → ℕ → ℕ → Bool
listed_before s from to zero at = false
listed_before s from to (suc f) at =
    when (leb from (token_at mixed s at).from) (λ _. false)
    (λ _. when (spelled_as s from to (token_at mixed s at).from (token_at mixed s at).to) (λ _. true)
    (λ _. listed_before s from to f (token_at mixed s (token_at mixed s at).to).to))

-- the first parameter that is listed twice
unfoldable pub parameter_twice : List ℕ → ℕ → ℕ → ℕ → Option ℕ
parameter_twice s list zero at = None
parameter_twice s list (suc f) at =
    when (listed_before s (token_at mixed s at).from (token_at mixed s at).to (length s) list) (λ _. Some (token_at mixed s at).from)
    (λ _. when (is_spelled (bytes_of ",") (token_at mixed s (token_at mixed s at).to).token) (λ _. parameter_twice s list f (token_at mixed s (token_at mixed s at).to).to) (λ _. None))

abbrev pub tally_twice : Option ℕ → Tally → Tally
tally_twice None t = t
tally_twice (Some p) t = tally_second t p

abbrev pub is_read : Read → Bool
is_read (Ok c) = true
is_read (Err (w, p)) = false

unfoldable pub procedure_tally : List ℕ → ℕ → Read → Tally → Tally
procedure_tally s at r t = cond (is_read r && is_spelled (bytes_of "(") (token_at mixed s at).token) (tally_twice (parameter_twice s (token_at mixed s at).to (length s) (token_at mixed s at).to) t) t

-- k is the scope of the parameters: any, since it does not matter for what is read
pub record Heads (s : List ℕ) (x : Tally) (from : ℕ) (y : Declaring) : Type 0 where
  pub is : (k : P.Scope) → y.read ≡ read_procedure from (D.procedure_clause mixed k s from)
  pub tally : y.tally ≡ procedure_tally s from y.read x
