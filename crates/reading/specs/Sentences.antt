-- What END, a statement that begins with a word or another token, and a clause do, with the labels before them.
use Rattle.std.specs.Prelude.{ℕ, suc, ◌+◌, ◌-◌, ◌≤◌, ◌<◌, Bool, true, not, ◌||◌, List, [], ◌++◌, ◌≡◌, leb, ltb, length}
use Rattle.definition.specs.Bytes.{mixed}
use Rattle.definition.specs.Tokens.{token_at}
use Rattle.definition.specs.Expressions.{Reading, read, refused, Named}
use Rattle.definition.specs.Program as P
use Rattle.definition.specs.Statements as St
use Rattle.definition.specs.Reading as D
use Rattle.definition.specs.declared.Why.{Why}
use Rattle.definition.specs.declared.Why.TheVariants.{Syntax, OverLimit}
use Rattle.tokens.specs.declared.Lexeme.{Lexeme}
use Rattle.tokens.specs.Answer.{Lexed, spelling, is_word_kind}
use Rattle.entering.specs.Book.{Entered, book_of, book_all, book_whole}
use Rattle.statements.specs.declared.Keyword.{Keyword}
use Rattle.statements.specs.Clauses.{scope_of, Own}
use Rattle.openings.specs.Open.{opened_of, labelled, opens_by, keyword_at, by_keyword}
use Rattle.reading.specs.declared.State.{State}
use Rattle.reading.specs.declared.Next.{Next}
use Rattle.reading.specs.declared.Next.TheVariants as Nx
use Rattle.reading.specs.declared.Turned.{Turned}
use Rattle.reading.specs.State.{rows_from, turn_of, state_in, Spare, Marks, Sits, Takes, from_state}

-- ---- END
-- another word could still be a label
abbrev pub not_end_next : List ℕ → Reading Named → Next
not_end_next s (read n) = Nx.Stop Syntax (token_at mixed s n.to).from
not_end_next s (refused w p) = Nx.Stop w p

-- with a label over 31 bytes at q, of any rows
pub record EndsLong (d s n : List ℕ) (x : State) (labels q : ℕ) (n' : List ℕ) (r : Turned) : Type 0 where
  pub so : (t : List ℕ) → Sits d s t n x → Takes d s t n x (D.stop OverLimit q [] (D.named (D.labels mixed s labels).labels (from_state s t x))) t n' r

-- from behind it, where a group or a body is open
pub record EndsAt (d s n : List ℕ) (x : State) (labels at : ℕ) (n' : List ℕ) (r : Turned) : Type 0 where
  pub so : (t : List ℕ) → Sits d s t n x → (D.is_in_group (D.kind_of (opened_of s x.opened)) || D.is_in_body (D.kind_of (opened_of s x.opened))) ≡ true
      → Takes d s t n x (D.end_at mixed s (D.labels mixed s labels).labels at (opened_of s x.opened) (from_state s t x)) t n' r

-- of a procedure, behind its `%`
pub record EndsBody (d s n : List ℕ) (x : State) (at : ℕ) (n' : List ℕ) (r : Turned) : Type 0 where
  pub so : (t : List ℕ) → Sits d s t n x → D.is_in_body (D.kind_of (opened_of s x.opened)) ≡ true → Takes d s t n x (D.procedure_end mixed s (D.labels mixed s at) (from_state s t x)) t n' r

-- ---- a clause whose labels were entered before it: ds are its names with those of its labels, es its own
-- where the reading goes on
pub record Along (d s n : List ℕ) (x : State) (ds es : List P.Declared) (X : D.Turn) (t' n' : List ℕ) (r : Turned) : Type 0 where
  pub turn : turn_of s t' ds r ≡ X
  pub declared : (state_in X).declared ≡ ds
  pub entered : Entered d n x.tally (book_whole x.tally.member [] es) n' r.state.tally

-- and where it stops
pub record Breaks (d s n : List ℕ) (x : State) (ds es : List P.Declared) (w : Why) (p : ℕ) (st : D.State) (t' n' : List ℕ) (r : Turned) : Type 0 where
  pub next : r.next ≡ Nx.Stop w p
  pub rows : rows_from s t' 0 r.state.rows ≡ st.rows
  pub declared : st.declared ≡ ds
  pub names : (book_of d n' r.state.tally).identifiers ≡ (book_all x.tally.member es (book_of d n x.tally)).identifiers
  pub past : (book_of d n' r.state.tally).past ≡ (book_all x.tally.member es (book_of d n x.tally)).past

abbrev pub Comes : List ℕ → List ℕ → List ℕ → State → List P.Declared → List P.Declared → List P.Declared → D.Turn → List ℕ → List ℕ → Turned → Type 0
Comes d s n x ds wrong es (D.go m at st) t' n' r = Along d s n x ds es (D.go m at st) t' n' r
Comes d s n x ds wrong es (D.stop w p begun st) t' n' r = Breaks d s n x wrong es w p st t' n' r
Comes d s n x ds wrong es (D.finish st) t' n' r = Along d s n x ds es (D.finish st) t' n' r

-- g is what the labels ns mean, unless the clause is wrong
pub record Clausal (d s t n : List ℕ) (x : State) (g : P.Meaning) (ns : List Named) (X : D.Turn) (t' n' : List ℕ) (r : Turned) : Type 0 where
  pub names : List P.Declared
  pub comes : Comes d s n x (St.means (scope_of x.scope) g ns ++ names) (St.means (scope_of x.scope) (P.label 0) ns ++ names) names X t' n' r
  pub before : r.state.entered ≡ x.entered
  pub few : r.state.rows ≤ suc x.rows
  pub own : Own x.tally.member r.state.scope
  pub size : length t' ≡ length t
  pub marks : Marks s t x.rows x.opened t' r.state.rows

-- what a clause at p needs, behind its labels ns, where the token l stands
pub record Begun (d s t n : List ℕ) (x : State) (l : Lexeme) (from p labels : ℕ) (ns : List Named) : Type 0 where
  pub sits : Sits d s t n x
  pub room : Spare x
  pub place : p < 65536
  pub lexed : Lexed s from l
  pub labelled : D.spelled ns ≡ labelled s labels

-- the statement k, by its word
pub record ByWord (d s t n : List ℕ) (x : State) (k : Keyword) (l : Lexeme) (from p labels : ℕ) (t' n' : List ℕ) (r : Turned) : Type 0 where
  pub so : (ns : List Named) → Begun d s t n x l from p labels ns → is_word_kind l.kind ≡ true → l.to - l.from ≤ 31
      → Clausal d s t n x (D.label_meaning (opens_by k) x.rows) ns (by_keyword k s p ns (spelling s l) (token_at mixed s from) (token_at mixed s (token_at mixed s from).to) (from_state s t x)) t' n' r

-- and by its first token, behind c labels
pub record ByToken (d s t n : List ℕ) (x : State) (k : Keyword) (l : Lexeme) (from p labels : ℕ) (t' n' : List ℕ) (r : Turned) : Type 0 where
  pub so : (ns : List Named) (c : ℕ) → Begun d s t n x l from p labels ns → k ≡ keyword_at s (D.kind_of (opened_of s x.opened)) (D.is_inside (scope_of x.scope)) l c → ltb 0 c ≡ not (D.is_none ns)
      → Clausal d s t n x (D.label_meaning (opens_by k) x.rows) ns (D.by_token mixed (token_at mixed s from).token s p ns (token_at mixed s from) (from_state s t x)) t' n' r

-- "over 1,024 sentences and procedure statements in a member, 2,048 in those entered"
abbrev pub is_full : State → Bool
is_full x = leb 2048 (x.entered + x.rows) || leb 1024 x.rows
