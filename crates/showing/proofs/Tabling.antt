-- The rows of a member in the table: their links and roles, their statements, and their places and texts.
-- Assumes nothing.
use Rattle.std.proofs.Common.{Option, Some, None}
use mathlib.Core.Path.{◌≡◌, refl, sym, ap, ◌∙◌}
use mathlib.Core.List.{List}
use Prim.Native.Nat.{ℕ, ◌<◌}
use native.Mathlib.Omega.{arith}
use lib.ListN.{length}
use Rattle.definition.specs.Program as P
use Rattle.definition.specs.World.{row_of}
use Rattle.rows.specs.Table.{row_in}
use Rattle.rows.specs.Tabled.{Tabled}
use Rattle.rows.specs.declared.Role.{Role}
use Rattle.rows.specs.declared.Role.TheVariants as Rl
use Rattle.rows.specs.declared.Row.{Row}
use Rattle.statements.specs.Again.{statement_at}
use Rattle.openings.specs.Open as O
use Rattle.flow.specs.Shown as F
use Rattle.reading.specs.State as T
use Rattle.reading.specs.State.{rows_from}
use Rattle.reading.proofs.Rows.{rows_length}
use Rattle.reading.proofs.Nested.{row_first}
use Rattle.operands.specs.Shown.{Stated}
use Rattle.showing.specs.Listed.{Lists, Written}
use Rattle.showing.proofs.Stating.{stated_again}
use Rattle.showing.proofs.Listing.{lists_again}

link_back : (x : Option ℕ) → x ≡ F.link_of (O.link_of x)
link_back None = refl
link_back (Some n) = refl

role_back : (x : Role) → x ≡ F.role_of (O.role_of x)
role_back Rl.Listed = refl
role_back Rl.ThenPart = refl
role_back Rl.ElsePart = refl

row_stands : (s : List ℕ) (x : Row) (d : P.Row) → T.row_of s x ≡ d → F.Stands x d
unfolding T.row_of
row_stands s x d e = record {
  parent = link_back x.parent ∙ ap (λ (y : P.Row). F.link_of y.parent) e;
  role = role_back x.role ∙ ap (λ (y : P.Row). F.role_of y.role) e;
  next = link_back x.next ∙ ap (λ (y : P.Row). F.link_of y.next) e;
  child = link_back x.child ∙ ap (λ (y : P.Row). F.link_of y.child) e;
  other = link_back x.other ∙ ap (λ (y : P.Row). F.link_of y.other) e;
}

row_written : (s : List ℕ) (x : Row) (d : P.Row) → T.row_of s x ≡ d → Written x d
unfolding T.row_of
row_written s x d e = record { place = ap (λ (y : P.Row). y.place) e; lead = ap (λ (y : P.Row). y.lead) e; text = ap (λ (y : P.Row). y.text) e }

-- ---- the k rows of the table t, in the body s
module _ (s t : List ℕ) (k : ℕ) (rs : List P.Row) (e : rows_from s t 0 k ≡ rs) (h : Tabled t rs) where
  pub size_read : length rs ≡ k
  size_read = ap (λ (l : List P.Row). length l) (sym e) ∙ rows_length s t 0 k

  row_read : (n : ℕ) → n < length rs → T.row_of s (row_in t n) ≡ row_of rs n
  row_read n l = sym (row_first s t k n (omega (arith, l, size_read))) ∙ ap (λ (z : List P.Row). row_of z n) e

  pub shown_read : F.Shown t rs
  shown_read = record { rows = λ n l. row_stands s (row_in t n) (row_of rs n) (row_read n l); tabled = h }

  again_read : (n : ℕ) → n < length rs → statement_at s (row_in t n).statement (row_in t n).content ≡ (row_of rs n).statement
  unfolding T.row_of
  again_read n l = ap (λ (y : P.Row). y.statement) (row_read n l)

  pub stated_read : (n : ℕ) → n < length rs → Stated s (row_in t n).content (row_of rs n).statement
  stated_read n l = stated_again s (row_in t n).statement (row_in t n).content (row_of rs n).statement (again_read n l) (h.kind n l)

  pub lists_read : (n : ℕ) → n < length rs → Lists s (row_in t n).content (row_of rs n).statement
  lists_read n l = lists_again s (row_in t n).statement (row_in t n).content (row_of rs n).statement (again_read n l) (h.kind n l)

  pub written_read : (n : ℕ) → n < length rs → Written (row_in t n) (row_of rs n)
  written_read n l = row_written s (row_in t n) (row_of rs n) (row_read n l)
