-- The names that a statement lists, when it is read again at its place.
-- Assumes nothing.
use mathlib.Core.Path.{◌≡◌, refl, subst}
use mathlib.Core.List.{List, []}
use Prim.Native.Nat.{ℕ}
use native.Mathlib.Omega.{arith}
use lib.ListN.{length}
use Rattle.definition.specs.Bytes.{mixed}
use Rattle.definition.specs.Expressions.{Reading, read, refused}
use Rattle.definition.specs.Program as P
use Rattle.definition.specs.Statements as St
use Rattle.rows.specs.declared.Statement.{Statement}
use Rattle.rows.specs.Tabled.{kind_of}
use Rattle.statements.specs.Clauses.{clause_in}
use Rattle.statements.specs.Again.{statement_in, or_else, declare_again, statement_at}
use Rattle.showing.specs.Listed.{Lists}

-- ---- what is not read is null
clause_again : (R : Reading St.Clause) (x : P.Statement) → statement_in R ≡ x → (P.null ≡ x → ⊥) → (c : St.Clause) × (R ≡ read c) × (c.statement ≡ x)
clause_again (read c) x e n = (c, refl, e)
clause_again (refused w p) x e n = absurd (n e)

-- DECLARE is read outside procedures, or else inside
module _ (s : List ℕ) (at : ℕ) (ns : List (List ℕ)) where
  declare_inside : (Q : St.Declaring) → St.declare_from mixed (P.inside 0) s (length s) [] at ≡ Q → statement_in (clause_in Q) ≡ P.declare ns → Lists s at (P.declare ns)
  declare_inside (St.declared c ds) g e = (P.inside 0, c, ds, g, e)
  declare_inside (St.undeclared w p ds) g e = let z : ◌≡◌ {A = ℕ} 0 1 = cc in absurd (omega arith)

  declare_by : (R : St.Declaring) → St.declare_from mixed P.global s (length s) [] at ≡ R → statement_in (or_else (clause_in R) (clause_in (St.declare_from mixed (P.inside 0) s (length s) [] at))) ≡ P.declare ns → Lists s at (P.declare ns)
  declare_by (St.declared c ds) f e = (P.global, c, ds, f, e)
  declare_by (St.undeclared w p ds) f e = declare_inside (St.declare_from mixed (P.inside 0) s (length s) [] at) refl e

  declare_lists : statement_in (declare_again s at) ≡ P.declare ns → Lists s at (P.declare ns)
  unfolding declare_again
  declare_lists e = declare_by (St.declare_from mixed P.global s (length s) [] at) refl e

-- THE NAMES of a statement of a kind that is read again at a place
pub lists_again : (s : List ℕ) (k : Statement) (c : ℕ) (st : P.Statement) → statement_at s k c ≡ st → k ≡ kind_of st → Lists s c st
unfolding statement_at
lists_again s k c P.null e f = tt
lists_again s k c (P.declare ns) e f = declare_lists s c ns (subst (λ (x : Statement). statement_at s x c ≡ P.declare ns) f e)
lists_again s k c (P.procedure ns v) e f = tt
lists_again s k c (P.assign n x) e f = tt
lists_again s k c (P.conditional x) e f = tt
lists_again s k c P.group e f = tt
lists_again s k c (P.iterated n x bs) e f = tt
lists_again s k c (P.goto n) e f = tt
lists_again s k c (P.include ns) e f =
    clause_again (St.include_clause mixed s c) (P.include ns) (subst (λ (x : Statement). statement_at s x c ≡ P.include ns) f e) λ g. let z : ◌≡◌ {A = ℕ} 0 1 = cc in absurd (omega arith)
lists_again s k c (P.activate xs) e f =
    clause_again (St.activate_clause mixed s c) (P.activate xs) (subst (λ (x : Statement). statement_at s x c ≡ P.activate xs) f e) λ g. let z : ◌≡◌ {A = ℕ} 0 1 = cc in absurd (omega arith)
lists_again s k c (P.deactivate ns) e f =
    clause_again (St.deactivate_clause mixed s c) (P.deactivate ns) (subst (λ (x : Statement). statement_at s x c ≡ P.deactivate ns) f e) λ g. let z : ◌≡◌ {A = ℕ} 0 1 = cc in absurd (omega arith)
lists_again s k c (P.return x) e f = tt
