-- A statement is kept as its kind and the place where it is read again, with the definition's own readers.
use Rattle.std.specs.Prelude.{ℕ, List, [], length}
use Rattle.definition.specs.Bytes.{mixed}
use Rattle.definition.specs.Expressions.{Reading, read, refused, then, name_at, expect_sign, whole_expression}
use Rattle.definition.specs.Program as P
use Rattle.definition.specs.Statements as D
use Rattle.rows.specs.declared.Statement.{Statement}
use Rattle.rows.specs.declared.Statement.TheVariants as S
use Rattle.statements.specs.Clauses.{clause_in}

abbrev pub statement_in : Reading D.Clause → P.Statement
statement_in (read x) = x.statement
statement_in (refused w p) = P.null

-- the one that can be read
abbrev pub or_else : Reading D.Clause → Reading D.Clause → Reading D.Clause
or_else (read x) other = read x
or_else (refused w p) other = other

-- ENTRY stands outside procedures and BUILTIN inside; else a DECLARE is the same in both
unfoldable pub declare_again : List ℕ → ℕ → Reading D.Clause
declare_again s c = or_else (clause_in (D.declare_from mixed P.global s (length s) [] c)) (clause_in (D.declare_from mixed (P.inside 0) s (length s) [] c))

unfoldable pub assign_again : List ℕ → ℕ → Reading D.Clause
assign_again s c = then (name_at mixed s c) λ n. then (expect_sign mixed "=" s n.to) λ e. D.assignment mixed s n.spelling e

unfoldable pub condition_again : List ℕ → ℕ → Reading D.Clause
condition_again s c = then (whole_expression mixed s c) λ r. read (D.clause (P.conditional r.tree) D.opens_then r.to)

-- THE STATEMENT of a kind that is read again at the place c of the body s
unfoldable pub statement_at : List ℕ → Statement → ℕ → P.Statement
statement_at s S.Null c = P.null
statement_at s S.Declare c = statement_in (declare_again s c)
statement_at s S.Procedure c = statement_in (clause_in (D.procedure_clause mixed (P.inside 0) s c))
statement_at s S.Assign c = statement_in (assign_again s c)
statement_at s S.Conditional c = statement_in (condition_again s c)
statement_at s S.Group c = P.group
statement_at s S.Iterated c = statement_in (D.do_clause mixed s c)
statement_at s S.Goto c = statement_in (D.goto_clause mixed s c)
statement_at s S.Include c = statement_in (D.include_clause mixed s c)
statement_at s S.Activate c = statement_in (D.activate_clause mixed s c)
statement_at s S.Deactivate c = statement_in (D.deactivate_clause mixed s c)
statement_at s S.Return c = statement_in (D.return_clause mixed s c)
