-- A statement that was read is the one that is read again from where the answer says.
-- Assumes nothing.
use mathlib.Core.Path.{◌≡◌, ap}
use mathlib.Core.Bool.{Bool, true, false, cond}
use mathlib.Core.List.{List, []}
use Prim.Native.Nat.{ℕ}
use lib.ListN.{length}
use native.Mathlib.Omega.{arith}
use Rattle.definition.specs.Bytes.{mixed}
use Rattle.definition.specs.Choice.{when}
use Rattle.definition.specs.Tokens.{is_sign, is_word, token_at}
use Rattle.definition.specs.Expressions.{Reading, read, refused, then, Parsed, Named, name_at, expect_sign, expect_word, whole_expression}
use Rattle.definition.specs.Program as P
use Rattle.definition.specs.Statements as D
use Rattle.definition.specs.declared.Why.TheVariants.{Syntax}
use Rattle.rows.specs.declared.Statement.TheVariants as S
use Rattle.statements.specs.Clauses.{go_clause, do_kind, clause_in}
use Rattle.statements.specs.Again.{statement_in, declare_again, assign_again, condition_again, statement_at}

module _ (s : List ℕ) (at : ℕ) (x : D.Clause) where
  pub again_goto : D.goto_clause mixed s at ≡ read x → statement_at s S.Goto at ≡ x.statement
  unfolding statement_at
  again_goto h = ap statement_in h

  pub again_include : D.include_clause mixed s at ≡ read x → statement_at s S.Include at ≡ x.statement
  unfolding statement_at
  again_include h = ap statement_in h

  pub again_activate : D.activate_clause mixed s at ≡ read x → statement_at s S.Activate at ≡ x.statement
  unfolding statement_at
  again_activate h = ap statement_in h

  pub again_deactivate : D.deactivate_clause mixed s at ≡ read x → statement_at s S.Deactivate at ≡ x.statement
  unfolding statement_at
  again_deactivate h = ap statement_in h

  pub again_return : D.return_clause mixed s at ≡ read x → statement_at s S.Return at ≡ x.statement
  unfolding statement_at
  again_return h = ap statement_in h

  group_or : (g : Bool) (y : Reading D.Clause) (to : ℕ) → when g (λ _. read (D.clause P.group D.opens_group to)) (λ _. y) ≡ read x → D.do_clause mixed s at ≡ read x → statement_at s (cond g S.Group S.Iterated) at ≡ x.statement
  unfolding statement_at
  group_or true y to h k = ap statement_in h
  group_or false y to h k = ap statement_in k

  pub again_do : D.do_clause mixed s at ≡ read x → statement_at s (do_kind s at) at ≡ x.statement
  unfolding do_kind D.do_clause
  again_do h = group_or (is_sign ";" (token_at mixed s at).token) _ (token_at mixed s at).to h h

  go_by : (g : Bool) (to from : ℕ) → then (cond g (read to) (refused Syntax from)) (D.goto_clause mixed s) ≡ read x → statement_at s S.Goto to ≡ x.statement
  unfolding statement_at
  go_by true to from h = ap statement_in h
  go_by false to from h = let z : ◌≡◌ {A = ℕ} 0 1 = cc in absurd (omega arith)

  pub again_go : go_clause s at ≡ read x → statement_at s S.Goto (token_at mixed s at).to ≡ x.statement
  unfolding go_clause expect_word
  again_go h = go_by (is_word "TO" (token_at mixed s at).token) (token_at mixed s at).to (token_at mixed s at).from h

  then_word_lem : (p : Parsed) (Q : Reading ℕ) → then Q (λ e. read (D.clause (P.conditional p.tree) D.opens_then e)) ≡ read x → P.conditional p.tree ≡ x.statement
  then_word_lem p (read e) h = ap statement_in h
  then_word_lem p (refused w q) h = let z : ◌≡◌ {A = ℕ} 0 1 = cc in absurd (omega arith)

  condition : (b : Bool) (R : Reading Parsed) → then R (λ r. then (D.then_word mixed b s r.to) λ e. read (D.clause (P.conditional r.tree) D.opens_then e)) ≡ read x → statement_in (then R λ r. read (D.clause (P.conditional r.tree) D.opens_then r.to)) ≡ x.statement
  condition b (read r) h = then_word_lem r (D.then_word mixed b s r.to) h
  condition b (refused w q) h = let z : ◌≡◌ {A = ℕ} 0 1 = cc in absurd (omega arith)

  pub again_if : (b : Bool) → D.if_clause mixed b s at ≡ read x → statement_at s S.Conditional at ≡ x.statement
  unfolding statement_at condition_again D.if_clause
  again_if b h = condition b (whole_expression mixed s at) h

  pub again_assign : (n : Named) (e : ℕ) → name_at mixed s at ≡ read n → expect_sign mixed "=" s n.to ≡ read e → D.assignment mixed s n.spelling e ≡ read x → statement_at s S.Assign at ≡ x.statement
  unfolding statement_at assign_again
  again_assign n e f g h = rw (f, g, h)

  -- outside procedures
  pub again_declare : clause_in (D.declare_from mixed P.global s (length s) [] at) ≡ read x → statement_at s S.Declare at ≡ x.statement
  unfolding statement_at declare_again
  again_declare h = rw h
