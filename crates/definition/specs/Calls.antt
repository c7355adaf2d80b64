-- 01: "Arguments go by value." "Local variables are static." A procedure runs its rows as `Flow` says; how many
-- procedures may still be started is the number that falls. Table, 12: "procedure entered while running, or left
-- without RETURN"; 15: "17th procedure running at once".
use Rattle.std.specs.Prelude.{ℕ, zero, suc, ◌-◌, Bool, false, cond, ◌&&◌, ◌||◌, List, [], ◌∷◌, eqb}
use Rattle.definition.specs.Choice.{when}
use Rattle.definition.specs.Limits.{running_procedures}
use Rattle.definition.specs.Refusal.{Why, wrong_name, wrongly_run, wrong_goto, too_deep}
use Rattle.definition.specs.Expressions.{Tree}
use Rattle.definition.specs.Program.{Type', character_type, Statement, null, declare, procedure, assign, conditional, group, iterated, goto, include, activate, deactivate, return, of_procedure, Link, nowhere, row, Row}
use Rattle.definition.specs.Values.{Value, convert}
use Rattle.definition.specs.World.{everyone, procedure_at, Denotation, variable_of, entry_of, label_at, builtin_name, Address, address, unknown, World, Res, good, bad, bind, address_of, denotation, store, row_of, rows_of}
use Rattle.definition.specs.Evaluate.{Parameter, Call, put, evaluate}
use Rattle.definition.specs.Flow.{Jump, to_row, to_end, Deed, passed, gave, Next, begin, no_next, End, ran, returned, went, Machine, run_on, may_go}

-- a procedure by its member and row
pub record Place : Type 0 where
  pub member : ℕ
  pub row : ℕ

unfoldable pub is_running : ℕ → ℕ → List Place → Bool
is_running m r [] = false
is_running m r (p ∷ ps) = eqb p.member m && eqb p.row r || is_running m r ps

-- there are as many values as parameters
abbrev pub store_all : List Parameter → List Value → World → World
store_all [] vs w = w
store_all (p ∷ ps) [] w = w
store_all (p ∷ ps) (v ∷ vs) w = store_all ps vs (store p.at v w)

-- of a procedure; no other statement comes here
abbrev pub type_of : Statement → Type'
type_of x = of_procedure x (λ ns t. t) (λ _. character_type)

-- RETURN converts to the type of the procedure; DECLARE in a procedure does nothing; others do not come here
abbrev pub act_in : Statement → Type' → ℕ → (Tree → World → Res Why Value) → World → Res Why Deed
act_in null t u value w = good passed w
act_in (declare ns) t u value w = good passed w
act_in (procedure ns k) t u value w = good passed w
act_in (assign n x) t u value w = good passed w
act_in (conditional x) t u value w = good passed w
act_in group t u value w = good passed w
act_in (iterated n x bs) t u value w = good passed w
act_in (goto n) t u value w = good passed w
act_in (include ns) t u value w = good passed w
act_in (activate ns) t u value w = good passed w
act_in (deactivate ns) t u value w = good passed w
act_in (return x) t u value w = bind (value x w) λ v y. bind (put u (convert t v) y) λ c z. good (gave c) z

-- ---- GOTO in a procedure: "local names first, every global label is 13"
abbrev pub jump_to : List Row → ℕ → ℕ → Bool → World → Res Why Jump
jump_to rs n r is_end w =
    when (may_go rs n r is_end) (λ _. good (cond is_end (to_end r) (to_row r)) w) (λ _. bad wrong_goto w.used)

abbrev pub jump_local : Denotation → List Row → ℕ → World → Res Why Jump
jump_local (variable_of t) rs n w = bad wrong_name w.used
jump_local (entry_of e b) rs n w = bad wrong_name w.used
jump_local (label_at m r is_end) rs n w = jump_to rs n r is_end w
jump_local builtin_name rs n w = bad wrong_name w.used

abbrev pub jump_global : Denotation → World → Res Why Jump
jump_global (variable_of t) w = bad wrong_name w.used
jump_global (entry_of e b) w = bad wrong_name w.used
jump_global (label_at m r is_end) w = bad wrong_goto w.used
jump_global builtin_name w = bad wrong_name w.used

abbrev pub jump_out : Address → World → Res Why Jump
jump_out (address a) w = jump_global (denotation a w) w
jump_out unknown w = bad wrong_name w.used

abbrev pub jump_in : Address → List ℕ → List Row → ℕ → World → Res Why Jump
jump_in (address a) t rs n w = jump_local (denotation a w) rs n w
jump_in unknown t rs n w = jump_out (address_of t everyone w) w

-- ---- the body of the procedure at row r of member m, where `run` starts other procedures and u bytes wait
unfoldable pub body_machine : Call → ℕ → ℕ → ℕ → List Row → Machine Why
body_machine run m r u rs = record {
  rows = rs;
  owner = procedure_at m r;
  fault = λ x e. e;
  value = λ x w. evaluate run (procedure_at m r) x u w;
  waiting = u;
  out = λ s w. good tt w;
  act = λ n w.
      act_in (row_of rs n).statement (type_of (row_of rs r).statement) u (λ x v. evaluate run (procedure_at m r) x u v) w;
  jump = λ n t w. jump_in (address_of t (procedure_at m r) w) t rs n w;
}

abbrev pub first_of : Link → Next
first_of nowhere = no_next
first_of (row n) = begin n

-- "left without RETURN" is 12; no GOTO leads out of a procedure, so that `went` is not met
abbrev pub value_of : Res Why End → Res Why Value
value_of (good ran w) = bad wrongly_run w.used
value_of (good (returned v) w) = good v w
value_of (good (went t) w) = bad wrong_goto w.used
value_of (bad e n) = bad e n

unfoldable pub body_run : Call → ℕ → ℕ → ℕ → World → Res Why Value
body_run run m r u w =
    value_of
    (run_on (body_machine run m r u (rows_of m w)) (w.limit - w.used) (first_of (row_of (rows_of m w) r).child) [] w)

-- n procedures may still be started; `on` are running
unfoldable pub calls : ℕ → List Place → Call
calls zero on c vs u w =
    when (is_running c.member c.row on) (λ _. bad wrongly_run w.used) (λ _. bad too_deep w.used)
calls (suc n) on c vs u w =
    when (is_running c.member c.row on) (λ _. bad wrongly_run w.used)
    (λ _.
    let inside = record { member = c.member; row = c.row } ∷ on in
    body_run (calls n inside) c.member c.row u (store_all c.parameters vs w))

-- THE CALL from outside procedures
abbrev pub call_out : Call
call_out = calls running_procedures []
