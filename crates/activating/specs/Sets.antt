-- What ACTIVATE, DEACTIVATE and DECLARE do to the table of names: the activities are those of the definition's world, and nothing else
-- is changed.
use Rattle.std.specs.Prelude.{ℕ, ◌*◌, ◌-◌, ◌≤◌, ◌≡◌, Bool, true, false, List, [], length}
use Rattle.definition.specs.Bytes.{mixed, folded}
use Rattle.definition.specs.Lists.{part}
use Rattle.definition.specs.Expressions.{read}
use Rattle.definition.specs.Program as P
use Rattle.definition.specs.Statements as D
use Rattle.definition.specs.World as W
use Rattle.definition.specs.World.{World, Res, good, bad, variable_of, entry_of, label_at, builtin_name}
use Rattle.definition.specs.Run.{activate_name, activate_all, activations}
use Rattle.definition.specs.declared.Why.{Why}
use Rattle.definition.specs.declared.Why.TheVariants.{WrongName}
use Rattle.names.specs.declared.Activity.{Activity}
use Rattle.names.specs.Table.{activity_of, identifiers_from}
use Rattle.tokens.specs.declared.Lexeme.{Lexeme}
use Rattle.callees.specs.Shown.{denotations_from, Named}
use Rattle.outcomes.specs.Texts.{activities_from, Awake}
use Rattle.activating.specs.declared.Listed.{Listed}
use Rattle.activating.specs.Lists.{set_from}

-- a variable or an entry can be active
abbrev pub can_wake : W.Denotation → Bool
can_wake (variable_of t) = true
can_wake (entry_of e b) = true
can_wake (label_at m r q) = false
can_wake builtin_name = false

-- the world B with the activities of the table u of n names
abbrev pub awake : List ℕ → ℕ → World → World
awake u n B = W.with_tables B.identifiers B.denotations B.values (activities_from u 0 n) B

-- true for a world, false for 6
abbrev pub outcome : Bool → World → Res Why (Unit {0})
outcome true w = good tt w
outcome false w = bad WrongName w.used

-- the table t became u: the names are the same, and stand for the same
pub record Kept (d t u : List ℕ) (n : ℕ) : Type 0 where
  pub size : length u ≡ length t
  pub identifiers : 16 * n ≤ length t → identifiers_from d u 0 n ≡ identifiers_from d t 0 n
  pub denotations : 16 * n ≤ length t → denotations_from u 0 n ≡ denotations_from t 0 n

-- the definition does the same to every world that the table shows
pub record Does (d t u : List ℕ) (n : ℕ) (R : World → Res Why (Unit {0})) (r : Bool) : Type 0 where
  pub is : (B : World) → Named d t n B → Awake d t n B → 16 * n ≤ length t → R B ≡ outcome r (awake u n B)

-- ---- of the functions
-- the name l
pub record SetsName (d s t u : List ℕ) (n : ℕ) (l : Lexeme) (x : Activity) (r : Bool) : Type 0 where
  pub kept : Kept d t u n
  pub does : Does d t u n (λ w. activate_name (activity_of x) (folded mixed (part (l.to - l.from) l.from s)) w) r

-- the names from a place on
pub record SetsAll (d s t u : List ℕ) (n from : ℕ) (k : Listed) (x : Activity) (r : Bool) : Type 0 where
  pub kept : Kept d t u n
  pub does : Does d t u n (λ w. set_from k x s (length s) from w) r

-- DECLARE, as it is read behind its first word
pub record DeclaresAll (d s t u : List ℕ) (n from : ℕ) (r : Bool) : Type 0 where
  pub kept : Kept d t u n
  pub does : (k : P.Scope) (c : D.Clause) (ds : List P.Declared) (ns : List (List ℕ)) → D.declare_from mixed k s (length s) [] from ≡ D.declared c ds → c.statement ≡ P.declare ns
      → Does d t u n (λ w. activate_all W.rescanned ns w) r

-- ACTIVATE
pub record ActivatesAll (d s t u : List ℕ) (n from : ℕ) (r : Bool) : Type 0 where
  pub kept : Kept d t u n
  pub does : (c : D.Clause) (xs : List P.Activation) → D.activate_clause mixed s from ≡ read c → c.statement ≡ P.activate xs → Does d t u n (λ w. activations xs w) r

-- DEACTIVATE
pub record DeactivatesAll (d s t u : List ℕ) (n from : ℕ) (r : Bool) : Type 0 where
  pub kept : Kept d t u n
  pub does : (c : D.Clause) (ns : List (List ℕ)) → D.deactivate_clause mixed s from ≡ read c → c.statement ≡ P.deactivate ns → Does d t u n (λ w. activate_all W.inactive ns w) r
