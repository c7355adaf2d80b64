-- Prefix operators, a block at a time; and how many arguments a list has.
use Rattle.definition.specs.declared.Why.{Why}
use Rattle.std.specs.Prelude.{ℕ, zero, suc, ◌+◌, ◌<◌, ◌≤◌, ◌≡◌, List, [], ◌∷◌, length, get_or, take, Result, Ok}
use Rattle.definition.specs.declared.Prefix.{Prefix}
use Rattle.definition.specs.declared.Prefix.TheVariants.{Positive}
use Rattle.definition.specs.Bytes.{mixed}
use Rattle.definition.specs.Expressions as E
use Rattle.definition.specs.Expressions.{read, parsed, Tree}
use Rattle.definition.specs.Evaluate.{count}
use Rattle.definition.specs.Values as Val
use Rattle.expressions.specs.Check.{inside_of}
use Rattle.operators.specs.declared.Value.{Value}
use Rattle.operators.specs.Stands.{size_for, value_in, given_in, stacked, Ready}
use Rattle.operands.specs.declared.Signs.{Signs}
use Rattle.operands.specs.Answer.{signs_at}

-- the operator number i of a block
abbrev pub sign_in : Signs → ℕ → Prefix
sign_in all i = get_or all.items i Positive

-- k of them from number i on
unfoldable pub signs_in : Signs → ℕ → ℕ → List Prefix
signs_in all i zero = []
signs_in all i (suc k) = sign_in all i ∷ signs_in all (suc i) k

-- all that begin at a place
abbrev pub all_signs : List ℕ → ℕ → List Prefix
all_signs s from = signs_at (length s) s from

-- operators applied from the last to the first
unfoldable pub prefixed_all : ℕ → List Prefix → Val.Answer Val.Value → Val.Answer Val.Value
prefixed_all u [] a = a
prefixed_all u (o ∷ os) a = Val.and_then (prefixed_all u os a) (λ v. stacked u (Val.prefixed o v))

-- the operator o became number i - first, if there is such a number
pub record WithSign (all : Signs) (first i : ℕ) (o : Prefix) (r : Signs) : Type 0 where
  pub size : length r.items ≡ 256
  pub here : (j : ℕ) → j < 256 → first + j ≡ i → sign_in r j ≡ o
  pub other : (j : ℕ) → (first + j ≡ i → ⊥) → sign_in r j ≡ sign_in all j

pub record SignsFrom (s : List ℕ) (from first : ℕ) (r : Signs) : Type 0 where
  pub is : (j : ℕ) → j < 256 → first + j < length (all_signs s from) → sign_in r j ≡ get_or (all_signs s from) (first + j) Positive

pub record Applied (w : List ℕ) (u : ℕ) (os : List Prefix) (v : Value) (w' : List ℕ) (g : Result Value Why) : Type 0 where
  pub is : given_in w' u g ≡ prefixed_all u os (Val.gives (value_in w u v))
  pub below : take u w' ≡ take u w
  pub fits : (y : Value) → g ≡ Ok y → u + size_for y ≤ 65536

pub record BlockDone (w : List ℕ) (u : ℕ) (all : Signs) (n : ℕ) (v : Value) (w' : List ℕ) (g : Result Value Why) : Type 0 where
  pub so : Ready w u (size_for v) → Applied w u (signs_in all 0 n) v w' g

pub record AllDone (s : List ℕ) (from n : ℕ) (w : List ℕ) (u : ℕ) (v : Value) (w' : List ℕ) (g : Result Value Why) : Type 0 where
  pub so : Ready w u (size_for v) → n ≡ length (all_signs s from) → Applied w u (all_signs s from) v w' g

-- ---- a list of arguments that the definition reads has n
pub record CountIs (s : List ℕ) (from left n : ℕ) : Type 0 where
  pub is : (p : ℕ) (t : Tree) (e : ℕ) → E.arguments mixed (inside_of left s p) s (length s) from ≡ read (parsed t e) → n ≡ count t
