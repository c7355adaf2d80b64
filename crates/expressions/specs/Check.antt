-- What the answers about an expression's syntax stand for.
use Rattle.expressions.specs.Types.{Expected, NamedAt}
use Rattle.std.specs.Prelude.{ℕ, zero, suc, Bool, false, cond, List, length, Option, Some, None, Ok, Err}
use Rattle.definition.specs.Bytes.{mixed}
use Rattle.definition.specs.Lists.{same}
use Rattle.definition.specs.Tokens.{Token, word, integer, string, bits, sign, nothing, wrong, token_at}
use Rattle.definition.specs.Expressions.{Reading, read, refused, then, none, Parsed, Reader, Named, Maybe, is, no_operator, infix_of, prefix_of, name_at, reference_at, primitive, operand, chain, levels, expression}
use Rattle.definition.specs.declared.Why.TheVariants.{Syntax, OverLimit}
use Rattle.definition.specs.declared.Operator.{Operator}
use Rattle.definition.specs.declared.Prefix.{Prefix}
use Rattle.expressions.specs.declared.Prefixes.{Prefixes}

-- the operator that stands next, and the place past it
abbrev pub infix_for : Maybe Operator → ℕ → Option (Operator × ℕ)
infix_for (is o) to = Some (o, to)
infix_for no_operator to = None

-- of level l, behind the place `at`
unfoldable pub infix_at : ℕ → List ℕ → ℕ → Option (Operator × ℕ)
infix_at l s at = infix_for (infix_of l (token_at mixed s at).token) (token_at mixed s at).to

abbrev pub prefix_for : Maybe Prefix → ℕ → Option (Prefix × ℕ)
prefix_for (is o) to = Some (o, to)
prefix_for no_operator to = None

-- what must follow was there, or it is refused
abbrev pub expect_for : Reading ℕ → Expected
expect_for (read e) = Ok e
expect_for (refused w p) = Err (w, p)

-- whether a token is the sign that bytes spell
abbrev pub is_spelled : List ℕ → Token → Bool
is_spelled w (word x) = false
is_spelled w (integer x) = false
is_spelled w (string x) = false
is_spelled w (bits x) = false
is_spelled w (sign x) = same x w
is_spelled w nothing = false
is_spelled w wrong = false

-- the definition's `expectSign`, for bytes
unfoldable pub expected : List ℕ → List ℕ → ℕ → Expected
expected w s at = cond (is_spelled w (token_at mixed s at).token) (Ok (token_at mixed s at).to) (Err (Syntax, (token_at mixed s at).from))

-- an operator that is alone on its level, by the bytes of its sign
unfoldable pub single_for : List ℕ → Operator → List ℕ → ℕ → Option (Operator × ℕ)
single_for w o s at = cond (is_spelled w (token_at mixed s at).token) (Some (o, (token_at mixed s at).to)) None

abbrev pub named_for : Reading Named → NamedAt
named_for (read n) = Ok (n.place, n.to)
named_for (refused w p) = Err (w, p)

-- whether a token is the word that bytes spell
abbrev pub is_worded : List ℕ → Token → Bool
is_worded w (word x) = same x w
is_worded w (integer x) = false
is_worded w (string x) = false
is_worded w (bits x) = false
is_worded w (sign x) = false
is_worded w nothing = false
is_worded w wrong = false

-- the definition's `expectWord`, for bytes
unfoldable pub expected_word : List ℕ → List ℕ → ℕ → Expected
expected_word w s at = cond (is_worded w (token_at mixed s at).token) (Ok (token_at mixed s at).to) (Err (Syntax, (token_at mixed s at).from))

-- ---- the prefix operators at a place, at most f of them
abbrev pub prefixes_of : ℕ → ℕ → Prefixes
prefixes_of n to = record { count = n; to = to }

abbrev pub with_prefix : Maybe Prefix → ℕ → Prefixes → Prefixes
with_prefix (is o) at r = prefixes_of (suc r.count) r.to
with_prefix no_operator at r = prefixes_of 0 at

unfoldable pub prefixes : ℕ → List ℕ → ℕ → Prefixes
prefixes zero s at = prefixes_of 0 at
prefixes (suc f) s at = with_prefix (prefix_of (token_at mixed s at).token) at (prefixes f s (token_at mixed s at).to)

-- ---- the check of an expression answers where the tree ends that the definition reads
unfoldable pub end_for : Reading Parsed → Expected
end_for (read r) = Ok r.to
end_for (refused w p) = Err (w, p)

-- what stands behind the parenthesis at p, where d may still be opened
unfoldable pub inside_of : ℕ → List ℕ → ℕ → Reader
inside_of zero s p at = refused OverLimit p
inside_of (suc d) s p at = expression mixed d s at

-- a name, and its arguments if it has any
unfoldable pub referred : (ℕ → Reader) → List ℕ → Reader
referred inside s at = then (name_at mixed s at) λ n. reference_at mixed inside s n (token_at mixed s n.to)

abbrev pub primitive_at : (ℕ → Reader) → List ℕ → Reader
primitive_at inside s at = primitive mixed inside s (token_at mixed s at).token (token_at mixed s at).from (token_at mixed s at).to

abbrev pub operand_in : ℕ → List ℕ → Reader
operand_in d s = operand mixed (inside_of d s) s (suc (length s))

abbrev pub levels_in : ℕ → List ℕ → ℕ → Reader
levels_in d s n = levels mixed (operand_in d s) s n

-- operators of level l behind any tree: the end is the same for all
abbrev pub chain_in : ℕ → List ℕ → ℕ → Reader
chain_in d s l = chain mixed l (levels_in d s l) s (suc (length s)) none
