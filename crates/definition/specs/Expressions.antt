-- 01, "Reading": "Binding, loosest first, from 000 3.2.1: `|`; `&`; comparisons; `||`; `+ -`; `* /`; prefix `+ - ^`.
-- Infix goes left to right. Parentheses and argument lists nest expressions to depth 16." 000, 3.2.1 (18) to (27).
use Rattle.std.specs.Prelude.{ℕ, zero, suc, Bool, cond, List, leb, length}
use Prim.Native.String.{String}
pub use Rattle.definition.specs.declared.Operator.{Operator}
pub use Rattle.definition.specs.declared.Operator.TheVariants.{OrOp as or_op, AndOp as and_op, Greater as greater, GreaterEqual as greater_equal, Equal as equal, Less as less, LessEqual as less_equal, NotGreater as not_greater, NotEqual as not_equal, NotLess as not_less, CatOp as cat_op, Plus as plus, Minus as minus, Times as times, Divided as divided}
pub use Rattle.definition.specs.declared.Prefix.{Prefix}
pub use Rattle.definition.specs.declared.Prefix.TheVariants.{Positive as positive, Negative as negative, Complement as complement}
use Rattle.definition.specs.Bytes.{Letters}
use Rattle.definition.specs.Choice.{when}
use Rattle.definition.specs.Limits.{name_length, open_parentheses}
use Rattle.definition.specs.Refusal.{Why, syntax, over_limit}
use Rattle.definition.specs.Tokens.{Token, word, integer, string, bits, sign, nothing, wrong, Lexeme, is_word, is_sign, token_at}

-- what reading gives, or the refusal and its place
pub data Reading (A : Type 0) : Type 0 where
  read : A → Reading A
  refused : Why → ℕ → Reading A

abbrev pub then : {A B : Type 0} → Reading A → (A → Reading B) → Reading B
then (read a) f = f a
then (refused w p) f = refused w p

-- an expression, or a list of arguments (`none`, `more`)
pub data Tree : Type 0 where
  integer_of : List ℕ → Tree
  string_of : List ℕ → Tree
  bits_of : List ℕ → Tree
  reference : List ℕ → Tree
  call : List ℕ → Tree → Tree
  unary : Prefix → Tree → Tree
  binary : Operator → Tree → Tree → Tree
  none : Tree
  more : Tree → Tree → Tree

-- a tree that was read, and the place past its last token
pub record Parsed : Type 0 where
  pub tree : Tree
  pub to : ℕ

abbrev pub parsed : Tree → ℕ → Parsed
parsed t to = record { tree = t; to = to }

-- ---- which operator a token is, at each level of binding; 0 binds tightest
pub data Maybe (A : Type 0) : Type 0 where
  is : A → Maybe A
  no_operator : Maybe A

abbrev pub or_else : {A : Type 0} → Bool → A → Maybe A → Maybe A
or_else b o other = cond b (is o) other

unfoldable pub comparison : Token → Maybe Operator
comparison t =
    or_else (is_sign ">" t) greater
    (or_else (is_sign ">=" t) greater_equal
    (or_else (is_sign "=" t) equal
    (or_else (is_sign "<" t) less
    (or_else (is_sign "<=" t) less_equal
    (or_else (is_sign "^>" t) not_greater
    (or_else (is_sign "^=" t) not_equal
    (or_else (is_sign "^<" t) not_less no_operator)))))))

unfoldable pub infix_of : ℕ → Token → Maybe Operator
infix_of zero t = or_else (is_sign "*" t) times (or_else (is_sign "/" t) divided no_operator)
infix_of (suc zero) t = or_else (is_sign "+" t) plus (or_else (is_sign "-" t) minus no_operator)
infix_of (suc (suc zero)) t = or_else (is_sign "||" t) cat_op no_operator
infix_of (suc (suc (suc zero))) t = comparison t
infix_of (suc (suc (suc (suc zero)))) t = or_else (is_sign "&" t) and_op no_operator
infix_of (suc (suc (suc (suc (suc n))))) t = or_else (is_sign "|" t) or_op no_operator

unfoldable pub prefix_of : Token → Maybe Prefix
prefix_of t =
    or_else (is_sign "+" t) positive (or_else (is_sign "-" t) negative (or_else (is_sign "^" t) complement no_operator))

-- ---- tokens that must follow
unfoldable pub expect_sign : Letters → String → List ℕ → ℕ → Reading ℕ
expect_sign α w s at =
    cond (is_sign w (token_at α s at).token) (read (token_at α s at).to) (refused syntax (token_at α s at).from)

unfoldable pub expect_word : Letters → String → List ℕ → ℕ → Reading ℕ
expect_word α w s at =
    cond (is_word w (token_at α s at).token) (read (token_at α s at).to) (refused syntax (token_at α s at).from)

-- a name, and the place of its token
pub record Named : Type 0 where
  pub spelling : List ℕ
  pub place : ℕ
  pub to : ℕ

-- where an identifier can follow, one over 31 bytes is refused with 4
abbrev pub name_of : Token → ℕ → ℕ → Reading Named
name_of (word w) from to =
    cond (leb (length w) name_length) (read (record { spelling = w; place = from; to = to })) (refused over_limit from)
name_of (integer w) from to = refused syntax from
name_of (string w) from to = refused syntax from
name_of (bits w) from to = refused syntax from
name_of (sign w) from to = refused syntax from
name_of nothing from to = refused syntax from
name_of wrong from to = refused syntax from

unfoldable pub name_at : Letters → List ℕ → ℕ → Reading Named
name_at α s at = name_of (token_at α s at).token (token_at α s at).from (token_at α s at).to

-- ---- expressions. `inside p at` reads the expression at a place behind the parenthesis at p

abbrev pub Reader : Type 0
Reader = ℕ → Reading Parsed

-- arguments, from the place behind `(` or a comma; f is more than the turns
unfoldable pub arguments : Letters → Reader → List ℕ → ℕ → ℕ → Reading Parsed
arguments α inside s zero at = refused syntax at
arguments α inside s (suc f) at = then (inside at) λ a.
    when (is_sign "," (token_at α s a.to).token)
    (λ _. then (arguments α inside s f (token_at α s a.to).to) λ r. read (parsed (more a.tree r.tree) r.to))
    (λ _. then (expect_sign α ")" s a.to) λ e. read (parsed (more a.tree none) e))

-- 000, 3.2.1 (27): reference ::= identifier [ ( { , . expression ... } ) ]
unfoldable pub reference_at : Letters → (ℕ → Reader) → List ℕ → Named → Lexeme → Reading Parsed
reference_at α inside s n u =
    when (is_sign "(" u.token)
    (λ _. then (arguments α (inside u.from) s (length s) u.to) λ r.
    read (parsed (call n.spelling r.tree) r.to))
    (λ _. read (parsed (reference n.spelling) n.to))

-- 000, 3.2.1 (26): primitive-expression ::= ( expression ) | reference | constant
unfoldable pub primitive : Letters → (ℕ → Reader) → List ℕ → Token → ℕ → ℕ → Reading Parsed
primitive α inside s (word w) from to = then (name_of (word w) from to) λ n. reference_at α inside s n (token_at α s to)
primitive α inside s (integer w) from to = read (parsed (integer_of w) to)
primitive α inside s (string w) from to = read (parsed (string_of w) to)
primitive α inside s (bits w) from to = read (parsed (bits_of w) to)
primitive α inside s (sign w) from to =
    when (is_sign "(" (sign w))
    (λ _. then (inside from to) λ r. then (expect_sign α ")" s r.to) λ e. read (parsed r.tree e))
    (λ _. refused syntax from)
primitive α inside s nothing from to = refused syntax from
primitive α inside s wrong from to = refused syntax from

-- 000, 3.2.1 (25): expression-one ::= primitive-expression | { + | - | not } expression-one
abbrev pub prefixed : Maybe Prefix → (Unit {0} → Reading Parsed) → (Unit {0} → Reading Parsed) → Reading Parsed
prefixed (is o) again first = then (again tt) λ r. read (parsed (unary o r.tree) r.to)
prefixed no_operator again first = first tt

unfoldable pub operand : Letters → (ℕ → Reader) → List ℕ → ℕ → ℕ → Reading Parsed
operand α inside s zero at = refused syntax at
operand α inside s (suc f) at =
    prefixed (prefix_of (token_at α s at).token)
    (λ _. operand α inside s f (token_at α s at).to)
    (λ _. primitive α inside s (token_at α s at).token (token_at α s at).from (token_at α s at).to)

-- what follows the tree t that ends at a place: operators of level l, each with what `next` reads; "Infix goes left to
-- right"
abbrev pub chained : Maybe Operator → (Operator → Reading Parsed) → Reading Parsed → Reading Parsed
chained (is o) go stop = go o
chained no_operator go stop = stop

unfoldable pub chain : Letters → ℕ → Reader → List ℕ → ℕ → Tree → ℕ → Reading Parsed
chain α l next s zero t at = refused syntax at
chain α l next s (suc f) t at =
    chained (infix_of l (token_at α s at).token)
    (λ o. then (next (token_at α s at).to) λ r. chain α l next s f (binary o t r.tree) r.to)
    (read (parsed t at))

-- n levels of infix operators over operands
unfoldable pub levels : Letters → Reader → List ℕ → ℕ → Reader
levels α inner s zero at = inner at
levels α inner s (suc l) at =
    then (levels α inner s l at) λ r. chain α l (levels α inner s l) s (suc (length s)) r.tree r.to

-- THE EXPRESSION at a place, with d parentheses that may still be opened
unfoldable pub expression : Letters → ℕ → List ℕ → ℕ → Reading Parsed
expression α zero s at = levels α (operand α (λ p q. refused over_limit p) s (suc (length s))) s 6 at
expression α (suc d) s at = levels α (operand α (λ p q. expression α d s q) s (suc (length s))) s 6 at

abbrev pub whole_expression : Letters → List ℕ → ℕ → Reading Parsed
whole_expression α s at = expression α open_parentheses s at
