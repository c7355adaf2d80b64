-- 01, "Reading": "Spaces are as in 000, 3.1.1, with `%` a delimiter. A blank is byte 32; between the tokens of a
-- statement and before `%ELSE` a line feed (10) serves as one too." 01, "Scanning": the tokens of a text. The tokens of
-- a statement are the ct-words of 000, 3.2.3, by the longest match; what one is stands here alone.
use Rattle.std.specs.Prelude.{ℕ, zero, suc, ◌+◌, ◌-◌, Bool, false, cond, ◌&&◌, ◌||◌, List, [], ◌∷◌, ◌++◌, leb, eqb, length, get_or, drop}
use Prim.Native.Char.{code}
use Prim.Native.String.{String}
use Rattle.definition.specs.Choice.{when}
use Rattle.definition.specs.Text.{bytes_of}
use Rattle.definition.specs.Lists.{part, all, leading, same, is_one_of}
use Rattle.definition.specs.Bytes.{Letters, capital, folded, class_of, is_digit, is_alphameric, is_blank}
use Rattle.definition.specs.declared.Class.{Class}
use Rattle.definition.specs.declared.Class.TheVariants.{Letter, Digit, Break, Blank, LineFeed, Percent, Quote, Mark, Other}

-- ---- strings and comments, which statements and texts share

-- where something that was opened is closed, or that it stays open
pub data Closed : Type 0 where
  closed_at : ℕ → Closed
  never_closed : Closed

-- the place past the `*/` that closes a comment; l is what stands at the place p, and `star` says whether a `*` stands
-- before it
unfoldable pub comment_end : Bool → List ℕ → ℕ → Closed
comment_end star [] p = never_closed
comment_end star (b ∷ l) p =
    when (star && eqb b (code "/")) (λ _. closed_at (p + 1))
    (λ _. comment_end (eqb b (code "*")) l (p + 1))

-- the place past the next quote
unfoldable pub quote_end : List ℕ → ℕ → Closed
quote_end [] p = never_closed
quote_end (b ∷ l) p = when (eqb b (code "'")) (λ _. closed_at (p + 1)) (λ _. quote_end l (p + 1))

-- whether a comment begins at a place
unfoldable pub is_comment : List ℕ → ℕ → Bool
is_comment s p = eqb (get_or s p 0) (code "/") && eqb (get_or s (p + 1) 0) (code "*")

abbrev pub past_comment : List ℕ → ℕ → Closed
past_comment s p = comment_end false (drop (p + 2) s) (p + 2)

-- ---- the tokens of a statement

pub data Token : Type 0 where
  word : List ℕ → Token
  integer : List ℕ → Token
  string : List ℕ → Token
  bits : List ℕ → Token
  sign : List ℕ → Token
  nothing : Token
  wrong : Token

-- a token, where it begins, and the place past it. The body's end is `nothing`; `wrong` can never follow
pub record Lexeme : Type 0 where
  pub token : Token
  pub from : ℕ
  pub to : ℕ

abbrev pub lexeme : Token → ℕ → ℕ → Lexeme
lexeme t from to = record { token = t; from = from; to = to }

-- "No word is reserved": a word is a keyword only where it is looked for
abbrev pub is_word : String → Token → Bool
is_word w (word x) = same x (bytes_of w)
is_word w (integer x) = false
is_word w (string x) = false
is_word w (bits x) = false
is_word w (sign x) = false
is_word w nothing = false
is_word w wrong = false

abbrev pub is_sign : String → Token → Bool
is_sign w (word x) = false
is_sign w (integer x) = false
is_sign w (string x) = false
is_sign w (bits x) = false
is_sign w (sign x) = same x (bytes_of w)
is_sign w nothing = false
is_sign w wrong = false

-- spaces: where they end, or where a comment in them stays open
pub data Spaces : Type 0 where
  up_to : ℕ → Spaces
  open_comment : ℕ → Spaces

abbrev pub after_comment : Closed → ℕ → (ℕ → Spaces) → Spaces
after_comment (closed_at q) p f = f q
after_comment never_closed p f = open_comment p

unfoldable pub is_space : ℕ → Bool
is_space b = is_blank b || eqb b 10

-- 000, 3.1.1: space ::= { blank | comment }...; f is more than the turns
unfoldable pub spaces : ℕ → List ℕ → ℕ → Spaces
spaces zero s p = up_to p
spaces (suc f) s p =
    when (is_space (get_or s p 0)) (λ _. spaces f s (p + 1))
    (λ _. when (is_comment s p) (λ _. after_comment (past_comment s p) p (spaces f s))
    (λ _. up_to p))

-- a constant in quotes, from behind its first quote: its bytes, with a doubled quote as one, and the place past it
pub data Quoted : Type 0 where
  quoted : List ℕ → ℕ → Quoted
  unquoted : Quoted

unfoldable pub quoted_at : List ℕ → List ℕ → ℕ → Quoted
quoted_at [] bs p = unquoted
quoted_at (b ∷ []) bs p = cond (eqb b (code "'")) (quoted bs (p + 1)) unquoted
quoted_at (b ∷ c ∷ l) bs p =
    when (eqb b (code "'"))
    (λ _. when (eqb c (code "'")) (λ _. quoted_at l (bs ++ b ∷ []) (p + 2)) (λ _. quoted bs (p + 1)))
    (λ _. quoted_at (c ∷ l) (bs ++ b ∷ []) (p + 1))

unfoldable pub is_bit : ℕ → Bool
is_bit b = eqb b (code "0") || eqb b (code "1")

-- "a string of 0 and 1 directly followed by B is a bit string"
unfoldable pub constant_at : Letters → List ℕ → ℕ → Quoted → Lexeme
constant_at α s p unquoted = lexeme wrong p p
constant_at α s p (quoted bs q) =
    cond (all is_bit bs && eqb (capital α (get_or s q 0)) (code "B")) (lexeme (bits bs) p (q + 1)) (lexeme (string bs) p q)

-- the delimiters of two bytes
unfoldable pub is_pair : List ℕ → Bool
is_pair w = is_one_of w (bytes_of "||" ∷ bytes_of ">=" ∷ bytes_of "<=" ∷ bytes_of "^>" ∷ bytes_of "^=" ∷ bytes_of "^<" ∷ [])

unfoldable pub sign_at : List ℕ → ℕ → Lexeme
sign_at s p = cond (is_pair (part 2 p s)) (lexeme (sign (part 2 p s)) p (p + 2)) (lexeme (sign (part 1 p s)) p (p + 1))

unfoldable pub run_at : (List ℕ → Token) → (ℕ → Bool) → List ℕ → ℕ → Lexeme
run_at t test s p = lexeme (t (leading test (drop p s))) p (p + length (leading test (drop p s)))

-- the token that begins at a place with a byte of a class
unfoldable pub lexeme_of : Letters → Class → List ℕ → ℕ → Lexeme
lexeme_of α Letter s p = run_at (λ w. word (folded α w)) (is_alphameric α) s p
lexeme_of α Digit s p = run_at integer is_digit s p
lexeme_of α Quote s p = constant_at α s p (quoted_at (drop (p + 1) s) [] (p + 1))
lexeme_of α Mark s p = sign_at s p
lexeme_of α Percent s p = sign_at s p
lexeme_of α Break s p = lexeme wrong p p
lexeme_of α Blank s p = lexeme wrong p p
lexeme_of α LineFeed s p = lexeme wrong p p
lexeme_of α Other s p = lexeme wrong p p

-- 000, 3.1.1: "Between two adjacent non-delimiters the notation variable space must be inserted": two of them touch at
-- p
unfoldable pub is_touching : Letters → List ℕ → ℕ → Bool
is_touching α s p = is_solid (get_or s (p - 1) 0) && is_solid (get_or s p 0)
  where
    is_solid : ℕ → Bool
    is_solid b = is_alphameric α b || eqb b (code "'")

-- the token at p where the one before it ends at e
unfoldable pub lexeme_at : Letters → List ℕ → ℕ → Spaces → Lexeme
lexeme_at α s e (open_comment p) = lexeme wrong p p
lexeme_at α s e (up_to p) =
    when (leb (length s) p) (λ _. lexeme nothing p p)
    (λ _. when (eqb e p && is_touching α s p) (λ _. lexeme wrong p p)
    (λ _. lexeme_of α (class_of α (get_or s p 0)) s p))

-- THE STATEMENT TOKEN: the first after the place e, where the token before it ends
unfoldable pub token_at : Letters → List ℕ → ℕ → Lexeme
token_at α s e = lexeme_at α s e (spaces (length s) s e)

-- ---- the tokens of a text ("Scanning")

-- "Tokens: identifier; a run of letters, digits and `_` that starts with a digit; string; comment; any other single
-- byte. In a scan a doubled quote ends one string and begins another": so a string goes to the next quote
pub data Piece : Type 0 where
  name : List ℕ → Piece
  plain : Piece
  unclosed : Piece

-- a piece of a text and the place past it
pub record Cut : Type 0 where
  pub piece : Piece
  pub to : ℕ

abbrev pub cut : Piece → ℕ → Cut
cut x to = record { piece = x; to = to }

abbrev pub closed_cut : List ℕ → Closed → Cut
closed_cut s (closed_at q) = cut plain q
closed_cut s never_closed = cut unclosed (length s)

unfoldable pub piece_of : Letters → Class → List ℕ → ℕ → Cut
piece_of α Letter s p = cut (name (folded α (leading (is_alphameric α) (drop p s)))) (p + length (leading (is_alphameric α) (drop p s)))
piece_of α Digit s p = cut plain (p + length (leading (is_alphameric α) (drop p s)))
piece_of α Quote s p = closed_cut s (quote_end (drop (p + 1) s) (p + 1))
piece_of α Mark s p = when (is_comment s p) (λ _. closed_cut s (past_comment s p)) (λ _. cut plain (p + 1))
piece_of α Percent s p = cut plain (p + 1)
piece_of α Break s p = cut plain (p + 1)
piece_of α Blank s p = cut plain (p + 1)
piece_of α LineFeed s p = cut plain (p + 1)
piece_of α Other s p = cut plain (p + 1)

-- THE TEXT TOKEN at a place
unfoldable pub piece_at : Letters → List ℕ → ℕ → Cut
piece_at α s p = piece_of α (class_of α (get_or s p 0)) s p

-- "Text ends at a `%` outside strings and comments": where a text that begins at p ends, or the token in it that is
-- open
pub data TextEnd : Type 0 where
  percent_at : ℕ → TextEnd
  at_end : TextEnd
  open_at : ℕ → TextEnd

abbrev pub text_on : Piece → ℕ → ℕ → (ℕ → TextEnd) → TextEnd
text_on (name w) p q f = f q
text_on plain p q f = f q
text_on unclosed p q f = open_at p

unfoldable pub text_end : Letters → ℕ → List ℕ → ℕ → TextEnd
text_end α zero s p = at_end
text_end α (suc f) s p =
    when (leb (length s) p) (λ _. at_end)
    (λ _. when (eqb (get_or s p 0) (code "%")) (λ _. percent_at p)
    (λ _. text_on (piece_at α s p).piece p (piece_at α s p).to (text_end α f s)))
