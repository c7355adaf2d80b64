-- What the answers about tokens stand for in the definition.
use Rattle.std.specs.Prelude.{Option, Some, None, Result, Ok, Err, ℕ, ◌+◌, ◌-◌, ◌<◌, Bool, true, false, cond, ◌&&◌, ◌||◌, List, [], ◌≡◌, eqb, length, get_or, drop}
use Prim.Native.Char.{code}
use Rattle.definition.specs.Lists.{part, all, same}
use Rattle.definition.specs.Room.{over}
use Rattle.definition.specs.Bytes.{mixed, is_alphameric, folded}
use Rattle.definition.specs.Tokens as T
use Rattle.tokens.specs.declared.Kind.{Kind}
use Rattle.tokens.specs.declared.Kind.TheVariants.{Word, Integer, String, Bits, Sign, Nothing, Wrong}
use Rattle.tokens.specs.declared.Lexeme.{Lexeme}
use Rattle.tokens.specs.declared.PieceKind.{PieceKind}
use Rattle.tokens.specs.declared.PieceKind as K
use Rattle.tokens.specs.declared.Piece.{Piece}
use Rattle.tokens.specs.declared.Ending.{Ending}
use Rattle.tokens.specs.declared.Ending as E

-- the place past what closes a comment or a string, if anything does
abbrev pub closed_for : T.Closed → Option ℕ
closed_for (T.closed_at q) = Some q
closed_for T.never_closed = None

-- where spaces end, or else where the comment in them that stays open begins
abbrev pub gap_for : T.Spaces → Result ℕ ℕ
gap_for (T.up_to p) = Ok p
gap_for (T.open_comment p) = Err p

-- the place past a constant, and whether its bytes are all 0 or 1
abbrev pub constant_for : T.Quoted → Option (ℕ × Bool)
constant_for (T.quoted bs q) = Some (q, all T.is_bit bs)
constant_for T.unquoted = None

-- how many bytes stand for one byte of a constant: a doubled quote for one, and the quote that ends it for none
unfoldable pub byte_width : List ℕ → ℕ → ℕ
byte_width s i = cond (eqb (get_or s i 0) (code "'")) (cond (eqb (get_or s (i + 1) 0) (code "'")) 2 0) 1

-- how many bytes the sign at a place has
unfoldable pub sign_size : List ℕ → ℕ → ℕ
sign_size s p = cond (T.is_pair (part 2 p s)) 2 1

unfoldable pub is_solid : ℕ → Bool
is_solid b = is_alphameric mixed b || eqb b (code "'")

abbrev pub kind_of : T.Token → Kind
kind_of (T.word x) = Word
kind_of (T.integer x) = Integer
kind_of (T.string x) = String
kind_of (T.bits x) = Bits
kind_of (T.sign x) = Sign
kind_of T.nothing = Nothing
kind_of T.wrong = Wrong

abbrev pub lex_of : Kind → ℕ → ℕ → Lexeme
lex_of k from to = record { kind = k; from = from; to = to }

-- a lexeme has the kind of the definition's token, and its places
abbrev pub lexeme_for : T.Lexeme → Lexeme
lexeme_for x = lex_of (kind_of x.token) x.from x.to

-- the lexeme of the first token after the place e
pub record Lexed (s : List ℕ) (e : ℕ) (r : Lexeme) : Type 0 where
  pub kind : r.kind ≡ kind_of (T.token_at mixed s e).token
  pub from : r.from ≡ (T.token_at mixed s e).from
  pub to : r.to ≡ (T.token_at mixed s e).to

-- ---- what a lexeme says of the bytes
-- the bytes of a lexeme
unfoldable pub written : List ℕ → Lexeme → List ℕ
written s l = part (l.to - l.from) l.from s

-- and of a word, as it is compared
abbrev pub spelling : List ℕ → Lexeme → List ℕ
spelling s l = folded mixed (written s l)

abbrev pub is_word_kind : Kind → Bool
is_word_kind Word = true
is_word_kind Integer = false
is_word_kind String = false
is_word_kind Bits = false
is_word_kind Sign = false
is_word_kind Nothing = false
is_word_kind Wrong = false

abbrev pub is_sign_kind : Kind → Bool
is_sign_kind Word = false
is_sign_kind Integer = false
is_sign_kind String = false
is_sign_kind Bits = false
is_sign_kind Sign = true
is_sign_kind Nothing = false
is_sign_kind Wrong = false

-- whether it is a token at all
abbrev pub is_token : Kind → Bool
is_token Word = true
is_token Integer = true
is_token String = true
is_token Bits = true
is_token Sign = true
is_token Nothing = false
is_token Wrong = false

unfoldable pub is_word_in : List ℕ → Lexeme → List ℕ → Bool
is_word_in s l w = is_word_kind l.kind && same (spelling s l) w

unfoldable pub is_sign_in : List ℕ → Lexeme → List ℕ → Bool
is_sign_in s l w = is_sign_kind l.kind && same (written s l) w

-- the bytes of a constant; none where it stays open
abbrev pub content_of : T.Quoted → List ℕ
content_of (T.quoted bs q) = bs
content_of T.unquoted = []

-- the bytes of the constant whose first quote stands at p
unfoldable pub content : List ℕ → ℕ → List ℕ
content s p = content_of (T.quoted_at (drop (p + 1) s) [] (p + 1))

-- the content stands in the room from a place on, and r says how many bytes it has
pub record Unquoted (s : List ℕ) (p : ℕ) (room : List ℕ) (at : ℕ) (room' : List ℕ) (r : ℕ) : Type 0 where
  pub is : room' ≡ over room at (content s p)
  pub size : r ≡ length (content s p)

-- the token of a kind with its bytes and a content
abbrev pub token_for : Kind → List ℕ → List ℕ → T.Token
token_for Word w bs = T.word (folded mixed w)
token_for Integer w bs = T.integer w
token_for String w bs = T.string bs
token_for Bits w bs = T.bits bs
token_for Sign w bs = T.sign w
token_for Nothing w bs = T.nothing
token_for Wrong w bs = T.wrong

-- ---- the tokens of a text
abbrev pub piece_kind : T.Piece → PieceKind
piece_kind (T.name w) = K.TheVariants.Name
piece_kind T.plain = K.TheVariants.Plain
piece_kind T.unclosed = K.TheVariants.Unclosed

abbrev pub cut_of : PieceKind → ℕ → Piece
cut_of k to = record { kind = k; to = to }

abbrev pub piece_for : T.Cut → Piece
piece_for x = cut_of (piece_kind x.piece) x.to

abbrev pub closed_piece : ℕ → Option ℕ → Piece
closed_piece n (Some q) = cut_of K.TheVariants.Plain q
closed_piece n None = cut_of K.TheVariants.Unclosed n

-- the piece of a kind with its bytes
abbrev pub piece_of : PieceKind → List ℕ → T.Piece
piece_of K.TheVariants.Name w = T.name (folded mixed w)
piece_of K.TheVariants.Plain w = T.plain
piece_of K.TheVariants.Unclosed w = T.unclosed

-- the piece at a place inside the text
pub record Cuts (s : List ℕ) (p : ℕ) (r : Piece) : Type 0 where
  pub is : p < length s → r ≡ piece_for (T.piece_at mixed s p)

abbrev pub is_unclosed : PieceKind → Bool
is_unclosed K.TheVariants.Name = false
is_unclosed K.TheVariants.Plain = false
is_unclosed K.TheVariants.Unclosed = true

abbrev pub ending_for : T.TextEnd → Ending
ending_for (T.percent_at p) = E.TheVariants.Percent p
ending_for T.at_end = E.TheVariants.AtEnd
ending_for (T.open_at p) = E.TheVariants.OpenAt p
