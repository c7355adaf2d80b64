-- Where tokens lie: not before the place that they are looked for at, and those with bytes within the source.
-- Assumes nothing.
use Prim.Native.Nat.{ℕ, zero, suc, ◌≤◌, ◌<◌}
use Prim.Native.String.{String}
use native.Mathlib.Omega.{arith}
use mathlib.Core.Bool.{Bool, true, false, false≢true}
use mathlib.Core.List.{List}
use mathlib.Core.Path.{◌≡◌, refl}
use lib.Dec.{leb}
use lib.ListN.{length, get_or-eq_default}
use borrow.Author.Tests.{leb-true, leb-false, le-leb}
use Rattle.definition.specs.Bytes.{mixed, is_blank}
use Rattle.definition.specs.Tokens.{Token, word, integer, string, bits, sign, nothing, wrong, Lexeme, lexeme, is_sign, up_to, spaces, is_space, is_comment, lexeme_at, token_at}
use Rattle.definition.specs.Reading.{begins}
use Rattle.definition.proofs.Ends.{Real, Lies, token_at_lies}

spaces_end : (f : ℕ) (s : List ℕ) (e : ℕ) → length s ≤ e → spaces f s e ≡ up_to e
unfolding spaces is_space is_blank is_comment
spaces_end zero s e h = refl
spaces_end (suc f) s e h = rw (get_or-eq_default s 0 h)

token_end : (s : List ℕ) (e : ℕ) → length s ≤ e → token_at mixed s e ≡ lexeme nothing e e
unfolding token_at lexeme_at
token_end s e h = rw (spaces_end (length s) s e h, le-leb (length s) e h)

pub record On (s : List ℕ) (e : ℕ) (t : Lexeme) : Type 0 where
  pub low : e ≤ t.from
  pub order : t.from ≤ t.to
  pub some : Real t.token → (t.from < t.to) × (t.to ≤ length s)

pub token_on : (s : List ℕ) (e : ℕ) → On s e (token_at mixed s e)
token_on s e = go' (leb (length s) e) refl
  where
    go' : (b : Bool) → leb (length s) e ≡ b → On s e (token_at mixed s e)
    go' true z = rw (token_end s e (leb-true (length s) e z)) (record { low = omega arith; order = omega arith; some = λ x. absurd x })
    go' false z = let t : Lies s e (token_at mixed s e) = token_at_lies s e (omega (arith, leb-false (length s) e z)) in record { low = t.low; order = t.order; some = λ x. (t.some x, t.high) }

pub begins_real : (t : Token) → begins t ≡ true → Real t
begins_real (word w) e = tt
begins_real (integer w) e = absurd (false≢true e)
begins_real (string w) e = absurd (false≢true e)
begins_real (bits w) e = absurd (false≢true e)
begins_real (sign w) e = tt
begins_real nothing e = absurd (false≢true e)
begins_real wrong e = absurd (false≢true e)

pub sign_real : (x : String) (t : Token) → is_sign x t ≡ true → Real t
sign_real x (word w) e = tt
sign_real x (integer w) e = tt
sign_real x (string w) e = tt
sign_real x (bits w) e = tt
sign_real x (sign w) e = tt
sign_real x nothing e = absurd (false≢true e)
sign_real x wrong e = absurd (false≢true e)
