-- The texts of a member lie within its body: no stretch that reading gives ends past the source.
-- Assumes nothing.
use Prim.Native.Nat.{ℕ, zero, suc, ◌≤◌}
use native.Mathlib.Omega.{arith}
use mathlib.Core.List.{List}
use mathlib.Core.Path.{refl}
use Prim.Native.Char.{code}
use lib.Dec.{leb, eqb}
use lib.ListN.{length, get_or}
use borrow.Author.Tests.{leb-false}
use Rattle.definition.specs.Bytes.{mixed}
use Rattle.definition.specs.Tokens as Tokens
use Rattle.definition.specs.Tokens.{Piece, name, plain, unclosed, piece_at, TextEnd, text_end}
use Rattle.definition.specs.Program.{Stretch, Source}
use Rattle.definition.specs.World.{row_of}
use Rattle.definition.specs.Reading.{read_member}
use Rattle.definition.proofs.Choices.{when_has}
use Rattle.definition.proofs.AlikeMembers.{EndsAlike, at_percent, at_end_lem, at_open, SameMember, row_fine, member_alike}

-- ---- the texts of a member: the one that it begins with, those behind its sentences, and those that its groups begin with
pub data TextOf (x : Source) : Stretch → Type 0 where
  first : TextOf x x.lead
  behind : (n : ℕ) → TextOf x (row_of x.rows n).text
  leading : (n : ℕ) → TextOf x (row_of x.rows n).lead

-- what a member's texts have, each of them has
pub text_has : {Q : Stretch → Type 0} {none : Q (record { from = 0; to = 0 })} {x y : Source} {t : Stretch} → SameMember Q none x y → TextOf y t → Q t
text_has h first = h.lead
text_has {Q} {none} {y = y} h (behind n) = (row_fine Q none y.rows h.rows n).1
text_has {Q} {none} {y = y} h (leading n) = (row_fine Q none y.rows h.rows n).0

module _ (s : List ℕ) where
  abbrev Anywhere : ℕ → Type 0
  Anywhere p = Unit {0}

  abbrev Within : Stretch → Type 0
  Within x = x.to ≤ length s

  abbrev Ends : ℕ → TextEnd → Type 0
  Ends e x = EndsAlike Anywhere Within s e x x

  text_on_lem : (e : ℕ) (x : Piece) (p q : ℕ) (f : ℕ → TextEnd) → p ≤ length s → ((q : ℕ) → Ends e (f q)) → Ends e (Tokens.text_on x p q f)
  text_on_lem e (name w) p q f h k = k q
  text_on_lem e plain p q f h k = k q
  text_on_lem e unclosed p q f h k = at_open h

  text_ends : (e f p : ℕ) → Ends e (text_end mixed f s p)
  unfolding text_end
  text_ends e zero p = at_end_lem (omega arith)
  text_ends e (suc f) p =
      when_has (Ends e) (leb (length s) p) _ _ (λ _. at_end_lem (omega arith)) λ z.
      let h : p ≤ length s = omega (arith, leb-false (length s) p z) in
      when_has (Ends e) (eqb (get_or s p 0) (code "%")) _ _ (λ _. at_percent tt h) λ _. text_on_lem e (piece_at mixed s p).piece p (piece_at mixed s p).to (text_end mixed f s) h (text_ends e f)

  none_within : 0 ≤ length s
  none_within = omega arith

  pub text_inside : {t : Stretch} → TextOf (read_member mixed s) t → t.to ≤ length s
  text_inside h = text_has (member_alike mixed mixed s Anywhere (λ e _. (refl, tt)) Within none_within (λ e _. text_ends e (suc (length s)) e) tt) h
