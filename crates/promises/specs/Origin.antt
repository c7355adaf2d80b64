-- Demand 3, first part: "A finished expansion comes with its origin list. Every byte of the text belongs to exactly one
-- line of the list, in order: an inserted blank, a stretch copied from a named place, or the outcome of one
-- replacement. A copied stretch equals its source." 01: "Kind 2: copied stretch, at least one byte, as long as can be."
use Rattle.std.specs.Prelude.{ℕ, ◌+◌, ◌≤◌, List, [], ◌∷◌, reverse, ◌≡◌, length, take, drop}
use Rattle.definition.specs.Lists.{part}
use Rattle.definition.specs.Events.{Line}
use Rattle.definition.specs.Run.{body_of}
use Rattle.definition.specs.Expansion.{Expansion}

-- what a line of the list says of its bytes, in the deck d: a blank is one byte 32; a stretch has a byte or more, and
-- they are those of the member's body from the offset on, none past its end
pub record Origin (d : List ℕ) (l : Line) (bytes : List ℕ) : Type 0 where
  pub sized : length bytes ≡ l.size
  pub kinds : (1 ≤ l.kind) × (l.kind ≤ 3)
  pub blank : l.kind ≡ 1 → bytes ≡ 32 ∷ []
  pub stretch : l.kind ≡ 2
      → (1 ≤ l.size) × (l.offset + l.size ≤ length (body_of d l.member))
      × (bytes ≡ part l.size l.offset (body_of d l.member))

-- the lines, oldest first, cut the text: the first line has the first bytes, as many as its size, the next has the next
abbrev pub Cuts : List ℕ → List Line → List ℕ → Type 0
Cuts d [] t = t ≡ []
Cuts d (l ∷ ls) t = Origin d l (take l.size t) × Cuts d ls (drop l.size t)

-- a stretch that begins where the line before it, a stretch of the same member, ends
pub record GoesOn (a b : Line) : Type 0 where
  pub first : a.kind ≡ 2
  pub second : b.kind ≡ 2
  pub member : a.member ≡ b.member
  pub place : a.offset + a.size ≡ b.offset

-- "as long as can be": no stretch goes on with the one before it
abbrev pub Longest : List Line → Type 0
Longest [] = Unit {0}
Longest (a ∷ []) = Unit {0}
Longest (a ∷ b ∷ ls) = (GoesOn a b → ⊥) × Longest (b ∷ ls)

-- THE PARTITION. An expansion has its lines newest first
pub record Partition (d : List ℕ) (x : Expansion) : Type 0 where
  pub cut : Cuts d (reverse x.lines) x.text
  pub longest : Longest (reverse x.lines)
