-- What the answers about a deck stand for in the definition.
use Rattle.deck.specs.declared.Deck.{Deck}
use Rattle.std.specs.Prelude.{ℕ, List, Bool, true, cond, ◌&&◌, length, Option, Some, None}
use Rattle.definition.specs.Bytes.{mixed, folded}
use Rattle.definition.specs.Lists.{part}
use Rattle.definition.specs.Deck as D
use Rattle.member.specs.Body.{body_bytes}
use Rattle.deck.specs.declared.Spelled.{Spelled}
use Rattle.deck.specs.declared.Sought.{Sought}
use Rattle.deck.specs.declared.Sought.TheVariants.{Bare, InLibrary}

-- the answer for the contents of a deck: its lines can be read off the deck, so their number is enough
abbrev pub answer_for : D.Contents → Option Deck
answer_for D.malformed = None
answer_for (D.holds ls) = Some (record { lines = length ls })

abbrev pub found_for : D.Found → Option ℕ
found_for D.none = None
found_for (D.line k) = Some k

-- line k, of those that `areNamed` tests
unfoldable pub is_named : List ℕ → ℕ → Bool
is_named d k = cond (D.has_libraries d) (D.is_member_name mixed (D.line_at d k).library) true && D.is_member_name mixed (D.line_at d k).name

-- the names that are spelled in the deck, as names are compared
abbrev pub spelled : List ℕ → Spelled → List ℕ
spelled d w = folded mixed (part w.len w.from d)

unfoldable pub sought_in : List ℕ → Sought → D.Sought
sought_in d (Bare w) = D.bare (spelled d w)
sought_in d (InLibrary l w) = D.in_library (spelled d l) (spelled d w)

-- the bytes of line k; none where the deck does not have them all
unfoldable pub body_in : List ℕ → ℕ → List ℕ
body_in d k = body_bytes d (D.line_at d k).offset (D.line_at d k).size
