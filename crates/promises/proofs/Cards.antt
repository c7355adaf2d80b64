-- Card images: what holds of the joined deck, and of an expansion told by the places of the deck as given.
-- Assumes nothing.
use Prim.Native.Nat.{ℕ, ◌*◌, ◌/◌, ◌<◌}
use native.Mathlib.Omega.{arith}
use mathlib.Core.Bool.{true}
use mathlib.Core.List.{List}
use mathlib.Core.Path.{◌≡◌, refl, sym, ap, ◌∙◌}
use lib.ListN.{length}
use borrow.Author.Tests.{eq-eqb, ne_eqb}
use Rattle.definition.specs.Bytes.{mixed}
use Rattle.definition.specs.Deck.{count, line_at, lines, none, is_sound}
use Rattle.definition.specs.Cards.{uneven, joined, column, given}
use Rattle.definition.specs.Run.{body_of}
use Rattle.definition.specs.Expansion.{size_in}
use Rattle.definition.proofs.Parts.{length_part}
use Rattle.definition.proofs.Joined.{sound_joined, joined_shorter, count_joined, library_joined, name_joined, size_joined, length_body, byte_joined, whole_records}
use Rattle.definition.proofs.Layouts.{main_layout}
use Rattle.definition.proofs.Fits.{fitting}
use Rattle.promises.proofs.Rejoined.{back_given, whole_joined}
use Rattle.promises.specs.Cards.{Joins, Places, KeepsLayout, AllInRooms}

-- THE JOINED DECK
pub joins : (d : List ℕ) → is_sound mixed d ≡ true → Joins d
joins d s = record {
  sound = sound_joined d s;
  shorter = joined_shorter d s;
  counts = count_joined d s;
  libraries = library_joined d s;
  names = name_joined d s;
  lengths = length_body d s;
  bytes = λ m p h i. byte_joined d s m h p i;
}

pub keeps_layout : (d : List ℕ) → KeepsLayout d
keeps_layout d y t l s w v x e f = main_layout y d t l s e f

pub in_rooms : (d : List ℕ) → AllInRooms d
in_rooms d y roomy t l s = record { text = (fitting y roomy d t l s).text; list = (fitting y roomy d t l s).list }

-- PLACES
module _ (d : List ℕ) (sound : is_sound mixed d ≡ true) (even : uneven 0 (lines d) ≡ none) where
  inside_is : (size p : ℕ) → p < size → given size p ≡ column p
  unfolding given
  inside_is size p h = rw (ne_eqb p size λ e. absurd (omega arith))

  last_is : (size : ℕ) → given size size ≡ 80 * (size / 71)
  unfolding given
  last_is size = rw (eq-eqb size size refl)

  sized : (m : ℕ) → m < count d → length (body_of (joined d) m) ≡ size_in (joined d) m
  sized m h = length_body d sound m h ∙ sym (size_joined d sound m h)

  body_length : (m : ℕ) → length (body_of d m) ≡ (line_at d m).size
  unfolding body_of
  body_length m = length_part (line_at d m).size (line_at d m).offset d

  pub places : Places d
  places = record {
    inside = λ m p h i. inside_is (size_in (joined d) m) p (omega (arith, sized m h));
    last = λ m h. ap (given (size_in (joined d) m)) (sized m h) ∙ last_is (size_in (joined d) m) ∙ omega (arith, size_joined d sound m h, whole_records d sound even m h, body_length m);
    back = λ m p h. back_given (size_in (joined d) m) p (whole_joined d sound m (omega (arith, count_joined d sound)));
  }
