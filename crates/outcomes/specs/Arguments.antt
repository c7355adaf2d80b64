-- ARGUMENT LISTS: where an argument ends, and how many there are.
use Rattle.outcomes.specs.Types.{Listing}
use Rattle.std.specs.Prelude.{ℕ, suc, ◌+◌, ◌<◌, ◌≤◌, ◌≡◌, List, [], ◌∷◌, ◌++◌, length, drop, Some, None}
use Rattle.definition.specs.Limits.{text_bytes}
use Rattle.definition.specs.Lists.{leading}
use Rattle.definition.specs.Bytes.{mixed, is_blank}
use Rattle.definition.specs.Scan as D
use Rattle.definition.specs.Scan.{Argument, list_up_to, no_list, cut_on, list_at}
use Rattle.outcomes.specs.declared.Ending.{Ending}
use Rattle.outcomes.specs.declared.Ending.TheVariants as E
use Rattle.outcomes.specs.Texts.{stretch_of, Within}

-- the arguments from a place on, with turns enough
unfoldable pub cut_from : List ℕ → ℕ → D.Arguments
cut_from t from = cut_on mixed (suc (length t)) t 0 from [] from

abbrev pub argument : ℕ → ℕ → Argument
argument from to = record { from = from; to = to }

-- an argument before others
abbrev pub before : List Argument → D.Arguments → D.Arguments
before xs (list_up_to ys q) = list_up_to (xs ++ ys) q
before xs no_list = no_list

-- what follows where an argument ends
abbrev pub after_end : List ℕ → ℕ → Ending → D.Arguments
after_end t from (E.Comma p) = before (argument from p ∷ []) (cut_from t (p + 1))
after_end t from (E.Close p) = list_up_to (argument from p ∷ []) (p + 1)
after_end t from E.Open = no_list

abbrev pub EndWithin : List ℕ → ℕ → Ending → Type 0
EndWithin t from (E.Comma p) = (from ≤ p) × (p < length t)
EndWithin t from (E.Close p) = (from ≤ p) × (p < length t)
EndWithin t from E.Open = Unit {0}

pub record EndIs (t : List ℕ) (from : ℕ) (r : Ending) : Type 0 where
  pub is : length t ≤ text_bytes → cut_from t from ≡ after_end t from r
  pub within : length t ≤ text_bytes → EndWithin t from r

abbrev pub end_place : Ending → ℕ → ℕ
end_place (E.Comma q) p = q
end_place (E.Close q) p = q
end_place E.Open p = p

-- how many there are, where the first begins, and the place past the list
abbrev pub listing_for : ℕ → D.Arguments → Listing
listing_for first (list_up_to xs q) = Some ((length xs), first, q)
listing_for first no_list = None

pub record ListingIs (t : List ℕ) (first : ℕ) (a : D.Arguments) (r : Listing) : Type 0 where
  pub is : length t ≤ text_bytes → r ≡ listing_for first a

unfoldable pub past_blanks : List ℕ → ℕ → ℕ
past_blanks t p = p + length (leading is_blank (drop p t))

-- the list behind p of the stretch of t
pub record ListIn (t : List ℕ) (from to p : ℕ) (r : Listing) : Type 0 where
  pub is : Within t from to → r ≡ listing_for (past_blanks (stretch_of t from to) p + 1) (list_at mixed (stretch_of t from to) p)

-- the first of the arguments xs is the one from p to r, and the others follow behind a comma
abbrev pub Ends : List ℕ → ℕ → ℕ → List Argument → ℕ → Type 0
Ends t p r [] q = ⊥
Ends t p r (x ∷ []) q = (x ≡ argument p r) × (p ≤ r) × (r < length t)
Ends t p r (x ∷ y ∷ ys) q = (x ≡ argument p r) × (p ≤ r) × (r < length t) × (cut_from t (r + 1) ≡ list_up_to (y ∷ ys) q)

-- the argument that begins at p ends at r, where the list is whole
pub record EndIn (t : List ℕ) (from to p r : ℕ) : Type 0 where
  pub is : Within t from to → (xs : List Argument) (q : ℕ) → cut_from (stretch_of t from to) p ≡ list_up_to xs q
      → Ends (stretch_of t from to) p r xs q
