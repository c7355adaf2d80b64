-- A deck whose names have no lower-case letter is sound, and finds its members, by 01's letters as by C-15's.
-- Assumes nothing.
use Prim.Native.Nat.{ℕ, suc, ◌+◌}
use mathlib.Core.Bool.{Bool, true, false, not, ◌&&◌}
use mathlib.Core.List.{List, [], ◌∷◌}
use mathlib.Core.Path.{◌≡◌, refl, sym, ap, ◌∙◌}
use lib.ListN.{get_or}
use Rattle.definition.specs.Bytes.{capitals, mixed, is_small, is_alphameric, folded}
use Rattle.definition.specs.Lists.{past}
use Rattle.definition.specs.Deck.{Line, lines, line_place, has_libraries, count, is_member_name, are_named, is_repeated, are_distinct, Sought, bare, in_library, is_padded, is_called, find, is_sound}
use Rattle.definition.specs.Cards.{joined, joined_size}
use Rattle.definition.proofs.Keeping.{and_left, and_right}
use Rattle.definition.proofs.Folded.{folded_capitals}
use Rattle.definition.proofs.Joined.{contents_from, contents_joined}
use Rattle.promises.specs.LowerCase.{has_none, are_bare}
use Rattle.promises.proofs.Bare.{not_true, letter_same, alphameric_same, capital_same}

-- ---- a name
module _ (b : ℕ) (n : List ℕ) (h : has_none (b ∷ n) ≡ true) where
  first_not : is_small mixed b ≡ false
  first_not = not_true (is_small mixed b) (and_left (not (is_small mixed b)) (has_none n) h)

  others_not : has_none n ≡ true
  others_not = and_right (not (is_small mixed b)) (has_none n) h

unfolded : (n : List ℕ) → has_none n ≡ true → folded mixed n ≡ n
unfolding folded
unfolded [] h = refl
unfolded (b ∷ n) h = rw (capital_same b (first_not b n h)) (ap (λ (t : List ℕ). b ∷ t) (unfolded n (others_not b n h)))

folded_same : (n : List ℕ) → has_none n ≡ true → folded capitals n ≡ folded mixed n
folded_same n h = folded_capitals n ∙ sym (unfolded n h)

past_same : (n : List ℕ) → has_none n ≡ true → past (is_alphameric capitals) n ≡ past (is_alphameric mixed) n
past_same [] h = refl
past_same (b ∷ n) h = rw (alphameric_same b (first_not b n h), past_same n (others_not b n h))

first_small : (n : List ℕ) → has_none n ≡ true → is_small mixed (get_or n 0 0) ≡ false
unfolding is_small
first_small [] h = refl
first_small (b ∷ n) h = first_not b n h

name_same : (n : List ℕ) → has_none n ≡ true → is_member_name capitals n ≡ is_member_name mixed n
unfolding is_member_name
name_same n h = rw (letter_same (get_or n 0 0) (first_small n h), past_same n h)

-- ---- a line, and the lines behind it
record Parts (l : Line) (ls : List Line) : Type 0 where
  library : has_none l.library ≡ true
  name : has_none l.name ≡ true
  others : are_bare ls ≡ true

parts : (l : Line) (ls : List Line) → are_bare (l ∷ ls) ≡ true → Parts l ls
unfolding are_bare
parts l ls h =
    let a : Bool = has_none l.library in
    let b : Bool = has_none l.name in
    let k : (a && b) ≡ true = and_left (a && b) (are_bare ls) h in
    record { library = and_left a b k; name = and_right a b k; others = and_right (a && b) (are_bare ls) h }

named_same : (t : Bool) (ls : List Line) → are_bare ls ≡ true → are_named capitals t ls ≡ are_named mixed t ls
unfolding are_named
named_same t [] h = refl
named_same t (l ∷ ls) h =
    let k : Parts l ls = parts l ls h in
    rw (name_same l.library k.library, name_same l.name k.name, named_same t ls k.others)

repeated_same : (l : Line) → has_none l.library ≡ true → has_none l.name ≡ true → (ms : List Line) → are_bare ms ≡ true → is_repeated capitals l ms ≡ is_repeated mixed l ms
unfolding is_repeated
repeated_same l i j [] h = refl
repeated_same l i j (m ∷ ms) h =
    let k : Parts m ms = parts m ms h in
    rw (folded_same l.library i, folded_same l.name j, folded_same m.library k.library, folded_same m.name k.name, repeated_same l i j ms k.others)

distinct_same : (ls : List Line) → are_bare ls ≡ true → are_distinct capitals ls ≡ are_distinct mixed ls
unfolding are_distinct
distinct_same [] h = refl
distinct_same (l ∷ ls) h =
    let k : Parts l ls = parts l ls h in
    rw (repeated_same l k.library k.name ls k.others, distinct_same ls k.others)

pub sound_same : (d : List ℕ) → are_bare (lines d) ≡ true → is_sound capitals d ≡ is_sound mixed d
unfolding is_sound
sound_same d h = rw (named_same (has_libraries d) (lines d) h, distinct_same (lines d) h)

-- ---- how a member is found
called_same : (x : Sought) (l : Line) → has_none l.library ≡ true → has_none l.name ≡ true → is_called capitals x l ≡ is_called mixed x l
unfolding is_called is_padded
called_same (bare w) l i j = rw (folded_same l.name j)
called_same (in_library k w) l i j = rw (folded_same l.library i, folded_same l.name j)

pub find_same : (x : Sought) (k : ℕ) (ls : List Line) → are_bare ls ≡ true → find capitals x k ls ≡ find mixed x k ls
unfolding find
find_same x k [] h = refl
find_same x k (l ∷ ls) h =
    let p : Parts l ls = parts l ls h in
    rw (called_same x l p.library p.name, find_same x (suc k) ls p.others)

-- ---- the joined deck has the names of the deck as given
contents_bare : (at : ℕ) (ls : List Line) → are_bare (contents_from at ls) ≡ are_bare ls
unfolding are_bare
contents_bare at [] = refl
contents_bare at (l ∷ ls) = rw (contents_bare (at + joined_size l) ls)

pub joined_bare : (d : List ℕ) → is_sound mixed d ≡ true → are_bare (lines d) ≡ true → are_bare (lines (joined d)) ≡ true
joined_bare d s h = rw (contents_joined d s) (contents_bare (line_place d (count d)) (lines d) ∙ h)
