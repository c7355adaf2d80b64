-- One law for each way out of a function on the deck; the loops' invariants are records, and say that what is left decides.
-- Assumes nothing.
use Rattle.std.proofs.Common.{Some, None}
use Rattle.std.specs.Bool.{then_some}
use mathlib.Core.Path.{◌≡◌, refl, sym, ap, ◌∙◌}
use mathlib.Core.Bool.{Bool, true, false, cond, ◌&&◌}
use mathlib.Core.List.{List, [], ◌∷◌, ◌++◌}
use Prim.Native.Nat.{ℕ, zero, suc, ◌+◌, ◌*◌, ◌-◌, ◌<◌, ◌≤◌}
use native.Mathlib.Nat.{add-zero, suc-add, add-suc}
use native.Mathlib.Numerals.{add-one}
use native.Mathlib.Omega.{arith}
use mir.Syntax.{w64}
use mir.Val.{Fits}
use borrow.Author.Tests.{eq-eqb, ne_eqb}
use lib.Dec.{eqb}
use lib.ListN.{length, get_or, replicate}
use Rattle.definition.specs.Lists.{part, number, all, past, same}
use Rattle.definition.specs.Bytes.{mixed, is_letter, is_alphameric, is_blank, folded}
use Rattle.definition.specs.Deck as D
use Rattle.definition.specs.Deck.{Line, first, has_libraries, count, library_length, line_place, line_at, lines_from, lines, is_member_name, are_named, is_repeated, is_one, are_distinct, is_padded, is_called, find, follow, is_sound, contents}
use Rattle.definition.proofs.Folded.{folded_part, blank_folded}
use Rattle.definition.proofs.Joined.{padded_none, length_lines}
use Rattle.definition.proofs.Parts.{part_first, length_part, same_length}
use Rattle.member.specs.Body.{body_bytes}
use Rattle.deck.specs.Answer as A
use Rattle.deck.specs.Word.{Word}
use Rattle.deck.specs.declared.Spelled.{Spelled}
use Rattle.deck.specs.declared.Sought.{Sought}
use Rattle.deck.specs.declared.Sought.TheVariants as S

-- ---- bytes at a place
-- the first of the bytes from j to n past a place, and the others
next : (d : List ℕ) (at n j : ℕ) → j < n → part (n - j) (at + j) d ≡ get_or d (at + j) 0 ∷ part (n - (j + 1)) (at + (j + 1)) d
next d at n j h =
    let e : at + j + 1 ≡ at + (j + 1) = omega arith in
    part_first (n - j) (n - (j + 1)) (at + j) d (omega arith) ∙ rw e

nothing : (d : List ℕ) (at n j : ℕ) → n ≤ j → part (n - j) (at + j) d ≡ []
nothing d at n j h = let e : n - j ≡ 0 = omega arith in rw e

pub record Blanks (d : List ℕ) (at i n j : ℕ) : Type 0 where
  pub is : all is_blank (part (n - j) (at + j) d) ≡ all is_blank (part (n - i) (at + i) d)

pub blanks_start : (d : List ℕ) (at i n : ℕ) → Blanks d at i n i
blanks_start d at i n = record { is = refl }

module _ (d : List ℕ) (at i n j : ℕ) (k : Blanks d at i n j) where
  pub blanks_more : (b : ℕ) → j < n → b ≡ get_or d (at + j) 0 → b ≡ 32 → Blanks d at i n (j + 1)
  unfolding is_blank
  blanks_more b h e f = record { is = rw (next d at n j h, sym e ∙ f) at k.is }

  pub blanks_other : (b : ℕ) → j < n → b ≡ get_or d (at + j) 0 → (b ≡ 32 → ⊥) → false ≡ all is_blank (part (n - i) (at + i) d)
  unfolding is_blank
  blanks_other b h e f =
      let g : eqb (get_or d (at + j) 0) 32 ≡ false = ne_eqb _ _ (λ q. f (e ∙ q)) in
      rw (next d at n j h, g) at k.is

  pub blanks_done : n ≤ j → true ≡ all is_blank (part (n - i) (at + i) d)
  blanks_done h = rw (nothing d at n j h) at k.is

pub record Passing (d : List ℕ) (at n j : ℕ) : Type 0 where
  pub low : j ≤ n
  pub is : past (is_alphameric mixed) (part (n - j) (at + j) d) ≡ past (is_alphameric mixed) (part n at d)

pub passing_start : (d : List ℕ) (at n : ℕ) → Passing d at n 0
passing_start d at n =
    let e : n - 0 ≡ n = omega arith in
    record { low = omega arith; is = rw (e, add-zero) }

module _ (d : List ℕ) (at n j : ℕ) (k : Passing d at n j) where
  pub passing_more : (b : ℕ) (t : Bool) → j < n → b ≡ get_or d (at + j) 0 → t ≡ is_alphameric mixed b → t ≡ true → Passing d at n (j + 1)
  passing_more b t h e f g = record { low = omega arith; is = rw (next d at n j h, ← e, ← f, g) at k.is }

  pub passing_stop : (b : ℕ) (t : Bool) → j < n → b ≡ get_or d (at + j) 0 → t ≡ is_alphameric mixed b → t ≡ false → Word d at n j
  passing_stop b t h e f g =
      let q : past (is_alphameric mixed) (part (n - j) (at + j) d) ≡ part (n - j) (at + j) d = rw (next d at n j h, ← e, ← f, g) in
      record { low = omega arith; is = sym q ∙ k.is }

  pub passing_done : n ≤ j → Word d at n j
  passing_done h = record { low = k.low; is = rw (nothing d at n j h) (rw (nothing d at n j h) at k.is) }

-- ---- a line's names and numbers
module _ (d : List ℕ) (t : Bool) (e : t ≡ has_libraries d) where
  length_some : t ≡ true → 8 ≡ library_length d
  unfolding library_length
  length_some h = rw (← e, h)

  length_none : t ≡ false → 0 ≡ library_length d
  unfolding library_length
  length_none h = rw (← e, h)

pub place_most : (d : List ℕ) (k : ℕ) → line_place d k ≤ 2 + 24 * k
unfolding line_place
place_most d k = by (has_libraries d)
  where
    by : (b : Bool) → cond b (2 + 24 * k) (2 + 16 * k) ≤ 2 + 24 * k
    by true = omega arith
    by false = omega arith

length_most : (d : List ℕ) → library_length d ≤ 8
unfolding library_length
length_most d = by (has_libraries d)
  where
    by : (b : Bool) → cond b 8 0 ≤ 8
    by true = omega arith
    by false = omega arith

-- the places fit into a number
pub place_fits : (d : List ℕ) (k p n : ℕ) → k < 65536 → p ≡ line_place d k → n ≡ library_length d → Fits w64 (p + n)
place_fits d k p n h e f = omega (arith, place_most d k, length_most d)

pub offset_fits : (d : List ℕ) (k p : ℕ) → k < 65536 → p ≡ line_place d k + library_length d → Fits w64 (p + 8)
offset_fits d k p h e = omega (arith, place_most d k, length_most d)

pub size_fits : (d : List ℕ) (k p : ℕ) → k < 65536 → p ≡ line_place d k + library_length d → Fits w64 (p + 12)
size_fits d k p h e = omega (arith, place_most d k, length_most d)

pub names_fit : (d : List ℕ) (n : ℕ) → n ≡ library_length d → Fits w64 (n + 8)
names_fit d n e = omega (arith, length_most d)

module _ (d : List ℕ) (k p r : ℕ) (e : p ≡ line_place d k + library_length d) where
  pub offset_is : r ≡ number (part 4 (p + 8) d) → r ≡ (line_at d k).offset
  unfolding line_at
  offset_is f =
      let g : p + 8 ≡ line_place d k + (library_length d + 8) = omega (arith, e) in
      f ∙ ap (λ (q : ℕ). number (part 4 q d)) g

  pub size_is : r ≡ number (part 4 (p + 12) d) → r ≡ (line_at d k).size
  unfolding line_at
  size_is f =
      let g : p + 12 ≡ line_place d k + (library_length d + 12) = omega (arith, e) in
      f ∙ ap (λ (q : ℕ). number (part 4 q d)) g

name_is : (d : List ℕ) (k p : ℕ) → p ≡ line_place d k + library_length d → part 8 p d ≡ (line_at d k).name
unfolding line_at
name_is d k p e = ap (λ (q : ℕ). part 8 q d) e

library_is : (d : List ℕ) (k p : ℕ) → has_libraries d ≡ true → p ≡ line_place d k → part 8 p d ≡ (line_at d k).library
unfolding line_at
library_is d k p h e = (λ i. part (length_some d true (sym h) refl i) (e i) d)

library_none : (d : List ℕ) (k : ℕ) → has_libraries d ≡ false → (line_at d k).library ≡ []
unfolding line_at
library_none d k h = ap (λ (n : ℕ). part n (line_place d k) d) (sym (length_none d false (sym h) refl))

-- ---- a member's name
module _ (d : List ℕ) (at b : ℕ) (t : Bool) (e : b ≡ get_or d (at + 0) 0) (f : t ≡ is_letter mixed b) where
  begins : t ≡ is_letter mixed (get_or d at 0)
  begins = f ∙ ap (is_letter mixed) (e ∙ rw add-zero)

  pub member_name : (w : ℕ) (r : Bool) → t ≡ true → Word d at 8 w → r ≡ all is_blank (part (8 - w) (at + w) d) → r ≡ is_member_name mixed (part 8 at d)
  unfolding is_member_name
  member_name w r g v h = h ∙ rw (← begins, g, v.is)

  pub no_letter : t ≡ false → false ≡ is_member_name mixed (part 8 at d)
  unfolding is_member_name
  no_letter g = rw (← begins, g)

-- ---- lines
pub lines_next : (d : List ℕ) (n k : ℕ) → k < n → lines_from d k (n - k) ≡ line_at d k ∷ lines_from d (k + 1) (n - (k + 1))
unfolding lines_from
lines_next d n k h =
    let e : n - k ≡ suc (n - (k + 1)) = omega arith in
    rw (e, add-one)

pub lines_none : (d : List ℕ) (n k : ℕ) → n ≤ k → lines_from d k (n - k) ≡ []
unfolding lines_from
lines_none d n k h = let e : n - k ≡ 0 = omega arith in rw e

-- ---- the names of a line
module _ (d : List ℕ) (k : ℕ) (b : Bool) (lib : b ≡ has_libraries d) where
  module _ (p : ℕ) (t : Bool) (has : b ≡ true) (e : p ≡ line_place d k) (f : t ≡ is_member_name mixed (part 8 p d)) where
    of_library : t ≡ is_member_name mixed (line_at d k).library
    of_library = f ∙ ap (is_member_name mixed) (library_is d k p (sym lib ∙ has) e)

    pub library_wrong : t ≡ false → false ≡ A.is_named d k
    unfolding A.is_named
    library_wrong g = rw (← lib, has, ← of_library, g)

    pub both_named : t ≡ true → (q : ℕ) → q ≡ line_place d k + library_length d → (r : Bool) → r ≡ is_member_name mixed (part 8 q d) → r ≡ A.is_named d k
    unfolding A.is_named
    both_named g q h r i = i ∙ rw (← lib, has, ← of_library, g, name_is d k q h)

  pub alone_named : b ≡ false → (q : ℕ) → q ≡ line_place d k + library_length d → (r : Bool) → r ≡ is_member_name mixed (part 8 q d) → r ≡ A.is_named d k
  unfolding A.is_named
  alone_named g q h r i = i ∙ rw (← lib, g, name_is d k q h)

pub record Naming (d : List ℕ) (n k : ℕ) : Type 0 where
  pub low : k ≤ n
  pub is : are_named mixed (has_libraries d) (lines_from d k (n - k)) ≡ are_named mixed (has_libraries d) (lines_from d 0 n)

pub naming_start : (d : List ℕ) (n : ℕ) → Naming d n 0
naming_start d n = let e : n - 0 ≡ n = omega arith in record { low = omega arith; is = rw e }

module _ (d : List ℕ) (n k : ℕ) (i : Naming d n k) (h : k < n) (t : Bool) (f : t ≡ A.is_named d k) where
  pub naming_more : t ≡ true → Naming d n (k + 1)
  unfolding are_named A.is_named
  naming_more g = record { low = omega arith; is = rw (lines_next d n k h, ← f, g) at i.is }

  pub naming_no : t ≡ false → false ≡ are_named mixed (has_libraries d) (lines_from d 0 n)
  unfolding are_named A.is_named
  naming_no g = rw (lines_next d n k h, ← f, g) at i.is

pub naming_done : (d : List ℕ) (n k : ℕ) → Naming d n k → n ≤ k → true ≡ are_named mixed (has_libraries d) (lines_from d 0 n)
unfolding are_named
naming_done d n k i h = rw (lines_none d n k h) at i.is

-- ---- whether a line has a name
and_assoc : (a b c : Bool) → ((a && b) && c) ≡ (a && (b && c))
and_assoc true b c = refl
and_assoc false b c = refl

same_append : (us vs xs ys : List ℕ) → length us ≡ length vs → same (us ++ xs) (vs ++ ys) ≡ (same us vs && same xs ys)
same_append [] [] xs ys h = refl
same_append [] (v ∷ vs) xs ys h = let z : ◌≡◌ {A = ℕ} 0 (suc (length vs)) = h in absurd (omega arith)
same_append (u ∷ us) [] xs ys h = let z : ◌≡◌ {A = ℕ} (suc (length us)) 0 = h in absurd (omega arith)
same_append (u ∷ us) (v ∷ vs) xs ys h =
    let z : suc (length us) ≡ suc (length vs) = h in
    rw (same_append us vs xs ys (omega arith)) (sym (and_assoc (eqb u v) (same us vs) (same xs ys)))

pub part_add : (n m at : ℕ) (s : List ℕ) → part (n + m) at s ≡ part n at s ++ part m (at + n) s
part_add zero m at s = let e : 0 + m ≡ m = omega arith in rw (e, add-zero)
part_add (suc n) m at s = rw suc-add (ap (λ (t : List ℕ). get_or s at 0 ∷ t) (part_add n m (suc at) s ∙ rw (suc-add, add-suc)))

blank_same : (m at : ℕ) (s : List ℕ) → same (part m at s) (replicate m 32) ≡ all is_blank (part m at s)
unfolding is_blank
blank_same zero at s = refl
blank_same (suc m) at s = rw (blank_same m (suc at) s)

length_padded : (m at : ℕ) (s : List ℕ) (xs : List ℕ) → m ≤ length (part m at s ++ xs)
length_padded zero at s xs = omega arith
length_padded (suc m) at s xs = let h : m ≤ length (part m (suc at) s ++ xs) = length_padded m (suc at) s xs in omega arith

-- of a name that is spelled elsewhere, padded with blanks at a place
module _ (d : List ℕ) (at from len : ℕ) where
  long : 8 < len → false ≡ same (part 8 at d) (part len from d ++ replicate (8 - length (part len from d)) 32)
  long h =
      same_length (part 8 at d) (part len from d ++ replicate (8 - length (part len from d)) 32)
      λ e. omega (arith, e, length_padded len from d (replicate (8 - length (part len from d)) 32), length_part 8 at d)

  blanks : len ≤ 8 → same (part 8 at d) (part len from d ++ replicate (8 - length (part len from d)) 32) ≡ (same (part len at d) (part len from d) && all is_blank (part (8 - len) (at + len) d))
  blanks h =
      let e : len + (8 - len) ≡ 8 = omega arith in
      let g : part 8 at d ≡ part len at d ++ part (8 - len) (at + len) d = rw e at (part_add len (8 - len) at d) in
      rw (g, length_part len from d)
      (same_append (part len at d) (part len from d) (part (8 - len) (at + len) d) (replicate (8 - len) 32) (length_part len at d ∙ sym (length_part len from d))
      ∙ rw (blank_same (8 - len) (at + len) d))

module _ (d : List ℕ) (at from len : ℕ) where
  pub too_long_lem : 8 < len → false ≡ is_padded mixed (folded mixed (part len from d)) (part 8 at d)
  unfolding is_padded
  too_long_lem h = rw (folded_part mixed len from d, folded_part mixed 8 at d) (long (folded mixed d) at from len h)

  padded : len ≤ 8 → is_padded mixed (folded mixed (part len from d)) (part 8 at d) ≡ (same (folded mixed (part len at d)) (folded mixed (part len from d)) && all is_blank (part (8 - len) (at + len) d))
  unfolding is_padded
  padded h =
      rw (folded_part mixed 8 at d, folded_part mixed len at d, folded_part mixed len from d)
      (blanks (folded mixed d) at from len h
      ∙ rw (← folded_part mixed (8 - len) (at + len) d, blank_folded (part (8 - len) (at + len) d)))

  module _ (t : Bool) (h : len ≤ 8) (f : t ≡ same (folded mixed (part len at d)) (folded mixed (part len from d))) where
    pub padded_as : (r : Bool) → t ≡ true → r ≡ all is_blank (part (8 - len) (at + len) d) → r ≡ is_padded mixed (folded mixed (part len from d)) (part 8 at d)
    padded_as r g q = q ∙ rw (padded h, ← f, g)

    pub padded_not : t ≡ false → false ≡ is_padded mixed (folded mixed (part len from d)) (part 8 at d)
    padded_not g = rw (padded h, ← f, g)

module _ (d : List ℕ) (k : ℕ) (w : List ℕ) (b : Bool) (lib : b ≡ has_libraries d) where
  pub in_library_lem : (p : ℕ) (r : Bool) → b ≡ true → p ≡ line_place d k → r ≡ is_padded mixed w (part 8 p d) → r ≡ is_padded mixed w (line_at d k).library
  in_library_lem p r h e f = f ∙ ap (is_padded mixed w) (library_is d k p (sym lib ∙ h) e)

  pub in_none : b ≡ false → false ≡ is_padded mixed w (line_at d k).library
  in_none h = sym (ap (is_padded mixed w) (library_none d k (sym lib ∙ h)) ∙ padded_none mixed w)

module _ (d : List ℕ) (k : ℕ) (x : Sought) where
  pub called_bare : (w : Spelled) (p : ℕ) (r : Bool) → x ≡ S.Bare w → p ≡ line_place d k + library_length d → r ≡ is_padded mixed (A.spelled d w) (part 8 p d) → r ≡ is_called mixed (A.sought_in d x) (line_at d k)
  unfolding A.sought_in is_called
  called_bare w p r i e f = f ∙ rw i (ap (is_padded mixed (A.spelled d w)) (name_is d k p e))

  module _ (l w : Spelled) (t : Bool) (i : x ≡ S.InLibrary l w) (f : t ≡ is_padded mixed (A.spelled d l) (line_at d k).library) where
    pub called_pair : (p : ℕ) (r : Bool) → t ≡ true → p ≡ line_place d k + library_length d → r ≡ is_padded mixed (A.spelled d w) (part 8 p d) → r ≡ is_called mixed (A.sought_in d x) (line_at d k)
    unfolding A.sought_in is_called
    called_pair p r g e h = h ∙ rw (i, ← f, g, name_is d k p e)

-- ---- the line that is sought
pub record Finding (d : List ℕ) (x : D.Sought) (n k : ℕ) : Type 0 where
  pub all : n ≡ count d
  pub is : find mixed x k (lines_from d k (n - k)) ≡ find mixed x 0 (lines d)

pub finding_start : (d : List ℕ) (x : D.Sought) (n : ℕ) → n ≡ count d → Finding d x n 0
finding_start d x n e = let f : n - 0 ≡ count d = omega arith in record { all = e; is = rw f }

module _ (d : List ℕ) (x : D.Sought) (n k : ℕ) (s : Finding d x n k) where
  pub finding_more : (t : Bool) → k < n → t ≡ is_called mixed x (line_at d k) → t ≡ false → Finding d x n (k + 1)
  unfolding find
  finding_more t h e f = record { all = s.all; is = rw (add-one k) (rw (add-one k) at (rw (lines_next d n k h, ← e, f) at s.is)) }

  pub finding_here : (t : Bool) → k < n → t ≡ is_called mixed x (line_at d k) → t ≡ true → Some k ≡ A.found_for (find mixed x 0 (lines d))
  unfolding find
  finding_here t h e f = ap A.found_for (rw (lines_next d n k h, ← e, f) at s.is)

  pub finding_none : n ≤ k → None ≡ A.found_for (find mixed x 0 (lines d))
  unfolding find
  finding_none h = ap A.found_for (rw (lines_none d n k h) at s.is)

-- ---- no names twice
-- the names of a line stand one behind the other
pub alike : (d : List ℕ) (j k p q n : ℕ) (r : Bool) → p ≡ line_place d j → q ≡ line_place d k → n ≡ library_length d → r ≡ same (folded mixed (part (n + 8) p d)) (folded mixed (part (n + 8) q d))
    → r ≡ (is_one mixed (line_at d j).library (line_at d k).library && is_one mixed (line_at d j).name (line_at d k).name)
unfolding line_at
alike d j k p q n r e f g h =
    let D : List ℕ = folded mixed d in
    let both : same (part (n + 8) p D) (part (n + 8) q D) ≡ (same (part n p D) (part n q D) && same (part 8 (p + n) D) (part 8 (q + n) D)) =
    rw (part_add n 8 p D, part_add n 8 q D) (same_append (part n p D) (part n q D) (part 8 (p + n) D) (part 8 (q + n) D) (length_part n p D ∙ sym (length_part n q D)))
    in
    let back : (same (part n p D) (part n q D) && same (part 8 (p + n) D) (part 8 (q + n) D)) ≡ (is_one mixed (part n p d) (part n q d) && is_one mixed (part 8 (p + n) d) (part 8 (q + n) d)) =
    rw (folded_part mixed n p d, folded_part mixed n q d, folded_part mixed 8 (p + n) d, folded_part mixed 8 (q + n) d)
    in
    h ∙ rw (folded_part mixed (n + 8) p d, folded_part mixed (n + 8) q d) (both ∙ back ∙ rw (e, f, g))

pub record Repeating (d : List ℕ) (k i n j : ℕ) : Type 0 where
  pub is : is_repeated mixed (line_at d k) (lines_from d j (n - j)) ≡ is_repeated mixed (line_at d k) (lines_from d i (n - i))

pub repeating_start : (d : List ℕ) (k i n : ℕ) → Repeating d k i n i
repeating_start d k i n = record { is = refl }

module _ (d : List ℕ) (k i n j : ℕ) (s : Repeating d k i n j) where
  module _ (h : j < n) (t : Bool) (e : t ≡ (is_one mixed (line_at d j).library (line_at d k).library && is_one mixed (line_at d j).name (line_at d k).name)) where
    pub repeating_more : t ≡ false → Repeating d k i n (j + 1)
    unfolding is_repeated
    repeating_more f = record { is = rw (lines_next d n j h, ← e, f) at s.is }

    pub repeating_here : t ≡ true → true ≡ is_repeated mixed (line_at d k) (lines_from d i (n - i))
    unfolding is_repeated
    repeating_here f = rw (lines_next d n j h, ← e, f) at s.is

  pub repeating_none : n ≤ j → false ≡ is_repeated mixed (line_at d k) (lines_from d i (n - i))
  unfolding is_repeated
  repeating_none h = rw (lines_none d n j h) at s.is

pub record Differing (d : List ℕ) (n k : ℕ) : Type 0 where
  pub low : k ≤ n
  pub is : are_distinct mixed (lines_from d k (n - k)) ≡ are_distinct mixed (lines_from d 0 n)

pub differing_start : (d : List ℕ) (n : ℕ) → Differing d n 0
differing_start d n = let e : n - 0 ≡ n = omega arith in record { low = omega arith; is = rw e }

module _ (d : List ℕ) (n k : ℕ) (i : Differing d n k) (h : k < n) (t : Bool) (e : t ≡ is_repeated mixed (line_at d k) (lines_from d (k + 1) (n - (k + 1)))) where
  pub differing_more : t ≡ false → Differing d n (k + 1)
  unfolding are_distinct
  differing_more g = record { low = omega arith; is = rw (lines_next d n k h, ← e, g) at i.is }

  pub differing_no : t ≡ true → false ≡ are_distinct mixed (lines_from d 0 n)
  unfolding are_distinct
  differing_no g = rw (lines_next d n k h, ← e, g) at i.is

pub differing_done : (d : List ℕ) (n k : ℕ) → Differing d n k → n ≤ k → true ≡ are_distinct mixed (lines_from d 0 n)
unfolding are_distinct
differing_done d n k i h = rw (lines_none d n k h) at i.is

-- ---- bodies follow each other
pub record Following (d : List ℕ) (n at k : ℕ) : Type 0 where
  pub low : k ≤ n
  pub fits : at ≤ 1572842 + 4294967295 * k
  pub is : follow at (lines_from d k (n - k)) (length d) ≡ follow (line_place d n) (lines_from d 0 n) (length d)

pub following_start : (d : List ℕ) (n at : ℕ) → n < 65536 → at ≡ line_place d n → Following d n at 0
following_start d n at h e = let f : n - 0 ≡ n = omega arith in record { low = omega arith; fits = omega (arith, e, place_most d n); is = rw (e, f) }

module _ (d : List ℕ) (n at k : ℕ) (i : Following d n at k) where
  pub following_more : (o z : ℕ) → k < n → z < 4294967296 → o ≡ (line_at d k).offset → z ≡ (line_at d k).size → o ≡ at → Following d n (at + z) (k + 1)
  unfolding follow
  following_more o z h b e f g =
      let q : eqb (line_at d k).offset at ≡ true = eq-eqb _ _ (sym e ∙ g) in
      record { low = omega arith; fits = omega (arith, i.fits); is = rw f (rw (lines_next d n k h, q) at i.is) }

  pub following_no : (o : ℕ) → k < n → o ≡ (line_at d k).offset → (o ≡ at → ⊥) → false ≡ follow (line_place d n) (lines_from d 0 n) (length d)
  unfolding follow
  following_no o h e g =
      let q : eqb (line_at d k).offset at ≡ false = ne_eqb _ _ (λ f. g (e ∙ f)) in
      rw (lines_next d n k h, q) at i.is

  pub following_done : n ≤ k → eqb at (length d) ≡ follow (line_place d n) (lines_from d 0 n) (length d)
  unfolding follow
  following_done h = rw (lines_none d n k h) at i.is

-- ---- the whole deck
pub of_deck : (d : List ℕ) (t : Bool) (n : ℕ) → t ≡ is_sound mixed d → n ≡ count d → then_some t (record { lines = n }) ≡ A.answer_for (contents mixed d)
unfolding contents
of_deck d true n e f = rw (← e) (ap (λ (m : ℕ). Some (record { lines = m })) (f ∙ sym (length_lines d 0 (count d))))
of_deck d false n e f = rw (← e)

-- ---- the body of a line
pub body_line : (d : List ℕ) (k from n : ℕ) → from ≡ (line_at d k).offset → n ≡ (line_at d k).size → (r : List ℕ) → r ≡ body_bytes d from n → r ≡ A.body_in d k
unfolding A.body_in
body_line d k from n e f r g = g ∙ rw (← e, ← f)
