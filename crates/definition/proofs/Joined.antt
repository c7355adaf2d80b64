-- The joined deck of a sound deck is sound: the same members in the same order, and each body is the joined columns.
-- Assumes nothing.
use Prim.Native.Nat.{ℕ, zero, suc, ◌+◌, ◌*◌, ◌-◌, ◌/◌, ◌%◌, ◌<◌, ◌≤◌}
use native.Mathlib.Nat.{not-suc-le-zero, zero-add, suc-add, add-zero}
use native.Mathlib.Omega.{arith}
use mathlib.Core.Bool.{Bool, true, false, cond, ◌&&◌, false≢true}
use mathlib.Core.List.{List, [], ◌∷◌, ◌++◌, append_assoc}
use mathlib.Core.Path.{◌≡◌, refl, sym, ap, subst, ◌∙◌}
use lib.Dec.{leb, eqb}
use lib.ListN.{length, get_or, length-append, get_or-append}
use borrow.Author.Tests.{leb-true, leb-false, le-leb, eqb-true, eq-eqb}
use Rattle.definition.specs.Bytes.{Letters, mixed, folded}
use Rattle.definition.specs.Limits.{deck_bytes, deck_lines}
use Rattle.definition.specs.Lists.{part, number, bytes}
use Rattle.definition.specs.Deck.{Line, first, has_libraries, count, library_length, line_place, line_at, lines_from, lines, are_named, is_repeated, are_distinct, Sought, bare, in_library, is_padded, is_called, none, line, find, follow, is_sound}
use Rattle.definition.specs.Cards.{uneven, columns, records, joined_size, column, joined_lines, joined_bodies, joined}
use Rattle.definition.specs.Run.{body_of}
use Rattle.definition.proofs.Parts.{length_part, get_d_part, part_of_part, number_bytes}
use Rattle.definition.proofs.Keeping.{and_left, and_right}

-- ---- parts of lists that are put together
part_shift : (n at x : ℕ) (s : List ℕ) → part n (suc at) (x ∷ s) ≡ part n at s
part_shift zero at x s = refl
part_shift (suc n) at x s = ap (λ (t : List ℕ). get_or s at 0 ∷ t) (part_shift n (suc at) x s)

part_behind : (n k : ℕ) (xs zs : List ℕ) → part n (length xs + k) (xs ++ zs) ≡ part n k zs
part_behind n k [] zs = rw zero-add
part_behind n k (x ∷ xs) zs = rw suc-add (part_shift n (length xs + k) x (xs ++ zs) ∙ part_behind n k xs zs)

part_front : (ys zs : List ℕ) → part (length ys) 0 (ys ++ zs) ≡ ys
part_front [] zs = refl
part_front (y ∷ ys) zs = ap (λ (t : List ℕ). y ∷ t) (part_shift (length ys) 0 y (ys ++ zs) ∙ part_front ys zs)

-- the same with the places given by equations
pub part_past : (n k q : ℕ) (xs zs : List ℕ) → q ≡ length xs + k → part n q (xs ++ zs) ≡ part n k zs
part_past n k q xs zs e = rw e (part_behind n k xs zs)

pub part_first_of : (n : ℕ) (ys zs : List ℕ) → n ≡ length ys → part n 0 (ys ++ zs) ≡ ys
part_first_of n ys zs e = rw e (part_front ys zs)

length_bytes : (k n : ℕ) → length (bytes k n) ≡ k
length_bytes zero n = refl
length_bytes (suc k) n = ap suc (length_bytes k (n / 256))

pub length_columns : (n at : ℕ) (d : List ℕ) → length (columns n at d) ≡ 71 * n
unfolding columns
length_columns zero at d = refl
length_columns (suc n) at d = simp length-append (omega (arith, length_part 71 (suc at) d, length_columns n (at + 80) d))

-- ---- byte p of the columns stands where `column` says
get_d_behind : (xs ys : List ℕ) (q : ℕ) → get_or (xs ++ ys) (length xs + q) 0 ≡ get_or ys q 0
get_d_behind [] ys q = rw zero-add
get_d_behind (x ∷ xs) ys q = rw suc-add (get_d_behind xs ys q)

pub byte_in_columns : (n at p : ℕ) (d : List ℕ) → p < 71 * n → get_or (columns n at d) p 0 ≡ get_or d (at + column p) 0
unfolding columns
byte_in_columns zero at p d h = absurd (omega arith)
byte_in_columns (suc n) at p d h = go (leb 71 p) refl (byte_in_columns n (at + 80) (p - 71) d)
  where
    go : (t : Bool) → leb 71 p ≡ t → (p - 71 < 71 * n → get_or (columns n (at + 80) d) (p - 71) 0 ≡ get_or d (at + 80 + column (p - 71)) 0) → get_or (part 71 (suc at) d ++ columns n (at + 80) d) p 0 ≡ get_or d (at + column p) 0
    go false e i =
        let k : p < 71 = leb-false 71 p e in
        let z : suc at + p ≡ at + column p = omega arith in
        get_or-append (part 71 (suc at) d) (columns n (at + 80) d) 0 p (omega (arith, length_part 71 (suc at) d)) ∙ get_d_part 71 p (suc at) d k ∙ rw z
    go true e i =
        let k : 71 ≤ p = leb-true 71 p e in
        let y : p ≡ length (part 71 (suc at) d) + (p - 71) = omega (arith, length_part 71 (suc at) d) in
        let z : at + 80 + column (p - 71) ≡ at + column p = omega arith in
        ap (λ (q : ℕ). get_or (part 71 (suc at) d ++ columns n (at + 80) d) q 0) y ∙ get_d_behind (part 71 (suc at) d) (columns n (at + 80) d) (p - 71) ∙ i (omega arith) ∙ rw z

-- the columns of a part
pub columns_part : (n at q size : ℕ) (d : List ℕ) → q + 80 * n ≤ size → columns n (at + q) d ≡ columns n q (part size at d)
unfolding columns
columns_part zero at q size d h = refl
columns_part (suc n) at q size d h =
    let e : suc (at + q) ≡ at + suc q = omega arith in
    let f : at + q + 80 ≡ at + (q + 80) = omega arith in
    let x : part 71 (suc (at + q)) d ≡ part 71 (suc q) (part size at d) = ap (λ (z : ℕ). part 71 z d) e ∙ sym (part_of_part 71 (suc q) size at d (omega arith)) in
    let y : columns n (at + q + 80) d ≡ columns n (q + 80) (part size at d) = ap (λ (z : ℕ). columns n z d) f ∙ columns_part n at (q + 80) size d (omega arith) in
    λ i. x i ++ y i

-- ---- a line without a library is in none
pub padded_none : (α : Letters) (w : List ℕ) → is_padded α w [] ≡ false
unfolding is_padded folded
padded_none α [] = refl
padded_none α (x ∷ w) = refl

-- ---- where the lines of a layout stand; decks with the same first number have the same layout
pub place_first : (d : List ℕ) → line_place d 0 ≡ 2
unfolding line_place
place_first d = by (has_libraries d)
  where
    by : (b : Bool) → cond b (2 + 24 * 0) (2 + 16 * 0) ≡ 2
    by true = refl
    by false = refl

pub place_next : (d : List ℕ) (k : ℕ) → line_place d (suc k) ≡ line_place d k + (library_length d + 16)
unfolding line_place library_length
place_next d k = by (has_libraries d)
  where
    by : (b : Bool) → cond b (2 + 24 * suc k) (2 + 16 * suc k) ≡ cond b (2 + 24 * k) (2 + 16 * k) + (cond b 8 0 + 16)
    by true = omega arith
    by false = omega arith

-- lines lie in order
pub place_up : (d : List ℕ) (k n : ℕ) → line_place d k ≤ line_place d (k + n)
place_up d k zero = rw add-zero (omega arith)
place_up d k (suc n) = let e : suc k + n ≡ k + suc n = omega arith in omega (arith, place_next d k, place_up d (suc k) n, ap (line_place d) e)

-- ---- the contents of the joined deck, whose next body begins at a place
abbrev pub contents_from : ℕ → List Line → List Line
contents_from at [] = []
contents_from at (l ∷ ls) = record { library = l.library; name = l.name; offset = at; size = joined_size l } ∷ contents_from (at + joined_size l) ls

-- names as long as those of a deck
abbrev Named : List ℕ → List Line → Type 0
Named d [] = Unit {0}
Named d (l ∷ ls) = (length l.library ≡ library_length d) × (length l.name ≡ 8) × Named d ls

named_lines : (d : List ℕ) (k n : ℕ) → Named d (lines_from d k n)
unfolding lines_from line_at
named_lines d k zero = tt
named_lines d k (suc n) = (length_part (library_length d) (line_place d k) d, length_part 8 (line_place d k + library_length d) d, named_lines d (suc k) n)

pub length_lines : (d : List ℕ) (i n : ℕ) → length (lines_from d i n) ≡ n
unfolding lines_from
length_lines d i zero = refl
length_lines d i (suc n) = ap suc (length_lines d (suc i) n)

follow_end : (b end : ℕ) (ls : List Line) → follow b ls end ≡ true → b ≤ end
unfolding follow
follow_end b end [] f = omega (arith, eqb-true b end f)
follow_end b end (l ∷ ls) f = omega (arith, follow_end (b + l.size) end ls (and_right (eqb l.offset b) _ f))

-- ---- a deck e of the layout of d
abbrev Alike : List ℕ → List ℕ → Type 0
Alike d e = has_libraries e ≡ has_libraries d

pub alike_length : (d e : List ℕ) → Alike d e → library_length e ≡ library_length d
unfolding library_length
alike_length d e h = rw h

pub alike_place : (d e : List ℕ) (k : ℕ) → Alike d e → line_place e k ≡ line_place d k
unfolding line_place
alike_place d e k h = rw h

-- a line of the layout of d in a deck of that layout
module _ (d : List ℕ) (k : ℕ) (pre w a b c rest : List ℕ) (like : Alike d (pre ++ (w ++ a ++ b ++ c ++ rest))) (p : length pre ≡ line_place d k) (v : length w ≡ library_length d) (x : length a ≡ 8) (y : length b ≡ 4) (z : length c ≡ 4) where
  abbrev whole : List ℕ
  whole = pre ++ (w ++ a ++ b ++ c ++ rest)

  line_of : line_at whole k ≡ record { library = w; name = a; offset = number b; size = number c }
  unfolding line_at
  line_of =
      let s : List ℕ = w ++ a ++ b ++ c ++ rest in
      let n : ℕ = library_length whole in
      let g : line_place whole k ≡ length pre = omega (arith, alike_place d whole k like, p) in
      let h : n ≡ length w = omega (arith, alike_length d whole like, v) in
      let e : s ≡ w ++ (a ++ (b ++ (c ++ rest))) = append_assoc (w ++ a ++ b) c rest ∙ append_assoc (w ++ a) b (c ++ rest) ∙ append_assoc w a (b ++ (c ++ rest)) in
      let t : part n (line_place whole k) whole ≡ w = part_past n 0 (line_place whole k) pre s (omega (arith, g)) ∙ ap (part n 0) e ∙ part_first_of n w _ h in
      let u : part 8 (line_place whole k + n) whole ≡ a = part_past 8 n (line_place whole k + n) pre s (omega (arith, g)) ∙ ap (part 8 n) e ∙ part_past 8 0 n w _ (omega (arith, h)) ∙ part_first_of 8 a _ (sym x) in
      let q : part 4 (line_place whole k + (n + 8)) whole ≡ b =
      part_past 4 (n + 8) (line_place whole k + (n + 8)) pre s (omega (arith, g)) ∙ ap (part 4 (n + 8)) e ∙ part_past 4 8 (n + 8) w _ (omega (arith, h)) ∙ part_past 4 0 8 a _ (omega (arith, x)) ∙ part_first_of 4 b _ (sym y) in
      let r : part 4 (line_place whole k + (n + 12)) whole ≡ c =
      part_past 4 (n + 12) (line_place whole k + (n + 12)) pre s (omega (arith, g)) ∙ ap (part 4 (n + 12)) e ∙ part_past 4 12 (n + 12) w _ (omega (arith, h)) ∙ part_past 4 4 12 a _ (omega (arith, x)) ∙ part_past 4 0 4 b _ (omega (arith, y))
      ∙ part_first_of 4 c _ (sym z) in
      λ i. record { library = t i; name = u i; offset = number (q i); size = number (r i) }

-- the lines that are read in the joined deck: `b` is where the body of the first stands in the deck as given
module _ (d : List ℕ) where
  lines_joined : (ls : List Line) (at b end k : ℕ) (pre rest : List ℕ) → Alike d (pre ++ joined_lines at ls ++ rest) → length pre ≡ line_place d k → Named d ls → follow b ls end ≡ true → at ≤ b → end ≤ deck_bytes
      → lines_from (pre ++ joined_lines at ls ++ rest) k (length ls) ≡ contents_from at ls
  unfolding lines_from joined_lines follow
  lines_joined [] at b end k pre rest like p e f h i = refl
  lines_joined (l ∷ ls) at b end k pre rest like p e f h i =
      let n : List ℕ = bytes 4 at in
      let s : List ℕ = bytes 4 (joined_size l) in
      let line' : List ℕ = l.library ++ l.name ++ n ++ s in
      let more : List ℕ = joined_lines (at + joined_size l) ls in
      let g : follow (b + l.size) ls end ≡ true = and_right (eqb l.offset b) _ f in
      let j : b + l.size ≤ end = follow_end (b + l.size) end ls g in
      let x : number n ≡ at = number_bytes 4 at (omega arith) in
      let y : number s ≡ joined_size l = number_bytes 4 (joined_size l) (omega arith) in
      let o : pre ++ (line' ++ more) ++ rest ≡ pre ++ (line' ++ (more ++ rest)) = append_assoc pre (line' ++ more) rest ∙ ap (λ (t : List ℕ). pre ++ t) (append_assoc line' more rest) in
      let u : line_at (pre ++ (line' ++ more) ++ rest) k ≡ record { library = l.library; name = l.name; offset = number n; size = number s } =
      ap (λ (t : List ℕ). line_at t k) o
      ∙ line_of d k pre l.library l.name n s (more ++ rest) (subst (Alike d) o like) p e.0 e.1 (length_bytes 4 at) (length_bytes 4 (joined_size l)) in
      let q : length (pre ++ line') ≡ line_place d (suc k) = simp length-append (omega (arith, p, place_next d k, e.0, e.1, length_bytes 4 at, length_bytes 4 (joined_size l))) in
      let r : pre ++ (line' ++ more) ++ rest ≡ pre ++ line' ++ more ++ rest = ap (λ (t : List ℕ). t ++ rest) (sym (append_assoc pre line' more)) in
      let v : lines_from (pre ++ (line' ++ more) ++ rest) (suc k) (length ls) ≡ contents_from (at + joined_size l) ls =
      ap (λ (t : List ℕ). lines_from t (suc k) (length ls)) r
      ∙ lines_joined ls (at + joined_size l) (b + l.size) end (suc k) (pre ++ line') rest (subst (Alike d) r like) q e.2 g (omega arith) i in
      let w : ◌≡◌ {A = Line} (record { library = l.library; name = l.name; offset = number n; size = number s }) (record { library = l.library; name = l.name; offset = at; size = joined_size l }) =
      λ i. record { library = l.library; name = l.name; offset = x i; size = y i } in
      λ i. (u ∙ w) i ∷ v i

-- ---- what soundness asks of them
named_joined : (b : Bool) (at : ℕ) (ls : List Line) → are_named mixed b (contents_from at ls) ≡ are_named mixed b ls
unfolding are_named
named_joined b at [] = refl
named_joined b at (l ∷ ls) = rw (named_joined b (at + joined_size l) ls)

find_joined : (x : Sought) (k at : ℕ) (ls : List Line) → find mixed x k (contents_from at ls) ≡ find mixed x k ls
unfolding find is_called
find_joined x k at [] = refl
find_joined (bare w) k at (l ∷ ls) = rw (find_joined (bare w) (suc k) (at + joined_size l) ls)
find_joined (in_library v w) k at (l ∷ ls) = rw (find_joined (in_library v w) (suc k) (at + joined_size l) ls)

repeated_joined : (b at z : ℕ) (l : Line) (ls : List Line) → is_repeated mixed (record { library = l.library; name = l.name; offset = b; size = z }) (contents_from at ls) ≡ is_repeated mixed l ls
unfolding is_repeated
repeated_joined b at z l [] = refl
repeated_joined b at z l (m ∷ ms) = rw (repeated_joined b (at + joined_size m) z l ms)

distinct_joined : (at : ℕ) (ls : List Line) → are_distinct mixed (contents_from at ls) ≡ are_distinct mixed ls
unfolding are_distinct
distinct_joined at [] = refl
distinct_joined at (l ∷ ls) = rw (repeated_joined at (at + joined_size l) (joined_size l) l ls, distinct_joined (at + joined_size l) ls)

both_true : (a b : Bool) → a ≡ true → b ≡ true → (a && b) ≡ true
both_true true b h k = k
both_true false b h k = absurd (false≢true h)

follow_joined : (at end : ℕ) (ls : List Line) (d : List ℕ) → end ≡ at + length (joined_bodies ls d) → follow at (contents_from at ls) end ≡ true
unfolding follow joined_bodies
follow_joined at end [] d e = eq-eqb at end (omega arith)
follow_joined at end (l ∷ ls) d e =
    both_true (eqb at at) _ (eq-eqb at at refl)
    (follow_joined (at + joined_size l) end ls d (omega (arith, length-append (columns (records l) l.offset d) (joined_bodies ls d), length_columns (records l) l.offset d)))

-- ---- lengths
length_contents : (d : List ℕ) (k at : ℕ) (ls : List Line) → Named d ls → line_place d k + length (joined_lines at ls) ≡ line_place d (k + length ls)
unfolding joined_lines
length_contents d k at [] e = add-zero (line_place d k) ∙ ap (line_place d) (sym (add-zero k))
length_contents d k at (l ∷ ls) e =
    let f : suc k + length ls ≡ k + suc (length ls) = omega arith in
    simp length-append (omega (arith, place_next d k, e.0, e.1, length_bytes 4 at, length_bytes 4 (joined_size l), length_contents d (suc k) (at + joined_size l) ls e.2, ap (line_place d) f))

-- the lines that are read in d take as many bytes as there
pub length_joined_lines : (d : List ℕ) (k n at : ℕ) → line_place d k + length (joined_lines at (lines_from d k n)) ≡ line_place d (k + n)
length_joined_lines d k n at = length_contents d k at (lines_from d k n) (named_lines d k n) ∙ ap (λ (i : ℕ). line_place d (k + i)) (length_lines d k n)

length_bodies : (b end : ℕ) (ls : List Line) (d : List ℕ) → follow b ls end ≡ true → b + length (joined_bodies ls d) ≤ end
unfolding follow joined_bodies
length_bodies b end [] d f = omega (arith, eqb-true b end f)
length_bodies b end (l ∷ ls) d f = simp length-append (omega (arith, length_columns (records l) l.offset d, length_bodies (b + l.size) end ls d (and_right (eqb l.offset b) _ f)))

-- ---- the bodies
abbrev at_line : List Line → ℕ → Line
at_line ls m = get_or ls m (record { library = []; name = []; offset = 0; size = 0 })

line_in_lem : (d : List ℕ) (k n m : ℕ) → m < n → at_line (lines_from d k n) m ≡ line_at d (k + m)
unfolding lines_from
line_in_lem d k zero m h = absurd (not-suc-le-zero h)
line_in_lem d k (suc n) zero h = rw add-zero
line_in_lem d k (suc n) (suc m) h = let e : k + suc m ≡ suc k + m = omega arith in rw e (line_in_lem d (suc k) n m (omega arith))

library_in : (at : ℕ) (ls : List Line) (m : ℕ) → (at_line (contents_from at ls) m).library ≡ (at_line ls m).library
library_in at [] m = refl
library_in at (l ∷ ls) zero = refl
library_in at (l ∷ ls) (suc m) = library_in (at + joined_size l) ls m

name_in_lem : (at : ℕ) (ls : List Line) (m : ℕ) → (at_line (contents_from at ls) m).name ≡ (at_line ls m).name
name_in_lem at [] m = refl
name_in_lem at (l ∷ ls) zero = refl
name_in_lem at (l ∷ ls) (suc m) = name_in_lem (at + joined_size l) ls m

size_in_lem : (at : ℕ) (ls : List Line) (m : ℕ) → (at_line (contents_from at ls) m).size ≡ joined_size (at_line ls m)
size_in_lem at [] m = refl
size_in_lem at (l ∷ ls) zero = refl
size_in_lem at (l ∷ ls) (suc m) = size_in_lem (at + joined_size l) ls m

body_in_lem : (at : ℕ) (ls : List Line) (m : ℕ) (pre d : List ℕ) → m < length ls → length pre ≡ at → part (at_line (contents_from at ls) m).size (at_line (contents_from at ls) m).offset (pre ++ joined_bodies ls d) ≡ columns (records (at_line ls m)) (at_line ls m).offset d
unfolding joined_bodies
body_in_lem at [] m pre d h p = absurd (not-suc-le-zero h)
body_in_lem at (l ∷ ls) zero pre d h p =
    part_past (joined_size l) 0 at pre _ (omega (arith, p)) ∙ part_first_of (joined_size l) (columns (records l) l.offset d) (joined_bodies ls d) (sym (length_columns (records l) l.offset d))
body_in_lem at (l ∷ ls) (suc m) pre d h p =
    let c : List ℕ = columns (records l) l.offset d in
    ap (part (at_line (contents_from (at + joined_size l) ls) m).size (at_line (contents_from (at + joined_size l) ls) m).offset) (sym (append_assoc pre c (joined_bodies ls d)))
    ∙ body_in_lem (at + joined_size l) ls m (pre ++ c) d (omega arith) (length-append pre c ∙ omega (arith, p, length_columns (records l) l.offset d))

-- ---- THE JOINED DECK of a sound one
pub record Sound (d : List ℕ) : Type 0 where
  pub few : length d ≤ deck_bytes
  pub some : 1 ≤ count d
  pub members : count d ≤ deck_lines
  pub contents : line_place d (count d) ≤ length d
  pub named : are_named mixed (has_libraries d) (lines d) ≡ true
  pub distinct : are_distinct mixed (lines d) ≡ true
  pub following : follow (line_place d (count d)) (lines d) (length d) ≡ true

pub sound_parts : (d : List ℕ) → is_sound mixed d ≡ true → Sound d
unfolding is_sound
sound_parts d h =
    let a : Bool = leb (length d) deck_bytes in
    let b : Bool = leb 1 (count d) in
    let c : Bool = leb (count d) deck_lines in
    let e : Bool = leb (line_place d (count d)) (length d) in
    let f : Bool = are_named mixed (has_libraries d) (lines d) in
    let g : Bool = are_distinct mixed (lines d) in
    let t : Bool = follow (line_place d (count d)) (lines d) (length d) in
    let h₆ : (a && b && c && e && f && g) ≡ true = and_left _ t h in
    let h₅ : (a && b && c && e && f) ≡ true = and_left _ g h₆ in
    let h₄ : (a && b && c && e) ≡ true = and_left _ f h₅ in
    let h₃ : (a && b && c) ≡ true = and_left _ e h₄ in
    let h₂ : (a && b) ≡ true = and_left _ c h₃ in
    record { few = leb-true _ _ (and_left a b h₂); some = leb-true _ _ (and_right a b h₂); members = leb-true _ _ (and_right (a && b) c h₃); contents = leb-true _ _ (and_right (a && b && c) e h₄); named = and_right (a && b && c && e) f h₅; distinct = and_right (a && b && c && e && f) g h₆; following = and_right (a && b && c && e && f && g) t h }

pub sound_whole : (d : List ℕ) → Sound d → is_sound mixed d ≡ true
unfolding is_sound
sound_whole d s =
    both_true _ _ (both_true _ _ (both_true _ _ (both_true _ _ (both_true _ _ (both_true _ _ (le-leb _ _ s.few) (le-leb _ _ s.some)) (le-leb _ _ s.members)) (le-leb _ _ s.contents)) s.named) s.distinct) s.following

module _ (d : List ℕ) (sound : is_sound mixed d ≡ true) where
  parts : Sound d
  parts = sound_parts d sound

  length_head : length (part 2 0 d ++ joined_lines (line_place d (count d)) (lines d)) ≡ line_place d (count d)
  length_head =
      simp length-append
      (omega (arith, length_part 2 0 d, place_first d, length_joined_lines d 0 (count d) (line_place d (count d)), ap (line_place d) (zero-add (count d))))

  first_joined : first (joined d) ≡ first d
  unfolding joined
  first_joined =
      let ls : List ℕ = joined_lines (line_place d (count d)) (lines d) in
      let bs : List ℕ = joined_bodies (lines d) d in
      ap number (ap (part 2 0) (append_assoc (part 2 0 d) ls bs) ∙ part_first_of 2 (part 2 0 d) (ls ++ bs) (sym (length_part 2 0 d)))

  -- the deck's own layout
  pub layout_joined : has_libraries (joined d) ≡ has_libraries d
  unfolding has_libraries
  layout_joined = rw first_joined

  pub place_joined : (k : ℕ) → line_place (joined d) k ≡ line_place d k
  place_joined k = alike_place d (joined d) k layout_joined

  pub count_joined : count (joined d) ≡ count d
  unfolding count
  count_joined = rw (layout_joined, first_joined)

  pub contents_joined : lines (joined d) ≡ contents_from (line_place d (count d)) (lines d)
  unfolding joined
  contents_joined =
      rw (count_joined)
      (ap (lines_from (joined d) 0) (sym (length_lines d 0 (count d)))
      ∙ lines_joined d (lines d) (line_place d (count d)) (line_place d (count d)) (length d) 0 (part 2 0 d) (joined_bodies (lines d) d) layout_joined (omega (arith, length_part 2 0 d, place_first d)) (named_lines d 0 (count d)) parts.following (omega arith) parts.few)

  length_joined : length (joined d) ≡ line_place d (count d) + length (joined_bodies (lines d) d)
  unfolding joined
  length_joined = length-append (part 2 0 d ++ joined_lines (line_place d (count d)) (lines d)) (joined_bodies (lines d) d) ∙ omega (arith, length_head)

  pub joined_shorter : length (joined d) ≤ length d
  joined_shorter = omega (arith, length_joined, length_bodies (line_place d (count d)) (length d) (lines d) d parts.following)

  pub sound_joined : is_sound mixed (joined d) ≡ true
  sound_joined = sound_whole (joined d) (record {
    few = omega (arith, joined_shorter, parts.few);
    some = rw count_joined parts.some;
    members = rw count_joined parts.members;
    contents = rw (count_joined, place_joined (count d)) (omega (arith, length_joined));
    named = rw (contents_joined, layout_joined) (named_joined (has_libraries d) (line_place d (count d)) (lines d) ∙ parts.named);
    distinct = rw contents_joined (distinct_joined (line_place d (count d)) (lines d) ∙ parts.distinct);
    following = rw (contents_joined, count_joined, place_joined (count d)) (follow_joined (line_place d (count d)) (length (joined d)) (lines d) d length_joined);
  })

  -- how a member is found
  pub found_joined : (x : Sought) (k : ℕ) → find mixed x k (lines (joined d)) ≡ find mixed x k (lines d)
  found_joined x k = rw contents_joined (find_joined x k (line_place d (count d)) (lines d))

  module _ (m : ℕ) (h : m < count d) where
    line_given : at_line (lines d) m ≡ line_at d m
    line_given = line_in_lem d 0 (count d) m h ∙ rw zero-add

    line_there : line_at (joined d) m ≡ at_line (contents_from (line_place d (count d)) (lines d)) m
    line_there = ap (line_at (joined d)) (sym (zero-add m)) ∙ sym (line_in_lem (joined d) 0 (count (joined d)) m (rw count_joined h)) ∙ ap (λ (ls : List Line). at_line ls m) contents_joined

    pub library_joined : (line_at (joined d) m).library ≡ (line_at d m).library
    library_joined = ap (λ (l : Line). l.library) line_there ∙ library_in (line_place d (count d)) (lines d) m ∙ ap (λ (l : Line). l.library) line_given

    pub name_joined : (line_at (joined d) m).name ≡ (line_at d m).name
    name_joined = ap (λ (l : Line). l.name) line_there ∙ name_in_lem (line_place d (count d)) (lines d) m ∙ ap (λ (l : Line). l.name) line_given

    pub size_joined : (line_at (joined d) m).size ≡ joined_size (line_at d m)
    size_joined = ap (λ (l : Line). l.size) line_there ∙ size_in_lem (line_place d (count d)) (lines d) m ∙ ap (λ (l : Line). joined_size l) line_given

    body_there : part (at_line (contents_from (line_place d (count d)) (lines d)) m).size (at_line (contents_from (line_place d (count d)) (lines d)) m).offset (joined d) ≡ columns (records (at_line (lines d) m)) (at_line (lines d) m).offset d
    unfolding joined
    body_there = body_in_lem (line_place d (count d)) (lines d) m (part 2 0 d ++ joined_lines (line_place d (count d)) (lines d)) d (omega (arith, length_lines d 0 (count d))) length_head

    pub body_joined : body_of (joined d) m ≡ columns (records (line_at d m)) (line_at d m).offset d
    unfolding body_of
    body_joined =
        ap (λ (l : Line). part l.size l.offset (joined d)) line_there
        ∙ body_there
        ∙ ap (λ (l : Line). columns (records l) l.offset d) line_given

    -- the columns of the body as given
    pub body_columns : body_of (joined d) m ≡ columns (records (line_at d m)) 0 (body_of d m)
    unfolding body_of
    body_columns =
        body_joined
        ∙ ap (λ (q : ℕ). columns (records (line_at d m)) q d) (sym (add-zero (line_at d m).offset))
        ∙ columns_part (records (line_at d m)) (line_at d m).offset 0 (line_at d m).size d (omega arith)

    pub length_body : length (body_of (joined d) m) ≡ joined_size (line_at d m)
    length_body = rw body_joined (length_columns (records (line_at d m)) (line_at d m).offset d)

    -- byte p of the joined body is the byte of the body as given that `column` names
    pub byte_joined : (p : ℕ) → p < length (body_of (joined d) m) → get_or (body_of (joined d) m) p 0 ≡ get_or (body_of d m) (column p) 0
    unfolding body_of
    byte_joined p i =
        let j : p < 71 * records (line_at d m) = omega (arith, length_body) in
        rw body_joined
        (byte_in_columns (records (line_at d m)) (line_at d m).offset p d j ∙ sym (get_d_part (line_at d m).size (column p) (line_at d m).offset d (omega arith)))

-- decks with the same contents, joined, have the same contents
pub lines_alike : (d e : List ℕ) → is_sound mixed d ≡ true → is_sound mixed e ≡ true → lines e ≡ lines d → count e ≡ count d → Alike d e → lines (joined e) ≡ lines (joined d)
lines_alike d e s t h k like =
    let p : line_place e (count e) ≡ line_place d (count d) = alike_place d e (count e) like ∙ ap (line_place d) k in
    contents_joined e t ∙ (λ i. contents_from (p i) (h i)) ∙ sym (contents_joined d s)

-- ---- a deck of whole records
even_at : (k : ℕ) (ls : List Line) (m : ℕ) → uneven k ls ≡ none → (at_line ls m).size % 80 ≡ 0
unfolding uneven
even_at k [] m e = refl
even_at k (l ∷ ls) m e = go (eqb (l.size % 80) 0) refl e m (λ n. even_at (suc k) ls n)
  where
    go : (t : Bool) → eqb (l.size % 80) 0 ≡ t → cond t (uneven (suc k) ls) (line k) ≡ none → (n : ℕ) → ((i : ℕ) → uneven (suc k) ls ≡ none → (at_line ls i).size % 80 ≡ 0) → (at_line (l ∷ ls) n).size % 80 ≡ 0
    go false f e n h = let z : ◌≡◌ {A = ℕ} 0 1 = cc in absurd (omega arith)
    go true f e zero h = eqb-true (l.size % 80) 0 f
    go true f e (suc n) h = h n e

pub whole_records : (d : List ℕ) → is_sound mixed d ≡ true → uneven 0 (lines d) ≡ none → (m : ℕ) → m < count d → (line_at d m).size % 80 ≡ 0
whole_records d s e m h = ap (λ (l : Line). l.size % 80) (sym (line_given d s m h)) ∙ even_at 0 (lines d) m e
