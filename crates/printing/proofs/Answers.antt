-- WHAT IS PRINTED is the definition's: where the rooms hold an expansion as the definition says they do, `expansionIn` is that
-- expansion; what is printed of it is its pieces, one behind the other; and a page that is long enough holds its piece.
-- Assumes nothing.
use mathlib.Core.Path.{◌≡◌, refl, sym, ap, ◌∙◌}
use mathlib.Core.List.{List, [], ◌∷◌, ◌++◌, append_assoc, append-nil}
use Prim.Native.Nat.{ℕ, zero, suc, ◌+◌, ◌*◌, ◌<◌, ◌≤◌}
use native.Mathlib.Nat.{zero-add, add-zero, add-suc, not-suc-le-zero, le_of_suc-le-suc}
use native.Mathlib.Numerals.{add-one}
use native.Mathlib.Omega.{arith}
use lib.ListN.{length, get_or, take, drop, length-append, length-replicate}
use lib.Seq.{take-append_seam, drop-append_seam}
use Rattle.definition.specs.Lists.{part, number}
use Rattle.definition.specs.Room.{over, zeros}
use Rattle.definition.specs.Events.{Line, line_bytes, list_bytes}
use Rattle.definition.specs.Expansion.{Expansion, text_room_after, list_room_after}
use Rattle.definition.specs.Printed.{numbers_line, origin_line, origin_lines, printed}
use Rattle.definition.proofs.Parts.{length_part, part_append, part_of_part, number_bytes}
use Rattle.printing.specs.Page.{Puts, six_line, line_at, lines_in, lines_from, expansion_in}

-- ---- the page
take_over : (p xs : List ℕ) → length xs ≤ length p → take (length xs) (over p 0 xs) ≡ xs
take_over p [] h = refl
take_over [] (x ∷ xs) h = absurd (not-suc-le-zero h)
take_over (r ∷ rs) (x ∷ xs) h = ap (λ (t : List ℕ). x ∷ t) (take_over rs xs (le_of_suc-le-suc h))

-- what `used` gives of a page that is long enough is the whole piece
pub page_holds : (most : ℕ) (p xs p' : List ℕ) (r : ℕ) → Puts most p 0 xs p' r → most ≤ length p → take r p' ≡ xs
page_holds most p xs p' r x h =
    let e : r ≡ length xs = x.to ∙ zero-add (length xs) in
    rw (e, x.page) (take_over p xs (omega (arith, x.few)))

-- ---- the pieces
length_lines : (l : List ℕ) (n : ℕ) → length (lines_in l n) ≡ n
unfolding lines_in
length_lines l zero = refl
length_lines l (suc n) = ap suc (length_lines l n)

six_line_lem : (n t l : List ℕ) → six_line n ≡ numbers_line (expansion_in n t l)
unfolding six_line numbers_line expansion_in
six_line_lem n t l = rw (length_part (get_or n 4 0) 0 t, length_lines l (get_or n 5 0))

parts : (n t l : List ℕ) → numbers_line (expansion_in n t l) ++ origin_lines (lines_in l (get_or n 5 0)) ++ part (get_or n 4 0) 0 t ++ 10 ∷ [] ≡ printed (expansion_in n t l)
unfolding printed expansion_in
parts n t l = refl

-- the six numbers, the lines, the text and a line feed
pub in_pieces : (n t l : List ℕ) → six_line n ++ origin_lines (lines_in l (get_or n 5 0)) ++ part (get_or n 4 0) 0 t ++ 10 ∷ [] ≡ printed (expansion_in n t l)
in_pieces n t l = rw (six_line_lem n t l) (parts n t l)

-- the lines, up to any one and from there on
pub in_turns : (l : List ℕ) (k n : ℕ) → origin_lines (lines_in l (k + n)) ≡ origin_lines (lines_in l k) ++ origin_lines (lines_from l k n)
unfolding origin_lines lines_in lines_from
in_turns l k zero = rw add-zero (sym (append-nil (origin_lines (lines_in l k))))
in_turns l k (suc n) =
    let a = origin_lines (lines_in l k) in
    let b = origin_lines (lines_from l k n) in
    let c = origin_line (line_at l (k + n)) in
    rw add-suc (ap (λ (z : List ℕ). z ++ c) (in_turns l k n) ∙ append_assoc a b c)

-- ---- parts of a room
part_next : (n x at : ℕ) (w : List ℕ) → part n (suc at) (x ∷ w) ≡ part n at w
part_next zero x at w = refl
part_next (suc n) x at w = ap (λ (t : List ℕ). get_or w at 0 ∷ t) (part_next n x (suc at) w)

part_over : (r xs : List ℕ) → length xs ≤ length r → part (length xs) 0 (over r 0 xs) ≡ xs
part_over r [] h = refl
part_over [] (x ∷ xs) h = absurd (not-suc-le-zero h)
part_over (r ∷ rs) (x ∷ xs) h = ap (λ (t : List ℕ). x ∷ t) (part_next (length xs) x 0 (over rs 0 xs) ∙ part_over rs xs (le_of_suc-le-suc h))

-- two lists that are the same, cut at the same length
front : (a b c d : List ℕ) → length a ≡ length c → a ++ b ≡ c ++ d → a ≡ c
front a b c d h e = sym (take-append_seam a b) ∙ ap (take (length a)) e ∙ rw h (take-append_seam c d)

back : (a b c d : List ℕ) → length a ≡ length c → a ++ b ≡ c ++ d → b ≡ d
back a b c d h e = sym (drop-append_seam a b) ∙ ap (drop (length a)) e ∙ rw h (drop-append_seam c d)

-- ---- the lines
-- offsets and lengths that four bytes can say
abbrev pub Small : List Line → Type 0
Small [] = Unit {0}
Small (l ∷ ls) = (l.offset < 4294967296) × (l.size < 4294967296) × Small ls

length_list : (ls : List Line) → length (list_bytes ls) ≡ 12 * length ls
unfolding list_bytes
length_list [] = refl
length_list (l ∷ ls) = length-append (list_bytes ls) (line_bytes l) ∙ rw (length_list ls) (omega arith)

line_back : (w : List ℕ) (k : ℕ) (l : Line) → l.offset < 4294967296 → l.size < 4294967296 → part 12 (12 * k) w ≡ line_bytes l → line_at w k ≡ l
unfolding line_at
line_back w k l o s e =
    let a = 12 * k in
    let kind : get_or w a 0 ≡ l.kind = ap (λ (z : List ℕ). get_or z 0 0) e in
    let member : get_or w (a + 1) 0 ≡ l.member = rw add-one (ap (λ (z : List ℕ). get_or z 1 0) e) in
    let offset : number (part 4 (a + 4) w) ≡ l.offset = ap number (sym (part_of_part 4 4 12 a w (omega arith)) ∙ ap (part 4 4) e) ∙ number_bytes 4 l.offset o in
    let size : number (part 4 (a + 8) w) ≡ l.size = ap number (sym (part_of_part 4 8 12 a w (omega arith)) ∙ ap (part 4 8) e) ∙ number_bytes 4 l.size s in
    rw (kind, member, offset, size)

lines_back : (ls : List Line) (w : List ℕ) → Small ls → part (12 * length ls) 0 w ≡ list_bytes ls → lines_in w (length ls) ≡ ls
unfolding lines_in list_bytes
lines_back [] w s e = refl
lines_back (l ∷ ls) w s e =
    let n = length ls in
    let d : 12 * suc n ≡ 12 * n + 12 = omega arith in
    let g : part (12 * n) 0 w ++ part 12 (12 * n) w ≡ list_bytes ls ++ line_bytes l = rw (d, part_append, zero-add) at e in
    let h : length (part (12 * n) 0 w) ≡ length (list_bytes ls) = length_part (12 * n) 0 w ∙ sym (length_list ls) in
    let f : line_at w n ≡ l = line_back w n l s.0 s.1 (back (part (12 * n) 0 w) (part 12 (12 * n) w) (list_bytes ls) (line_bytes l) h g) in
    let r : lines_in w n ≡ ls = lines_back ls w s.2 (front (part (12 * n) 0 w) (part 12 (12 * n) w) (list_bytes ls) (line_bytes l) h g) in
    ap (λ (z : Line). z ∷ lines_in w n) f ∙ ap (λ (z : List Line). l ∷ z) r

-- ---- the expansion
-- "number, member, offset, steps, text length, lines"
abbrev pub six_of : Expansion → List ℕ
six_of x = x.number ∷ x.member ∷ x.offset ∷ x.steps ∷ length x.text ∷ length x.lines ∷ []

abbrev with : Expansion → List ℕ → List Line → Expansion
with x t ls = record { number = x.number; member = x.member; offset = x.offset; steps = x.steps; text = t; lines = ls }

pub rooms_hold : (x : Expansion) (T L : ℕ) → length x.text ≤ T → 12 * length x.lines ≤ L → Small x.lines
    → expansion_in (six_of x) (text_room_after T x) (list_room_after L x) ≡ x
unfolding expansion_in text_room_after list_room_after
rooms_hold x T L a b s =
    let zt : length (zeros T) ≡ T = length-replicate {A = ℕ} T 0 in
    let zl : length (zeros L) ≡ L = length-replicate {A = ℕ} L 0 in
    let ll : length (list_bytes x.lines) ≡ 12 * length x.lines = length_list x.lines in
    let t : part (length x.text) 0 (over (zeros T) 0 x.text) ≡ x.text = part_over (zeros T) x.text (omega (arith, zt)) in
    let p : part (12 * length x.lines) 0 (over (zeros L) 0 (list_bytes x.lines)) ≡ list_bytes x.lines = rw ll at (part_over (zeros L) (list_bytes x.lines) (omega (arith, zl, ll))) in
    let w = over (zeros L) 0 (list_bytes x.lines) in
    ap (λ (z : List ℕ). with x z (lines_in w (length x.lines))) t ∙ ap (λ (z : List Line). with x x.text z) (lines_back x.lines w s p)
