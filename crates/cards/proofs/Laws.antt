-- One law for each way out of a function on card images; the loops' invariants are records, and say that what is left to
-- write makes the room what it is to be.
-- Assumes nothing.
use Rattle.std.proofs.Common.{Some, None}
use mathlib.Core.Path.{◌≡◌, refl, sym, ap, ◌∙◌}
use mathlib.Core.Bool.{true, false}
use mathlib.Core.List.{List, ◌∷◌, ◌++◌}
use Prim.Native.Nat.{ℕ, zero, suc, ◌+◌, ◌*◌, ◌-◌, ◌/◌, ◌%◌, ◌^◌, ◌<◌, ◌≤◌}
use native.Mathlib.Nat.{zero-add, mod-eq_of_lt, mod-add-div, add-mul-mod_self_left, add-mul-div_left, mul_assoc, pow-succ'}
use native.Mathlib.Numerals.{add-one}
use native.Mathlib.Omega.{arith}
use borrow.Author.Tests.{eq-eqb, ne_eqb}
use lib.Dec.{eqb}
use lib.ListN.{length, length-append}
use Rattle.definition.specs.Lists.{part, bytes}
use Rattle.definition.specs.Room.{over}
use Rattle.definition.specs.Deck.{Line, library_length, line_place, line_at, lines_from, lines, count}
use Rattle.definition.specs.Cards.{uneven, columns, records, joined_size, joined_lines, joined_bodies, joined}
use Rattle.definition.proofs.Rooms.{length_over, over_nil, over_next_at}
use Rattle.definition.proofs.Parts.{length_part}
use Rattle.deck.specs.Answer as A
use Rattle.deck.proofs.Laws.{lines_next, lines_none, part_add, place_most}
use Rattle.cards.specs.Joins.{joined_line, PutsBodies, Joins}
use Rattle.definition.proofs.Joined.{place_first, place_next, length_columns, length_joined_lines}
use Rattle.cards.proofs.Joined.{length_line}

-- ---- the first uneven body
pub record Looking (d : List ℕ) (n k : ℕ) : Type 0 where
  pub all : n ≡ count d
  pub is : uneven k (lines_from d k (n - k)) ≡ uneven 0 (lines d)

pub looking_start : (d : List ℕ) (n : ℕ) → n ≡ count d → Looking d n 0
looking_start d n e = let f : n - 0 ≡ count d = omega arith in record { all = e; is = rw f }

module _ (d : List ℕ) (n k : ℕ) (s : Looking d n k) where
  pub looking_more : (z : ℕ) → k < n → z ≡ (line_at d k).size → z % 80 ≡ 0 → Looking d n (k + 1)
  unfolding uneven
  looking_more z h e f =
      let g : eqb ((line_at d k).size % 80) 0 ≡ true = eq-eqb _ _ (rw e at f) in
      record { all = s.all; is = rw (add-one k) (rw (add-one k) at (rw (lines_next d n k h, g) at s.is)) }

  pub looking_here : (z : ℕ) → k < n → z ≡ (line_at d k).size → (z % 80 ≡ 0 → ⊥) → Some k ≡ A.found_for (uneven 0 (lines d))
  unfolding uneven
  looking_here z h e f =
      let g : eqb ((line_at d k).size % 80) 0 ≡ false = ne_eqb _ _ (λ q. f (rw e q)) in
      ap A.found_for (rw (lines_next d n k h, g) at s.is)

  pub looking_none : n ≤ k → None ≡ A.found_for (uneven 0 (lines d))
  unfolding uneven
  looking_none h = ap A.found_for (rw (lines_none d n k h) at s.is)

-- ---- a line of the contents: the four low bytes of a number are those of its remainder
low_bytes : (k n q : ℕ) → bytes k (n + 256 ^ k * q) ≡ bytes k n
low_bytes zero n q = refl
low_bytes (suc k) n q =
    let e : 256 ^ suc k * q ≡ 256 * (256 ^ k * q) = rw pow-succ' (mul_assoc 256 (256 ^ k) q) in
    let a : (n + 256 * (256 ^ k * q)) % 256 ≡ n % 256 = add-mul-mod_self_left n 256 (256 ^ k * q) in
    let b : (n + 256 * (256 ^ k * q)) / 256 ≡ n / 256 + 256 ^ k * q = add-mul-div_left n (256 ^ k * q) (omega arith) in
    ap (λ (m : ℕ). bytes (suc k) (n + m)) e ∙ (λ i. a i ∷ bytes k (b i)) ∙ ap (λ (l : List ℕ). n % 256 ∷ l) (low_bytes k (n / 256) q)

low4 : (n : ℕ) → bytes 4 (n % 4294967296) ≡ bytes 4 n
low4 n = sym (low_bytes 4 (n % 4294967296) (n / 4294967296)) ∙ ap (bytes 4) (mod-add-div n 4294967296)

-- both names stand one behind the other
module _ (d : List ℕ) (k p q n : ℕ) (e : p ≡ line_place d k) (e' : q ≡ line_place d k + library_length d) (v : n ≡ library_length d) where
  names_put : part (n + 8) p d ≡ (line_at d k).library ++ (line_at d k).name
  unfolding line_at
  names_put = part_add n 8 p d ∙ rw (e, v)

  pub line_put : (t t₁ t₂ t₃ : List ℕ) (at z : ℕ) → t₁ ≡ over t p (part (n + 8) p d) → t₂ ≡ over t₁ (q + 8) (bytes 4 (at % 4294967296))
      → z ≡ joined_size (line_at d k) → t₃ ≡ over t₂ (q + 12) (bytes 4 z) → t₃ ≡ over t (line_place d k) (joined_line at (line_at d k))
  unfolding joined_line
  line_put t t₁ t₂ t₃ at z f g h i =
      let w : List ℕ = part (n + 8) p d in
      let l : length w ≡ n + 8 = length_part (n + 8) p d in
      let a : t₂ ≡ over t p (w ++ bytes 4 at) = g ∙ rw (f, low4 at) (over_next_at t p (q + 8) w (bytes 4 at) (omega (arith, l, e, e', v))) in
      let b : t₃ ≡ over t p (w ++ bytes 4 at ++ bytes 4 z) = i ∙ rw a (over_next_at t p (q + 12) (w ++ bytes 4 at) (bytes 4 z) (omega (arith, l, e, e', v, length-append w (bytes 4 at)))) in
      b ∙ (λ j. over t (e j) (names_put j ++ bytes 4 at ++ bytes 4 (h j)))

-- ---- the contents
pub record Lining (d : List ℕ) (n : ℕ) (t₀ t : List ℕ) (at k : ℕ) : Type 0 where
  pub low : k ≤ n
  pub fits : at ≤ 1572842 + 4294967295 * k
  pub is : over t (line_place d k) (joined_lines at (lines_from d k (n - k))) ≡ over t₀ 2 (joined_lines (line_place d n) (lines_from d 0 n))
  pub size : length t ≡ length t₀

pub lining_start : (d : List ℕ) (n : ℕ) (t : List ℕ) (at : ℕ) → n < 65536 → at ≡ line_place d n → Lining d n t t at 0
lining_start d n t at h e = let f : n - 0 ≡ n = omega arith in record { low = omega arith; fits = omega (arith, e, place_most d n); is = rw (e, f, place_first d); size = refl }

module _ (d : List ℕ) (n : ℕ) (t₀ t : List ℕ) (at k : ℕ) (i : Lining d n t₀ t at k) where
  pub lining_more : (t' : List ℕ) (z : ℕ) → k < n → z < 4294967296 → t' ≡ over t (line_place d k) (joined_line at (line_at d k)) → z ≡ joined_size (line_at d k) → Lining d n t₀ t' (at + z) (k + 1)
  unfolding joined_lines joined_line
  lining_more t' z h b e f =
      let l : Line = line_at d k in
      let rest : List ℕ = joined_lines (at + z) (lines_from d (k + 1) (n - (k + 1))) in
      let q : line_place d (k + 1) ≡ line_place d k + (library_length d + 16) = rw (add-one k) (place_next d k) in
      let p : over t' (line_place d (k + 1)) rest ≡ over t (line_place d k) (joined_line at l ++ rest) =
      rw e (over_next_at t (line_place d k) (line_place d (k + 1)) (joined_line at l) rest (omega (arith, length_line at d k))) in
      record { low = omega arith; fits = omega (arith, i.fits); is = p ∙ rw f (rw (lines_next d n k h) at i.is); size = ap length e ∙ length_over t (line_place d k) (joined_line at l) ∙ i.size }

  pub lining_done : n ≤ k → t ≡ over t₀ 2 (joined_lines (line_place d n) (lines_from d 0 n))
  unfolding joined_lines
  lining_done h = sym (over_nil t (line_place d k)) ∙ rw (lines_none d n k h) at i.is

-- ---- the columns of one body
pub record Cards (d : List ℕ) (from n : ℕ) (t₀ : List ℕ) (to : ℕ) (t : List ℕ) (card at j : ℕ) : Type 0 where
  pub low : j ≤ n
  pub place : card ≡ from + 80 * j
  pub place' : at ≡ to % 281474976710656 + 71 * j
  pub is : over t at (columns (n - j) card d) ≡ over t₀ (to % 281474976710656) (columns n from d)
  pub size : length t ≡ length t₀

pub cards_start : (d : List ℕ) (from n : ℕ) (t : List ℕ) (to : ℕ) → Cards d from n t to t from (to % 281474976710656) 0
cards_start d from n t to = let e : n - 0 ≡ n = omega arith in record { low = omega arith; place = omega arith; place' = omega arith; is = rw e; size = refl }

columns_next : (d : List ℕ) (n j card : ℕ) → j < n → columns (n - j) card d ≡ part 71 (card + 1) d ++ columns (n - (j + 1)) (card + 80) d
unfolding columns
columns_next d n j card h =
    let e : n - j ≡ suc (n - (j + 1)) = omega arith in
    ap (λ (m : ℕ). columns m card d) e ∙ ap (λ (p : ℕ). part 71 p d ++ columns (n - (j + 1)) (card + 80) d) (sym (add-one card))

module _ (d : List ℕ) (from n : ℕ) (t₀ : List ℕ) (to : ℕ) (t : List ℕ) (card at j : ℕ) (i : Cards d from n t₀ to t card at j) where
  pub cards_more : (t' : List ℕ) → j < n → t' ≡ over t at (part 71 (card + 1) d) → Cards d from n t₀ to t' (card + 80) (at + 71) (j + 1)
  cards_more t' h e =
      let rest : List ℕ = columns (n - (j + 1)) (card + 80) d in
      let p : over t' (at + 71) rest ≡ over t at (part 71 (card + 1) d ++ rest) =
      rw e (over_next_at t at (at + 71) (part 71 (card + 1) d) rest (omega (arith, length_part 71 (card + 1) d))) in
      record { low = omega arith; place = omega (arith, i.place); place' = omega (arith, i.place'); is = p ∙ rw (columns_next d n j card h) at i.is; size = ap length e ∙ length_over t at (part 71 (card + 1) d) ∙ i.size }

  pub cards_done : n ≤ j → t ≡ over t₀ (to % 281474976710656) (columns n from d)
  unfolding columns
  cards_done h = let e : n - j ≡ 0 = omega arith in sym (over_nil t at) ∙ rw e at i.is

-- ---- the bodies
pub record Joining (d : List ℕ) (n : ℕ) (t₀ t : List ℕ) (at k : ℕ) : Type 0 where
  pub low : k ≤ n
  pub fits : at ≤ 1572842 + 4294967295 * k
  pub is : over t at (joined_bodies (lines_from d k (n - k)) d) ≡ over t₀ (line_place d n) (joined_bodies (lines_from d 0 n) d)
  pub end : at + length (joined_bodies (lines_from d k (n - k)) d) ≡ line_place d n + length (joined_bodies (lines_from d 0 n) d)
  pub size : length t ≡ length t₀

pub joining_start : (d : List ℕ) (n : ℕ) (t : List ℕ) (at : ℕ) → n < 65536 → at ≡ line_place d n → Joining d n t t at 0
joining_start d n t at h e = let f : n - 0 ≡ n = omega arith in record { low = omega arith; fits = omega (arith, e, place_most d n); is = rw (e, f); end = rw (e, f); size = refl }

module _ (d : List ℕ) (n : ℕ) (t₀ t : List ℕ) (at k : ℕ) (i : Joining d n t₀ t at k) where
  pub joining_more : (t' : List ℕ) (o m z : ℕ) → k < n → n < 65536 → z < 4294967296 → o ≡ (line_at d k).offset → m ≡ records (line_at d k)
      → t' ≡ over t (at % 281474976710656) (columns m o d) → z ≡ joined_size (line_at d k) → Joining d n t₀ t' (at + z) (k + 1)
  unfolding joined_bodies
  joining_more t' o m z h few b p q e f =
      let cols : List ℕ = columns m o d in
      let rest : List ℕ = joined_bodies (lines_from d (k + 1) (n - (k + 1))) d in
      let g : at % 281474976710656 ≡ at = mod-eq_of_lt (omega (arith, i.fits)) in
      let e' : t' ≡ over t at cols = e ∙ rw g in
      let s : length cols ≡ z = length_columns m o d ∙ rw q (sym f) in
      let x : joined_bodies (lines_from d k (n - k)) d ≡ cols ++ rest = rw (lines_next d n k h, p, q) in
      record {
        low = omega arith;
        fits = omega (arith, i.fits);
        is = ap (λ (r : List ℕ). over r (at + z) rest) e' ∙ over_next_at t at (at + z) cols rest (omega (arith, s)) ∙ rw x at i.is;
        end = omega (arith, i.end, s, length-append cols rest, ap length x);
        size = ap length e' ∙ length_over t at cols ∙ i.size;
      }

  pub joining_done : n ≤ k → PutsBodies d n t₀ t at
  unfolding joined_bodies
  joining_done h = record {
    is = sym (over_nil t at) ∙ rw (lines_none d n k h) at i.is;
    end = omega (arith, rw (lines_none d n k h) at i.end);
  }

-- ---- the whole deck: count, contents and bodies, each behind the other
pub joins : (d t t₁ t₂ t₃ : List ℕ) (n r : ℕ) → n ≡ count d → t₁ ≡ over t 0 (part 2 0 d) → t₂ ≡ over t₁ 2 (joined_lines (line_place d n) (lines_from d 0 n))
    → PutsBodies d n t₂ t₃ r → Joins d t t₃ r
unfolding joined
joins d t t₁ t₂ t₃ n r e f g h =
    let head : List ℕ = part 2 0 d in
    let table : List ℕ = joined_lines (line_place d n) (lines_from d 0 n) in
    let bodies : List ℕ = joined_bodies (lines_from d 0 n) d in
    let a : t₂ ≡ over t 0 (head ++ table) = g ∙ rw f (over_next_at t 0 2 head table (omega (arith, length_part 2 0 d))) in
    let s : length (head ++ table) ≡ line_place d n = length-append head table ∙ omega (arith, length_part 2 0 d, place_first d, length_joined_lines d 0 n (line_place d n), ap (line_place d) (zero-add n)) in
    let b : t₃ ≡ over t 0 (head ++ table ++ bodies) = h.is ∙ rw a (over_next_at t 0 (line_place d n) (head ++ table) bodies (omega (arith, s))) in
    let is : t₃ ≡ over t 0 (joined d) = b ∙ rw e in
    let c : r ≡ length (head ++ table ++ bodies) = omega (arith, h.end, s, length-append (head ++ table) bodies) in
    record { is = is; size = c ∙ rw e; room = ap length is ∙ length_over t 0 (joined d) }
