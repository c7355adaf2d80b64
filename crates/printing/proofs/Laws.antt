-- One law for each way out of a function; `then` puts one thing behind another.
-- Assumes nothing.
use mathlib.Core.Path.{◌≡◌, refl, sym, ap, subst, ◌∙◌}
use mathlib.Core.Bool.{Bool, true, false}
use mathlib.Core.List.{List, [], ◌∷◌, ◌++◌, append_assoc, append-nil}
use Prim.Native.Nat.{ℕ, zero, suc, ◌+◌, ◌*◌, ◌-◌, ◌/◌, ◌%◌, ◌<◌, ◌≤◌}
use native.Mathlib.Nat.{add-zero, mod-eq_of_lt}
use native.Mathlib.Omega.{arith}
use borrow.Author.Tests.{lt-ltb, le-ltb}
use lib.Dec.{ltb}
use lib.ListN.{length, get_or, length-append}
use Rattle.definition.specs.Choice.{when}
use Rattle.definition.specs.Lists.{part, number}
use Rattle.definition.specs.Room.{over}
use Rattle.definition.specs.Values.{decimal_on}
use Rattle.definition.specs.Printed.{decimal, line_rest, letter, origin_line, origin_lines}
use Rattle.definition.proofs.Rooms.{over_nil, over_next_at}
use Rattle.definition.proofs.Parts.{part_more}
use Rattle.printing.specs.Page.{Puts, six_line, line_at, lines_from}

-- ---- one behind the other
pub then : {j k : ℕ} {p : List ℕ} {at : ℕ} {xs p₁ : List ℕ} {a : ℕ} {ys p₂ : List ℕ} {b : ℕ}
    → Puts j p at xs p₁ a → Puts k p₁ a ys p₂ b → Puts (j + k) p at (xs ++ ys) p₂ b
then {j} {k} {p} {at} {xs} {p₁} {a} {ys} {p₂} {b} f g =
    let n : length (xs ++ ys) ≡ length xs + length ys = length-append xs ys in
    record {
      page = g.page ∙ rw f.page (over_next_at p at a xs ys f.to);
      to = omega (arith, f.to, g.to, n);
      few = omega (arith, f.few, g.few, n);
    }

pub put_one : (p p' : List ℕ) (at b : ℕ) → p' ≡ over p (at + 0) (b ∷ []) → Puts 1 p at (b ∷ []) p' (at + 1)
put_one p p' at b e = record { page = rw add-zero at e; to = refl; few = omega arith }

-- ---- digits
onto : (f n : ℕ) (ds : List ℕ) → decimal_on f n ds ≡ decimal_on f n [] ++ ds
unfolding decimal_on
onto zero n ds = refl
onto (suc f) n ds = go (ltb n 10) (onto f (n / 10) ((48 + n % 10) ∷ ds)) (onto f (n / 10) ((48 + n % 10) ∷ []))
  where
    go : (t : Bool)
        → decimal_on f (n / 10) ((48 + n % 10) ∷ ds) ≡ decimal_on f (n / 10) [] ++ (48 + n % 10) ∷ ds
        → decimal_on f (n / 10) ((48 + n % 10) ∷ []) ≡ decimal_on f (n / 10) [] ++ (48 + n % 10) ∷ []
        → when t (λ _. (48 + n) ∷ ds) (λ _. decimal_on f (n / 10) ((48 + n % 10) ∷ ds))
        ≡ when t (λ _. (48 + n) ∷ []) (λ _. decimal_on f (n / 10) ((48 + n % 10) ∷ [])) ++ ds
    go true a b = refl
    go false a b = a ∙ sym (rw b (append_assoc (decimal_on f (n / 10) []) ((48 + n % 10) ∷ []) ds))

one_digit : (f n : ℕ) → n < 10 → decimal_on (suc f) n [] ≡ (48 + n) ∷ []
unfolding decimal_on
one_digit f n h = rw (lt-ltb n 10 h)

more_digits : (f n : ℕ) → 10 ≤ n → decimal_on (suc f) n [] ≡ decimal_on f (n / 10) [] ++ (48 + n % 10) ∷ []
unfolding decimal_on
more_digits f n h = rw (le-ltb n 10 h) (onto f (n / 10) ((48 + n % 10) ∷ []))

module _ (p : List ℕ) (at n most : ℕ) where
  pub digits_none : most ≡ 0 → Puts most p at (decimal_on most n []) p at
  unfolding decimal_on
  digits_none e = rw e (record { page = sym (over_nil p at); to = omega arith; few = omega arith })

  pub digits_one : (most ≡ 0 → ⊥) → n < 10 → (d : ℕ) → d ≡ 48 + n % 10 → (p' : List ℕ) (r : ℕ) → Puts 1 p at (d ∷ []) p' r → Puts most p at (decimal_on most n []) p' r
  digits_one h k d e p' r x =
      let m : most ≡ suc (most - 1) = omega arith in
      let f : d ∷ [] ≡ decimal_on most n [] = rw (e, mod-eq_of_lt k) (sym (rw m (one_digit (most - 1) n k))) in
      let s : Puts 1 p at (decimal_on most n []) p' r = subst (λ (z : List ℕ). Puts 1 p at z p' r) f x in
      record { page = s.page; to = s.to; few = omega (arith, s.few) }

  pub digits_more : (most ≡ 0 → ⊥) → 10 ≤ n → (p₁ : List ℕ) (a : ℕ) → Puts (most - 1) p at (decimal_on (most - 1) (n / 10) []) p₁ a
      → (d : ℕ) → d ≡ 48 + n % 10 → (p' : List ℕ) (r : ℕ) → Puts 1 p₁ a (d ∷ []) p' r → Puts most p at (decimal_on most n []) p' r
  digits_more h k p₁ a x d e p' r y =
      let m : most ≡ suc (most - 1) = omega arith in
      let f : decimal_on (most - 1) (n / 10) [] ++ d ∷ [] ≡ decimal_on most n [] = rw e (sym (ap (λ (z : ℕ). decimal_on z n []) m ∙ more_digits (most - 1) n k)) in
      let s : Puts (most - 1 + 1) p at (decimal_on most n []) p' r = subst (λ (z : List ℕ). Puts (most - 1 + 1) p at z p' r) f (then x y) in
      record { page = s.page; to = s.to; few = omega (arith, s.few) }

pub number_put : (p : List ℕ) (at n : ℕ) (p' : List ℕ) (r : ℕ) → Puts 10 p at (decimal_on 10 n []) p' r → Puts 10 p at (decimal n) p' r
unfolding decimal
number_put p at n p' r x = x

pub after_blank : (p : List ℕ) (at n : ℕ) (p₁ : List ℕ) (a : ℕ) → Puts 1 p at (32 ∷ []) p₁ a
    → (p' : List ℕ) (r : ℕ) → Puts 10 p₁ a (decimal n) p' r → Puts 11 p at (32 ∷ decimal n) p' r
after_blank p at n p₁ a x p' r y = then x y

-- ---- lines of numbers
abbrev words : List ℕ → List ℕ
words [] = []
words (n ∷ ns) = 32 ∷ decimal n ++ words ns

words_more : (ns : List ℕ) (m : ℕ) → words ns ++ (32 ∷ decimal m) ≡ words (ns ++ m ∷ [])
words_more [] m = ap (λ (z : List ℕ). 32 ∷ z) (sym (append-nil (decimal m)))
words_more (n ∷ ns) m = ap (λ (z : List ℕ). 32 ∷ z) (append_assoc (decimal n) (words ns) (32 ∷ decimal m) ∙ ap (λ (z : List ℕ). decimal n ++ z) (words_more ns m))

words_end : (ns : List ℕ) → words ns ++ (10 ∷ []) ≡ line_rest ns
words_end [] = refl
words_end (n ∷ ns) = ap (λ (z : List ℕ). 32 ∷ z) (append_assoc (decimal n) (words ns) (10 ∷ []) ∙ ap (λ (z : List ℕ). decimal n ++ z) (words_end ns))

pub record Wording (p₀ : List ℕ) (from : ℕ) (s : List ℕ) (first n : ℕ) (p : List ℕ) (at j : ℕ) : Type 0 where
  pub low : j ≤ n
  pub puts : Puts (11 * j) p₀ from (words (part j first s)) p at
  pub size : length p ≡ length p₀

pub wording_start : (p s : List ℕ) (from first n : ℕ) → Wording p from s first n p from 0
wording_start p s from first n = record {
  low = omega arith;
  puts = record { page = sym (over_nil p from); to = omega arith; few = omega arith };
  size = refl;
}

module _ (p₀ : List ℕ) (from : ℕ) (s : List ℕ) (first n : ℕ) (p : List ℕ) (at j : ℕ) (x : Wording p₀ from s first n p at j) where
  pub wording_room : j < n → from + 11 * n + 1 ≤ 1099511627776 → at + 11 ≤ 1099511627776
  wording_room h f = omega (arith, x.puts.to, x.puts.few)

  pub wording_last : from + 11 * n + 1 ≤ 1099511627776 → at + 1 ≤ 1099511627776
  wording_last f = omega (arith, x.puts.to, x.puts.few, x.low)

  pub wording_more : (m : ℕ) → m ≡ get_or s (first + j) 0 → j < n → (p' : List ℕ) (r : ℕ) → length p' ≡ length p → Puts 11 p at (32 ∷ decimal m) p' r → Wording p₀ from s first n p' r (j + 1)
  wording_more m e h p' r g y =
      let f : words (part j first s) ++ (32 ∷ decimal m) ≡ words (part (j + 1) first s) = words_more (part j first s) m ∙ rw (e, part_more) in
      let t : Puts (11 * j + 11) p₀ from (words (part (j + 1) first s)) p' r = subst (λ (z : List ℕ). Puts (11 * j + 11) p₀ from z p' r) f (then x.puts y) in
      record { low = omega arith; puts = record { page = t.page; to = t.to; few = omega (arith, t.few) }; size = g ∙ x.size }

  pub wording_done : n ≤ j → (p' : List ℕ) (r : ℕ) → Puts 1 p at (10 ∷ []) p' r → Puts (11 * n + 1) p₀ from (line_rest (part n first s)) p' r
  wording_done h p' r y =
      let e : j ≡ n = omega (arith, x.low) in
      rw e at (subst (λ (z : List ℕ). Puts (11 * j + 1) p₀ from z p' r) (words_end (part j first s)) (then x.puts y))

pub numbers_put : (p n : List ℕ) (a : ℕ) → a ≡ get_or n 0 0
    → (p₁ : List ℕ) (r₁ : ℕ) → Puts 10 p 0 (decimal a) p₁ r₁
    → (p₂ : List ℕ) (r₂ : ℕ) → Puts 56 p₁ r₁ (line_rest (part 5 1 n)) p₂ r₂
    → Puts 66 p 0 (six_line n) p₂ r₂
unfolding six_line
numbers_put p n a e p₁ r₁ x p₂ r₂ y = rw (← e) (then x y)

-- ---- the lines
pub line_put : (p : List ℕ) (at : ℕ) (l : List ℕ) (k q : ℕ) → q ≡ 12 * k → (t u v m x y : ℕ)
    → t ≡ get_or l (q + 0) 0 → u ≡ letter t → v ≡ get_or l (q + 1) 0 → m ≡ v → x ≡ number (part 4 (q + 4) l) → y ≡ number (part 4 (q + 8) l)
    → (p₁ : List ℕ) (r₁ : ℕ) → Puts 1 p at (u ∷ []) p₁ r₁
    → (p₂ : List ℕ) (r₂ : ℕ) → Puts 34 p₁ r₁ (line_rest (part 3 0 (m ∷ x ∷ y ∷ []))) p₂ r₂
    → Puts 35 p at (origin_line (line_at l k)) p₂ r₂
unfolding origin_line line_at
line_put p at l k q hq t u v m x y ht hu hv hm hx hy p₁ r₁ f p₂ r₂ g =
    let e : u ≡ letter (get_or l q 0) = hu ∙ rw (ht, add-zero) in
    rw (← hq, ← hx, ← hy, ← hv, ← hm) (subst (λ (z : ℕ). Puts 35 p at (z ∷ line_rest (m ∷ x ∷ y ∷ [])) p₂ r₂) e (then f g))

pub record Listing (p₀ l : List ℕ) (first end : ℕ) (p : List ℕ) (at i : ℕ) : Type 0 where
  pub low : first ≤ i
  pub high : i - first ≤ end - first
  pub puts : Puts (35 * (i - first)) p₀ 0 (origin_lines (lines_from l first (i - first))) p at
  pub size : length p ≡ length p₀

pub listing_start : (p l : List ℕ) (first end : ℕ) → Listing p l first end p 0 first
unfolding origin_lines lines_from
listing_start p l first end =
    let e : first - first ≡ 0 = omega arith in
    record {
      low = omega arith;
      high = omega arith;
      puts = rw e (record { page = sym (over_nil p 0); to = omega arith; few = omega arith });
      size = refl;
    }

more_lines : (l : List ℕ) (k i : ℕ) → origin_lines (lines_from l k i) ++ origin_line (line_at l (k + i)) ≡ origin_lines (lines_from l k (suc i))
unfolding origin_lines lines_from
more_lines l k i = refl

module _ (p₀ l : List ℕ) (first end : ℕ) (p : List ℕ) (at i : ℕ) (x : Listing p₀ l first end p at i) where
  -- the next line has its room before the far end
  pub listing_room : i < end → end < 4294967296 → at + 35 ≤ 1099511627776
  listing_room h f = omega (arith, x.puts.to, x.puts.few, x.low)

  pub listing_more : i < end → (p' : List ℕ) (r : ℕ) → length p' ≡ length p → Puts 35 p at (origin_line (line_at l i)) p' r → Listing p₀ l first end p' r (i + 1)
  listing_more h p' r e y =
      let n = i - first in
      let d : i ≡ first + n = omega (arith, x.low) in
      let s : i + 1 - first ≡ suc n = omega (arith, x.low) in
      let z : Puts 35 p at (origin_line (line_at l (first + n))) p' r = subst (λ (j : ℕ). Puts 35 p at (origin_line (line_at l j)) p' r) d y in
      let t : Puts (35 * n + 35) p₀ 0 (origin_lines (lines_from l first (suc n))) p' r = subst (λ (w : List ℕ). Puts (35 * n + 35) p₀ 0 w p' r) (more_lines l first n) (then x.puts z) in
      let u : Puts (35 * suc n) p₀ 0 (origin_lines (lines_from l first (suc n))) p' r = record { page = t.page; to = t.to; few = omega (arith, t.few) } in
      record {
        low = omega (arith, x.low);
        high = omega (arith, x.low);
        puts = subst (λ (j : ℕ). Puts (35 * j) p₀ 0 (origin_lines (lines_from l first j)) p' r) (sym s) u;
        size = e ∙ x.size;
      }

  pub listing_done : end ≤ i → Puts (35 * (end - first)) p₀ 0 (origin_lines (lines_from l first (end - first))) p at
  listing_done h =
      let e : i - first ≡ end - first = omega (arith, x.low, x.high) in
      subst (λ (j : ℕ). Puts (35 * j) p₀ 0 (origin_lines (lines_from l first j)) p at) e x.puts
