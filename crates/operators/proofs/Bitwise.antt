-- The operators on two sides: bits.
-- Assumes nothing.
use Rattle.std.proofs.Common.{Result, Ok, Err}
use mathlib.Core.Path.{◌≡◌, refl, sym, ap, ◌∙◌}
use mathlib.Core.Bool.{Bool, true, false, cond}
use mathlib.Core.Logic.{◌⊎◌, inl, inr}
use mathlib.Core.List.{List, []}
use Prim.Native.Nat.{ℕ, ◌+◌, ◌<◌, ◌≤◌}
use native.Mathlib.Nat.{add-zero}
use native.Mathlib.Omega.{arith}
use borrow.Author.Tests.{le-leb, lt-leb, leb-true, leb-false}
use lib.Dec.{leb, ltb}
use lib.IntN.{nat_abs}
use lib.ListN.{length, take}
use Rattle.definition.specs.Lists.{part, all}
use Rattle.definition.specs.Room.{over}
use Rattle.definition.specs.Tokens.{is_bit}
use Rattle.definition.specs.declared.Why.{Why}
use Rattle.definition.specs.declared.Why.TheVariants.{TooLong as too_long, NoConversion as no_conversion}
use Rattle.definition.specs.Values as D
use Rattle.definition.proofs.Parts.{length_part}
use Rattle.definition.proofs.Rooms.{length_over, over_nil}
use Rattle.fixed.specs.declared.Fixed.{Fixed}
use Rattle.values.specs.declared.Logic.{Logic}
use Rattle.values.specs.Bits.{longer, logic_of}
use Rattle.values.specs.Digits.{Wrote}
use Rattle.values.proofs.Bits.{length_bitwise}
use Rattle.operators.specs.declared.Value.{Value}
use Rattle.operators.specs.declared.Value.TheVariants.{Number, Characters, Bits}
use Rattle.operators.specs.Stands.{value_in, given_in, size_for, stacked, Ready, Gave, Made, top_of, as_bit, bits_put}
use Rattle.operators.specs.Sides.{Raised, First}
use Rattle.operators.proofs.Room.{part_written, below_over, part_below, part_above, top_in_lem}
use Rattle.operators.proofs.Answers.{size_is}
use Rattle.operators.proofs.Texts.{never, length_binary, BitsAt, bits_at}

-- ---- the first side, below the second
-- how many bits a value has as BIT
unfoldable bit_size : Value → ℕ
bit_size (Number x) = 17
bit_size (Characters n) = n
bit_size (Bits n) = n

bits_size : (w : List ℕ) (u : ℕ) (x : Value) (l : List ℕ) → D.to_bits (value_in w u x) ≡ D.gives l → length l ≡ bit_size x
unfolding value_in D.to_bits bit_size
bits_size w u (Number z) l e = ap length (same l _ e) ∙ length_binary 17 (nat_abs z.value)
  where
    same : (l k : List ℕ) → D.gives k ≡ D.gives l → l ≡ k
    same l k e = cc
bits_size w u (Characters n) l e = go (all is_bit (part n u w)) e
  where
    go : (t : Bool) → cond t (D.gives (part n u w)) (D.fails no_conversion) ≡ D.gives l → length l ≡ n
    go true e = let f : l ≡ part n u w = cc in ap length f ∙ length_part n u w
    go false e = never _ (cc)
bits_size w u (Bits n) l e = let f : l ≡ part n u w = cc in ap length f ∙ length_part n u w

-- bits that fit at two places are the same at both
restack : (a : D.Value) (k u : ℕ) → ((l : List ℕ) → D.to_bits a ≡ D.gives l → (k + length l ≤ 65536) × (u + length l ≤ 65536)) → stacked u (as_bit a) ≡ stacked k (as_bit a)
unfolding stacked as_bit D.unfinished
restack a k u h = go (D.to_bits a) (h)
  where
    go : (t : D.Answer (List ℕ)) → ((l : List ℕ) → t ≡ D.gives l → (k + length l ≤ 65536) × (u + length l ≤ 65536))
        → D.and_then (D.and_then t λ l. D.gives (D.bit_value l)) (D.unfinished u) ≡ D.and_then (D.and_then t λ l. D.gives (D.bit_value l)) (D.unfinished k)
    go (D.gives l) f = rw (le-leb (u + length l) 65536 (f l refl).1, le-leb (k + length l) 65536 (f l refl).0)
    go (D.fails y) f = refl

-- bits that do not fit
unstacked : (a : D.Value) (k : ℕ) (l : List ℕ) → D.to_bits a ≡ D.gives l → 65536 < k + length l → stacked k (as_bit a) ≡ D.fails too_long
unfolding stacked as_bit D.unfinished
unstacked a k l e h = rw (e, lt-leb (k + length l) 65536 h)

number_bits : (w : List ℕ) (u : ℕ) (x : Value) (z : Fixed) → x ≡ Number z → D.to_bits (value_in w u x) ≡ D.gives (D.binary 17 (nat_abs z.value))
unfolding value_in D.to_bits
number_bits w u x z e = rw e

number_size : (x : Value) (z : Fixed) → x ≡ Number z → size_for x ≡ 0
unfolding size_for
number_size x z e = rw e

number_bit_size : (x : Value) (z : Fixed) → x ≡ Number z → bit_size x ≡ 17
unfolding bit_size
number_bit_size x z e = rw e

bits_put_size : (u : ℕ) (x : Value) (z : Fixed) → x ≡ Number z → length (bits_put u x) ≤ 17
unfolding bits_put
bits_put_size u x z e = rw e (go (leb (u + length (D.binary 17 (nat_abs z.value))) 65536))
  where
    go : (t : Bool) → length (cond t (D.binary 17 (nat_abs z.value)) []) ≤ 17
    go true = let i : length (D.binary 17 (nat_abs z.value)) ≡ 17 = length_binary 17 (nat_abs z.value) in omega arith
    go false = omega arith

number_same : (w w' : List ℕ) (u : ℕ) (x : Value) (z : Fixed) → x ≡ Number z → value_in w u x ≡ value_in w' u x
unfolding value_in
number_same w w' u x z e = rw e

-- what was given has the size of its bits
given_size : (w : List ℕ) (u k : ℕ) (x : Value) (w' : List ℕ) (v : Value) → D.gives (value_in w' u v) ≡ stacked k (as_bit (value_in w u x)) → size_for v ≡ bit_size x
given_size w u k x w' v e =
    let q = bits_at (value_in w u x) k u w' v e in
    sym (length_part (size_for v) u w') ∙ bits_size w u x (part (size_for v) u w') q.bits

module _ (w : List ℕ) (u : ℕ) (x : Value) (m : ℕ) (z : Fixed) (e : x ≡ Number z) (k : ℕ) (p : k ≡ top_of u m) (t : Bool) (q : t ≡ leb (k + 17) 65536) where
  place : Ready w u (size_for x + m) → k ≡ u + m
  place h = p ∙ top_in_lem u m (omega (arith, h.top))

  pub first_out : t ≡ false → First w u x m w (Err too_long)
  unfolding given_in
  first_out f = record {
    is = λ h.
        let b : leb (u + m + 17) 65536 ≡ false = rw (← place h) (sym q ∙ f) in
        let l = D.binary 17 (nat_abs z.value) in
        let i : length l ≡ 17 = length_binary 17 (nat_abs z.value) in
        sym (unstacked (value_in w u x) (u + m) l (number_bits w u x z e) (omega (arith, i, leb-false (u + m + 17) 65536 b)));
    below = λ h. refl;
    size = λ h. refl;
    second = λ h v f. never _ (cc);
  }

  pub first_number : (w₁ w₂ : List ℕ) (g : Result Value Why) → t ≡ true → Raised w u m 17 w₁ → Made w₁ u (bits_put u x) (stacked u (as_bit (value_in w₁ u x))) w₂ g → First w u x m w₂ g
  unfolding given_in
  first_number w₁ w₂ g f r d = record {
    is = λ h. given h;
    below = λ h. below_over u u w₁ w₂ (bits_put u x) (omega arith) d.wrote ∙ below_over u (u + 17) w w₁ (part m u w) (omega arith) (moved h);
    size = λ h. ap length d.wrote ∙ length_over w₁ u (bits_put u x) ∙ sized h;
    second = λ h v j.
        let s : size_for v ≡ 17 = given_size w u (u + m) x w₂ v (rw j at (given h)) ∙ number_bit_size x z e in
        let o : size_for x ≡ 0 = number_size x z e in
        let a : part m (u + 17) w₂ ≡ part m (u + 17) w₁ = rw d.wrote (part_above m (u + 17) u w₁ (bits_put u x) (put h)) in
        let b : part m (u + 17) w₁ ≡ part m u w = part_written m (u + 17) w w₁ (part m u w) (sym (length_part m u w)) (moved h) (omega (arith, length_part m u w, room h, h.room)) in
        rw (s, o, add-zero) (a ∙ b);
  }
    where
      room : Ready w u (size_for x + m) → u + m + 17 ≤ 65536
      room h = let b : leb (u + m + 17) 65536 ≡ true = rw (← place h) (sym q ∙ f) in leb-true (u + m + 17) 65536 b

      moved : Ready w u (size_for x + m) → w₁ ≡ over w (u + 17) (part m u w)
      moved h = r.is (omega (arith, room h))

      sized : Ready w u (size_for x + m) → length w₁ ≡ length w
      sized h = ap length (moved h) ∙ length_over w (u + 17) (part m u w)

      put : Ready w u (size_for x + m) → u + length (bits_put u x) ≤ u + 17
      put h = omega (arith, bits_put_size u x z e)

      given : Ready w u (size_for x + m) → given_in w₂ u g ≡ stacked (u + m) (as_bit (value_in w u x))
      given h =
          let i : length (D.binary 17 (nat_abs z.value)) ≡ 17 = length_binary 17 (nat_abs z.value) in
          rw (number_same w w₁ u x z e) (d.is (omega (arith, sized h, h.room))
          ∙ restack (value_in w₁ u x) (u + m) u (λ l c.
          let y : length l ≡ 17 = bits_size w₁ u x l c ∙ number_bit_size x z e in
          (omega (arith, room h), omega (arith, room h))))

-- a first side that has its bytes
module _ (w : List ℕ) (u : ℕ) (x : Value) (m : ℕ) (w' : List ℕ) (g : Result Value Why) (d : Made w u (bits_put u x) (stacked u (as_bit (value_in w u x))) w' g) where
  first_bytes : bit_size x ≡ size_for x → bits_put u x ≡ [] → First w u x m w' g
  unfolding given_in
  first_bytes e f = record {
    is = λ h. given h;
    below = λ h. ap (take u) same;
    size = λ h. ap length same;
    second = λ h v j.
        let s : size_for v ≡ size_for x = given_size w u (u + m) x w' v (rw j at (given h)) ∙ e in
        rw (s, same);
  }
    where
      same : w' ≡ w
      same = d.wrote ∙ ap (over w u) f ∙ over_nil w u

      given : Ready w u (size_for x + m) → given_in w' u g ≡ stacked (u + m) (as_bit (value_in w u x))
      given h = d.is h.room ∙ restack (value_in w u x) (u + m) u (λ l c.
          let y : length l ≡ size_for x = bits_size w u x l c ∙ e in
          (omega (arith, h.top), omega (arith, h.top)))

  pub first_has : ((n : ℕ) × (x ≡ Characters n)) ⊎ ((n : ℕ) × (x ≡ Bits n)) → First w u x m w' g
  unfolding bit_size size_for bits_put
  first_has (inl (n, e)) = first_bytes (rw e) (rw e)
  first_has (inr (n, e)) = first_bytes (rw e) (rw e)

-- ---- both sides
value_moved : (w w' : List ℕ) (t t' : ℕ) (y : Value) → part (size_for y) t w ≡ part (size_for y) t' w' → value_in w t y ≡ value_in w' t' y
unfolding value_in size_for
value_moved w w' t t' (Number z) e = refl
value_moved w w' t t' (Characters n) e = ap D.characters e
value_moved w w' t t' (Bits n) e = ap D.bit_value e

longer_most : (n m : ℕ) → longer n m ≤ n + m
unfolding longer
longer_most n m = go (ltb n m)
  where
    go : (t : Bool) → cond t m n ≤ n + m
    go true = omega arith
    go false = omega arith

logical_both : (u : ℕ) (f : Bool → Bool → Bool) (x y : D.Value) (a b : List ℕ) → D.to_bits x ≡ D.gives a → D.to_bits y ≡ D.gives b
    → u + D.size_of y + length a ≤ 65536 → u + length a + length b ≤ 65536 → D.logical u f x y ≡ D.gives (D.bit_value (D.bitwise f a b))
unfolding D.logical D.unfinished
logical_both u f x y a b p q h k = rw (p, le-leb (u + D.size_of y + length a) 65536 h, q, le-leb (u + length a + length b) 65536 k)

logical_second : (u : ℕ) (f : Bool → Bool → Bool) (x y : D.Value) (a : List ℕ) (r : Why) → D.to_bits x ≡ D.gives a
    → u + D.size_of y + length a ≤ 65536 → D.fails r ≡ stacked (u + length a) (as_bit y) → D.logical u f x y ≡ D.fails r
unfolding D.logical D.unfinished stacked as_bit
logical_second u f x y a r p h k = rw (p, le-leb (u + D.size_of y + length a) 65536 h) (go (D.to_bits y) k)
  where
    go2 : (t : Bool) (b : List ℕ) → D.fails r ≡ cond t (D.gives (D.bit_value b)) (D.fails too_long)
        → D.and_then (cond t (D.gives (D.bit_value b)) (D.fails too_long)) (λ _. D.gives (D.bit_value (D.bitwise f a b))) ≡ D.fails r
    go2 true b e = never _ (cc)
    go2 false b e = cc

    go : (t : D.Answer (List ℕ)) → D.fails r ≡ D.and_then (D.and_then t λ l. D.gives (D.bit_value l)) (D.unfinished (u + length a))
        → D.and_then t (λ b. D.and_then (D.unfinished (u + length a) (D.bit_value b)) λ _. D.gives (D.bit_value (D.bitwise f a b))) ≡ D.fails r
    go (D.gives b) e = go2 (leb (u + length a + length b) 65536) b e
    go (D.fails q) e = cc

logical_first : (u : ℕ) (f : Bool → Bool → Bool) (x y : D.Value) (r : Why) → D.fails r ≡ stacked (u + D.size_of y) (as_bit x) → D.logical u f x y ≡ D.fails r
unfolding D.logical D.unfinished stacked as_bit
logical_first u f x y r k = go (D.to_bits x) k
  where
    go2 : (t : Bool) (a : List ℕ) → D.fails r ≡ cond t (D.gives (D.bit_value a)) (D.fails too_long)
        → D.and_then (cond t (D.gives (D.bit_value a)) (D.fails too_long)) (λ _. D.and_then (D.to_bits y) λ b. D.and_then (D.unfinished (u + length a) (D.bit_value b)) λ _. D.gives (D.bit_value (D.bitwise f a b))) ≡ D.fails r
    go2 true a e = never _ (cc)
    go2 false a e = cc

    go : (t : D.Answer (List ℕ)) → D.fails r ≡ D.and_then (D.and_then t λ l. D.gives (D.bit_value l)) (D.unfinished (u + D.size_of y))
        → D.and_then t (λ a. D.and_then (D.unfinished (u + D.size_of y) (D.bit_value a)) λ _. D.and_then (D.to_bits y) λ b. D.and_then (D.unfinished (u + length a) (D.bit_value b)) λ _. D.gives (D.bit_value (D.bitwise f a b))) ≡ D.fails r
    go (D.gives a) e = go2 (leb (u + D.size_of y + length a) 65536) a e
    go (D.fails q) e = cc

module _ (w : List ℕ) (u : ℕ) (o : Logic) (x y : Value) (m : ℕ) (em : m ≡ size_for y) (w₁ : List ℕ) (ga : Result Value Why) (fs : First w u x m w₁ ga) where
  ready : Ready w u (size_for x + size_for y) → Ready w u (size_for x + m)
  ready h = rw em h

  pub logical_none : (r : Why) → ga ≡ Err r → Gave w u (size_for x + size_for y) (stacked u (D.logical u (logic_of o) (value_in w u x) (value_in w (u + size_for x) y))) w₁ (Err r)
  unfolding given_in stacked
  logical_none r e = record {
    so = λ h.
        let Y = value_in w (u + size_for x) y in
        let s : D.size_of Y ≡ m = size_is w (u + size_for x) y ∙ sym em in
        let k : D.fails r ≡ stacked (u + D.size_of Y) (as_bit (value_in w u x)) = rw s (rw e at (fs.is (ready h))) in
        record { is = rw (logical_first u (logic_of o) (value_in w u x) Y r k); below = fs.below (ready h) };
  }

  module _ (first : Value) (e : ga ≡ Ok first) (n : ℕ) (en : n ≡ size_for first) (t : ℕ) (et : t ≡ top_of u n) (w₂ : List ℕ) (gb : Result Value Why)
      (d : Made w₁ t (bits_put t y) (stacked t (as_bit (value_in w₁ t y))) w₂ gb) where
    module _ (h : Ready w u (size_for x + size_for y)) where
      first_bits : BitsAt (value_in w u x) (u + m) u w₁ first
      unfolding given_in
      first_bits = bits_at (value_in w u x) (u + m) u w₁ first (rw e at (fs.is (ready h)))

      fits : u + m + n ≤ 65536
      fits = omega (arith, first_bits.top, en)

      seat : t ≡ u + n
      seat = et ∙ top_in_lem u n (omega (arith, fits))

      a_bits : D.to_bits (value_in w u x) ≡ D.gives (part n u w₁)
      a_bits = rw en first_bits.bits

      moved : value_in w₁ t y ≡ value_in w (u + size_for x) y
      moved = rw (seat, en) (value_moved w₁ w (u + size_for first) (u + size_for x) y (rw em at (fs.second (ready h) first e)))

      sized : D.size_of (value_in w (u + size_for x) y) ≡ m
      sized = size_is w (u + size_for x) y ∙ sym em

      low : take u w₂ ≡ take u w
      low = below_over u t w₁ w₂ (bits_put t y) (omega (arith, seat)) d.wrote ∙ fs.below (ready h)

      given : given_in w₂ t gb ≡ stacked (u + n) (as_bit (value_in w (u + size_for x) y))
      given = rw (← moved, ← seat) (d.is (omega (arith, fs.size (ready h), h.room)))

    pub logical_half : (r : Why) → gb ≡ Err r → Gave w u (size_for x + size_for y) (stacked u (D.logical u (logic_of o) (value_in w u x) (value_in w (u + size_for x) y))) w₂ (Err r)
    unfolding given_in stacked
    logical_half r eb = record {
      so = λ h.
          let Y = value_in w (u + size_for x) y in
          let k : D.fails r ≡ stacked (u + length (part n u w₁)) (as_bit Y) = rw length_part (rw eb at (given h)) in
          let s : u + D.size_of Y + length (part n u w₁) ≤ 65536 = omega (arith, sized h, length_part n u w₁, fits h) in
          record { is = rw (logical_second u (logic_of o) (value_in w u x) Y (part n u w₁) r (a_bits h) s k); below = low h };
    }

    pub logical_is : (second : Value) (k : ℕ) (w₃ : List ℕ) (r : ℕ) → gb ≡ Ok second → k ≡ size_for second
        → Wrote (D.bitwise (logic_of o) (part n u w₂) (part k (u + n) w₂)) w₂ u w₃ r
        → Gave w u (size_for x + size_for y) (stacked u (D.logical u (logic_of o) (value_in w u x) (value_in w (u + size_for x) y))) w₃ (Ok (Bits r))
    unfolding given_in value_in stacked D.unfinished
    logical_is second k w₃ r eb ek d₃ = record {
      so = λ h.
          let X = value_in w u x in
          let Y = value_in w (u + size_for x) y in
          let f = logic_of o in
          let l = D.bitwise f (part n u w₁) (part k (u + n) w₂) in
          let q : BitsAt Y (u + n) t w₂ second = bits_at Y (u + n) t w₂ second (rw eb at (given h)) in
          let b_bits : D.to_bits Y ≡ D.gives (part k (u + n) w₂) = rw (ek, ← seat h) q.bits in
          let top : u + n + k ≤ 65536 = omega (arith, ek, q.top) in
          let low' : take (u + n) w₂ ≡ take (u + n) w₁ = below_over (u + n) t w₁ w₂ (bits_put t y) (omega (arith, seat h)) d.wrote in
          let same : part n u w₂ ≡ part n u w₁ = part_below n u (u + n) w₁ w₂ low' (omega arith) in
          let na : length (part n u w₁) ≡ n = length_part n u w₁ in
          let nb : length (part k (u + n) w₂) ≡ k = length_part k (u + n) w₂ in
          let whole : D.logical u f X Y ≡ D.gives (D.bit_value l) =
          logical_both u f X Y (part n u w₁) (part k (u + n) w₂) (a_bits h) b_bits (omega (arith, sized h, na, fits h)) (omega (arith, na, nb, top)) in
          let wr : w₃ ≡ over w₂ u l = rw same at d₃.is in
          let sz : r ≡ length l = rw same at d₃.size in
          let len : length l ≤ n + k = rw (length_bitwise, na, nb) (longer_most n k) in
          let lw : length w₂ ≡ length w = ap length d.wrote ∙ length_over w₁ t (bits_put t y) ∙ fs.size (ready h) in
          let v : part r u w₃ ≡ l = part_written r u w₂ w₃ l sz wr (omega (arith, len, lw, top, h.room)) in
          let z : leb (u + length l) 65536 ≡ true = le-leb (u + length l) 65536 (omega (arith, len, top)) in
          record { is = rw (whole, z, v); below = below_over u u w₂ w₃ l (omega arith) wr ∙ low h };
    }
