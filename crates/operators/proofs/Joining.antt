-- The operators on two sides: `||`, and all of them.
-- Assumes nothing.
use Rattle.std.proofs.Common.{Result, Ok, Err}
use mathlib.Core.Path.{◌≡◌, refl, sym, ap, ◌∙◌}
use mathlib.Core.Bool.{Bool, true, false, cond}
use mathlib.Core.List.{List, [], ◌++◌, append-nil}
use Prim.Native.Nat.{ℕ, ◌+◌, ◌≤◌}
use native.Mathlib.Nat.{add-zero}
use native.Mathlib.Omega.{arith}
use borrow.Author.Tests.{leb-true, leb-false}
use lib.Dec.{leb}
use lib.ListN.{length, length-append}
use Rattle.definition.specs.Limits.{fixed_width}
use Rattle.definition.specs.Lists.{part}
use Rattle.definition.specs.Room.{over}
use Rattle.definition.specs.declared.Why.{Why}
use Rattle.definition.specs.declared.Why.TheVariants.{TooLong as too_long}
use Rattle.definition.specs.Values as D
use Rattle.definition.proofs.Parts.{length_part, part_append}
use Rattle.definition.proofs.Ranges.{text_wide}
use Rattle.definition.proofs.Rooms.{over_nil, over_next, over_under}
use Rattle.fixed.specs.declared.Fixed.{Fixed}
use Rattle.operators.specs.declared.Value.{Value}
use Rattle.operators.specs.declared.Value.TheVariants.{Number, Characters, Bits}
use Rattle.operators.specs.Stands.{value_in, given_in, size_for, stacked, Ready, Stood, Gave, top_of, among_for, limited_for}
use Rattle.operators.specs.Sides.{Raised, text_size, number_text, first_text, WroteFirst, both_bits, joined_value}
use Rattle.operators.proofs.Room.{part_written, below_over, over_self, over_behind, top_in_lem, top_out}
use Rattle.operators.proofs.Texts.{never}

-- ---- the bytes of a side as CHARACTER
pub digits_written : (w : List ℕ) (u : ℕ) (v : Value) (x : Fixed) (w' : List ℕ) → v ≡ Number x → w' ≡ over w u (D.fixed_text x.value) → w' ≡ over w u (number_text v)
unfolding number_text
digits_written w u v x w' e f = rw e f

pub nothing_written : (w : List ℕ) (u : ℕ) (v : Value) → ((x : Fixed) → v ≡ Number x → ⊥) → w ≡ over w u (number_text v)
unfolding number_text
nothing_written w u (Number x) h = absurd (h x refl)
nothing_written w u (Characters n) h = sym (over_nil w u)
nothing_written w u (Bits n) h = sym (over_nil w u)

pub first_written : (w : List ℕ) (u m : ℕ) (v : Value) (x : Fixed) (w₁ w₂ : List ℕ) → v ≡ Number x
    → Raised w u m fixed_width w₁ → w₂ ≡ over w₁ u (D.fixed_text x.value) → WroteFirst w u m v w₂
unfolding first_text text_size
first_written w u m v x w₁ w₂ e g h = rw e (record {
  is = λ l.
      let c : w₁ ≡ over w (u + fixed_width) (part m u w) = g.is l in
      h ∙ rw c (over_under w u fixed_width (D.fixed_text x.value) (part m u w) (sym (text_wide x.value)));
})

pub first_stays : (w : List ℕ) (u m : ℕ) (v : Value) → ((x : Fixed) → v ≡ Number x → ⊥) → WroteFirst w u m v w
unfolding first_text
first_stays w u m (Number x) h = absurd (h x refl)
first_stays w u m (Characters n) h = record { is = λ l. sym (over_nil w u) }
first_stays w u m (Bits n) h = record { is = λ l. sym (over_nil w u) }

-- ---- `||`
abbrev kind_of : Bool → List ℕ → D.Value
kind_of true l = D.bit_value l
kind_of false l = D.characters l

kind_size : (b : Bool) (l : List ℕ) → D.size_of (kind_of b l) ≡ length l
kind_size true l = refl
kind_size false l = refl

kind_value : (b : Bool) (w : List ℕ) (u n : ℕ) → value_in w u (cond b (Bits n) (Characters n)) ≡ kind_of b (part n u w)
unfolding value_in
kind_value true w u n = refl
kind_value false w u n = refl

value_size : (b : Bool) (n : ℕ) → size_for (cond b (Bits n) (Characters n)) ≡ n
unfolding size_for
value_size true n = refl
value_size false n = refl

text_length : (w : List ℕ) (u : ℕ) (v : Value) → length (D.to_characters (value_in w u v)) ≡ text_size v
unfolding value_in D.to_characters text_size
text_length w u (Number x) = text_wide x.value
text_length w u (Characters n) = length_part n u w
text_length w u (Bits n) = length_part n u w

joined_as : (w : List ℕ) (u t : ℕ) (x y : Value)
    → D.joined (value_in w u x) (value_in w t y) ≡ D.limited (kind_of (both_bits x y) (D.to_characters (value_in w u x) ++ D.to_characters (value_in w t y)))
unfolding D.joined value_in both_bits D.to_characters
joined_as w u t (Number a) (Number b) = refl
joined_as w u t (Number a) (Characters m) = refl
joined_as w u t (Number a) (Bits m) = refl
joined_as w u t (Characters n) (Number b) = refl
joined_as w u t (Characters n) (Characters m) = refl
joined_as w u t (Characters n) (Bits m) = refl
joined_as w u t (Bits n) (Number b) = refl
joined_as w u t (Bits n) (Characters m) = refl
joined_as w u t (Bits n) (Bits m) = refl

-- the two tests, in the code and in the definition
limited_code : (u n m s : ℕ) (x y : Value) → s ≡ top_of n m
    → limited_for u (joined_value x y s) ≡ cond (leb (n + m) 512) (cond (leb (u + (n + m)) 65536) (Ok (joined_value x y (n + m))) (Err too_long)) (Err too_long)
unfolding limited_for among_for joined_value
limited_code u n m s x y e = rw value_size (go (leb (n + m) 512) refl (leb (n + m) 65536) refl)
  where
    go : (a : Bool) → leb (n + m) 512 ≡ a → (b : Bool) → leb (n + m) 65536 ≡ b
        → cond (leb s 512) (cond (leb (u + s) 65536) (Ok (cond (both_bits x y) (Bits s) (Characters s))) (Err too_long)) (Err too_long)
        ≡ cond a (cond (leb (u + (n + m)) 65536) (Ok (cond (both_bits x y) (Bits (n + m)) (Characters (n + m)))) (Err too_long)) (Err too_long)
    go true p b q = let t : s ≡ n + m = e ∙ top_in_lem n m (omega (arith, leb-true (n + m) 512 p)) in rw (t, p)
    go false p true q = let t : s ≡ n + m = e ∙ top_in_lem n m (leb-true (n + m) 65536 q) in rw (t, p)
    go false p false q = let t : s ≡ 65536 = e ∙ top_out n m (leb-false (n + m) 65536 q) in rw t

limited_defined : (u n : ℕ) (b : Bool) (l : List ℕ) → length l ≡ n
    → stacked u (D.limited (kind_of b l)) ≡ cond (leb n 512) (cond (leb (u + n) 65536) (D.gives (kind_of b l)) (D.fails too_long)) (D.fails too_long)
unfolding stacked D.limited D.unfinished
limited_defined u n b l e = rw (← e, ← kind_size b l) (go (leb (D.size_of (kind_of b l)) 512))
  where
    go : (t : Bool) → D.and_then (cond t (D.gives (kind_of b l)) (D.fails too_long)) (D.unfinished u)
        ≡ cond t (cond (leb (u + D.size_of (kind_of b l)) 65536) (D.gives (kind_of b l)) (D.fails too_long)) (D.fails too_long)
    go true = refl
    go false = refl

-- the room when both sides are written
both : (w : List ℕ) (u n m : ℕ) → over (over w u []) (u + n) [] ≡ over w u (part n u w ++ part m (u + n) w)
both w u n m = over_nil (over w u []) (u + n) ∙ over_nil w u ∙ sym (over_self (n + m) u w) ∙ ap (over w u) (part_append n m u w)

joined_room : (w : List ℕ) (u : ℕ) (x y : Value)
    → over (over w u (first_text w u (size_for y) x)) (u + text_size x) (number_text y) ≡ over w u (D.to_characters (value_in w u x) ++ D.to_characters (value_in w (u + size_for x) y))
unfolding first_text size_for text_size number_text value_in D.to_characters
joined_room w u (Number a) (Number b) = rw (append-nil, ← text_wide a.value) (over_next w u (D.fixed_text a.value) (D.fixed_text b.value))
joined_room w u (Number a) (Characters m) = rw add-zero (over_nil (over w u (D.fixed_text a.value ++ part m u w)) (u + fixed_width))
joined_room w u (Number a) (Bits m) = rw add-zero (over_nil (over w u (D.fixed_text a.value ++ part m u w)) (u + fixed_width))
joined_room w u (Characters n) (Number b) = rw over_nil (over_behind n u w (D.fixed_text b.value))
joined_room w u (Characters n) (Characters m) = both w u n m
joined_room w u (Characters n) (Bits m) = both w u n m
joined_room w u (Bits n) (Number b) = rw over_nil (over_behind n u w (D.fixed_text b.value))
joined_room w u (Bits n) (Characters m) = both w u n m
joined_room w u (Bits n) (Bits m) = both w u n m

module _ (w : List ℕ) (u : ℕ) (x y : Value) (n m s : ℕ) (en : n ≡ text_size x) (em : m ≡ text_size y) (es : s ≡ top_of n m) (j : Value) (ej : j ≡ joined_value x y s)
    (g : Result Value Why) (eg : g ≡ limited_for u j) where
  abbrev whole : List ℕ
  whole = D.to_characters (value_in w u x) ++ D.to_characters (value_in w (u + size_for x) y)

  size : length whole ≡ n + m
  size = length-append (D.to_characters (value_in w u x)) (D.to_characters (value_in w (u + size_for x) y)) ∙ rw (text_length, text_length, en, em)

  code : g ≡ cond (leb (n + m) 512) (cond (leb (u + (n + m)) 65536) (Ok (joined_value x y (n + m))) (Err too_long)) (Err too_long)
  code = eg ∙ rw ej (limited_code u n m s x y es)

  defined : stacked u (D.joined (value_in w u x) (value_in w (u + size_for x) y))
      ≡ cond (leb (n + m) 512) (cond (leb (u + (n + m)) 65536) (D.gives (kind_of (both_bits x y) whole)) (D.fails too_long)) (D.fails too_long)
  defined = ap (stacked u) (joined_as w u (u + size_for x) x y) ∙ limited_defined u (n + m) (both_bits x y) whole size

  pub joined_none : (e : Why) → g ≡ Err e → Gave w u (size_for x + size_for y) (stacked u (D.joined (value_in w u x) (value_in w (u + size_for x) y))) w (Err e)
  unfolding given_in
  joined_none e f = record { so = λ h. record { is = rw defined (go (leb (n + m) 512) (leb (u + (n + m)) 65536) (sym f ∙ code)); below = refl } }
    where
      go : (a b : Bool) → Err e ≡ cond a (cond b (Ok (joined_value x y (n + m))) (Err too_long)) (Err too_long)
          → D.fails e ≡ cond a (cond b (D.gives (kind_of (both_bits x y) whole)) (D.fails too_long)) (D.fails too_long)
      go true true c = never _ (cc)
      go true false c = let d : e ≡ too_long = cc in rw d
      go false b c = let d : e ≡ too_long = cc in rw d

  pub joined_is : (v : Value) (k : ℕ) (w₁ : List ℕ) (t : ℕ) (w₂ : List ℕ) → g ≡ Ok v → k ≡ size_for y → WroteFirst w u k x w₁ → t ≡ top_of u n
      → w₂ ≡ over w₁ t (number_text y) → Gave w u (size_for x + size_for y) (stacked u (D.joined (value_in w u x) (value_in w (u + size_for x) y))) w₂ (Ok v)
  unfolding given_in joined_value
  joined_is v k w₁ t w₂ f ek d et ew = record { so = λ h. rw defined (go (leb (n + m) 512) refl (leb (u + (n + m)) 65536) refl (sym f ∙ code) h) }
    where
      go : (a : Bool) → leb (n + m) 512 ≡ a → (b : Bool) → leb (u + (n + m)) 65536 ≡ b → Ok v ≡ cond a (cond b (Ok (joined_value x y (n + m))) (Err too_long)) (Err too_long)
          → Ready w u (size_for x + size_for y)
          → Stood w u (cond a (cond b (D.gives (kind_of (both_bits x y) whole)) (D.fails too_long)) (D.fails too_long)) w₂ (Ok v)
      go true p true q c h =
          let top : u + (n + m) ≤ 65536 = leb-true (u + (n + m)) 65536 q in
          let is : v ≡ joined_value x y (n + m) = cc in
          let place : t ≡ u + text_size x = et ∙ top_in_lem u n (omega (arith, top)) ∙ rw en in
          let first : w₁ ≡ over w u (first_text w u (size_for y) x) = rw ek at (d.is (omega (arith, top, en))) in
          let all : w₂ ≡ over w u whole = ew ∙ rw (first, place) (joined_room w u x y) in
          let bytes : part (n + m) u w₂ ≡ whole = part_written (n + m) u w w₂ whole (sym size) all (omega (arith, top, size, h.room)) in
          record {
            is = rw is (ap (λ (r : D.Value). D.gives r) (kind_value (both_bits x y) w₂ u (n + m) ∙ ap (kind_of (both_bits x y)) bytes));
            below = below_over u u w w₂ whole (omega arith) all;
          }
      go true p false q c h = never _ (cc)
      go false p b q c h = never _ (cc)
