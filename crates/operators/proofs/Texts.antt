-- The conversions where a value stands, and what goes on with bits.
-- Assumes nothing.
use Rattle.std.proofs.Common.{Result, Ok, Err}
use mathlib.Core.Path.{◌≡◌, refl, sym, ap, ◌∙◌}
use mathlib.Core.Bool.{Bool, true, false, cond}
use mathlib.Core.Logic.{◌⊎◌, inl, inr}
use mathlib.Core.List.{List}
use Prim.Native.Nat.{ℕ, zero, suc, ◌+◌, ◌≤◌}
use native.Mathlib.Omega.{arith}
use borrow.Author.Tests.{le-leb, leb-true}
use lib.Dec.{leb}
use lib.IntN.{nat_abs}
use lib.ListN.{length, take}
use Rattle.definition.specs.Limits.{fixed_width}
use Rattle.definition.specs.Lists.{part, all}
use Rattle.definition.specs.Room.{over}
use Rattle.definition.specs.Tokens.{is_bit}
use Rattle.definition.specs.declared.Why.{Why}
use Rattle.definition.specs.declared.Why.TheVariants.{TooLong as too_long, NoConversion as no_conversion}
use Rattle.definition.specs.declared.ValueType.TheVariants.{CharacterType}
use Rattle.definition.specs.declared.Prefix.{Prefix}
use Rattle.definition.specs.declared.Prefix.TheVariants.{Positive, Negative, Complement}
use Rattle.definition.specs.Values as D
use Rattle.definition.specs.Fixed as F
use Rattle.definition.proofs.Parts.{length_part}
use Rattle.definition.proofs.Ranges.{text_wide}
use Rattle.definition.proofs.Rooms.{length_over, over_nil}
use Rattle.fixed.specs.declared.Fixed.{Fixed}
use Rattle.fixed.specs.declared.FixedError.{FixedError}
use Rattle.fixed.specs.Answer.{result_of, why_of}
use Rattle.values.proofs.Bits.{length_inverted}
use Rattle.operators.specs.declared.Value.{Value}
use Rattle.operators.specs.declared.Value.TheVariants.{Number, Characters, Bits}
use Rattle.operators.specs.Stands.{value_in, given_in, number_for, truth_for, size_for, stacked, Ready, Gave, Told, Made, among_for, as_bit, as_subject, text_put, bits_put}
use Rattle.operators.proofs.Room.{part_written, below_over}
use Rattle.operators.proofs.Answers.{among_is, wrong_is, gave_number, gave_wrong, made_gave}

-- ---- to CHARACTER
module _ (w : List ℕ) (u : ℕ) (v : Value) (x : Fixed) (e : v ≡ Number x) (t : Bool) (g : t ≡ leb (u + fixed_width) 65536) where
  abbrev text : List ℕ
  text = D.fixed_text x.value

  test : leb (u + length text) 65536 ≡ t
  test = rw (text_wide x.value) (sym g)

  pub text_in_lem : (w' : List ℕ) → t ≡ true → w' ≡ over w u (D.fixed_text x.value)
      → Made w u (text_put u v) (stacked u (D.convert CharacterType (value_in w u v))) w' (Ok (Characters fixed_width))
  unfolding text_put value_in given_in stacked D.convert D.to_characters D.unfinished
  text_in_lem w' h m =
      let b : leb (u + length text) 65536 ≡ true = test ∙ h in
      rw e (record {
        wrote = rw b m;
        is = λ room. rw (b, part_written fixed_width u w w' text (sym (text_wide x.value)) m (omega (arith, leb-true (u + length text) 65536 b)));
      })

  pub text_out_lem : t ≡ false → Made w u (text_put u v) (stacked u (D.convert CharacterType (value_in w u v))) w (Err too_long)
  unfolding text_put value_in given_in stacked D.convert D.to_characters D.unfinished
  text_out_lem h =
      let b : leb (u + length text) 65536 ≡ false = test ∙ h in
      rw e (record { wrote = rw b (sym (over_nil w u)); is = λ room. rw b })

module _ (w : List ℕ) (u : ℕ) (v : Value) (n : ℕ) (g : Result Value Why) where
  pub text_bytes : (v ≡ Characters n) ⊎ (v ≡ Bits n) → g ≡ among_for u (Characters n) → Made w u (text_put u v) (stacked u (D.convert CharacterType (value_in w u v))) w g
  unfolding text_put value_in stacked D.convert D.to_characters
  text_bytes (inl e) f = rw (e, f) (record { wrote = sym (over_nil w u); is = λ room. among_is w u (Characters n) })
  text_bytes (inr e) f = rw (e, f) (record { wrote = sym (over_nil w u); is = λ room. among_is w u (Characters n) })

-- ---- to BIT
pub length_binary : (k n : ℕ) → length (D.binary k n) ≡ k
unfolding D.binary
length_binary zero n = refl
length_binary (suc k) n = ap suc (length_binary k n)

module _ (w : List ℕ) (u : ℕ) (v : Value) (x : Fixed) (e : v ≡ Number x) (t : Bool) (g : t ≡ leb (u + 17) 65536) where
  pub bits_in : (w' : List ℕ) → t ≡ true → w' ≡ over w u (D.binary 17 (nat_abs x.value))
      → Made w u (bits_put u v) (stacked u (as_bit (value_in w u v))) w' (Ok (Bits 17))
  unfolding bits_put value_in given_in stacked as_bit D.to_bits D.unfinished
  bits_in w' h m =
      let l = D.binary 17 (nat_abs x.value) in
      let z : length l ≡ 17 = length_binary 17 (nat_abs x.value) in
      let b : leb (u + length l) 65536 ≡ true = rw z (sym g ∙ h) in
      rw e (record {
        wrote = rw b m;
        is = λ room. rw (b, part_written 17 u w w' l (sym z) m (omega (arith, leb-true (u + length l) 65536 b)));
      })

  pub bits_out : t ≡ false → Made w u (bits_put u v) (stacked u (as_bit (value_in w u v))) w (Err too_long)
  unfolding bits_put value_in given_in stacked as_bit D.to_bits D.unfinished
  bits_out h =
      let l = D.binary 17 (nat_abs x.value) in
      let b : leb (u + length l) 65536 ≡ false = rw (length_binary 17 (nat_abs x.value)) (sym g ∙ h) in
      rw e (record { wrote = rw b (sym (over_nil w u)); is = λ room. rw b })

module _ (w : List ℕ) (u : ℕ) (v : Value) (n : ℕ) where
  pub bits_characters : (t : Bool) (g : Result Value Why) → v ≡ Characters n → t ≡ all is_bit (part n u w) → t ≡ true → g ≡ among_for u (Bits n)
      → Made w u (bits_put u v) (stacked u (as_bit (value_in w u v))) w g
  unfolding bits_put value_in stacked as_bit D.to_bits
  bits_characters t g e f h k =
      let b : all is_bit (part n u w) ≡ true = sym f ∙ h in
      rw (e, k) (record { wrote = sym (over_nil w u); is = λ room. rw b (among_is w u (Bits n)) })

  pub bits_wrong : (t : Bool) → v ≡ Characters n → t ≡ all is_bit (part n u w) → t ≡ false
      → Made w u (bits_put u v) (stacked u (as_bit (value_in w u v))) w (Err no_conversion)
  unfolding bits_put value_in given_in stacked as_bit D.to_bits
  bits_wrong t e f h =
      let b : all is_bit (part n u w) ≡ false = sym f ∙ h in
      rw e (record { wrote = sym (over_nil w u); is = λ room. rw b })

  pub bits_bits : (g : Result Value Why) → v ≡ Bits n → g ≡ among_for u (Bits n) → Made w u (bits_put u v) (stacked u (as_bit (value_in w u v))) w g
  unfolding bits_put value_in stacked as_bit D.to_bits
  bits_bits g e k = rw (e, k) (record { wrote = sym (over_nil w u); is = λ room. among_is w u (Bits n) })

-- a value that stands for what was made BIT: it is the bits that stand there
pub record BitsAt (a : D.Value) (k u : ℕ) (w : List ℕ) (x : Value) : Type 0 where
  pub kind : x ≡ Bits (size_for x)
  pub bits : D.to_bits a ≡ D.gives (part (size_for x) u w)
  pub top : k + size_for x ≤ 65536

pub never : (A : Type 0) → ◌≡◌ {A = ℕ} 0 1 → A
never A e = absurd (omega arith)

same_bits : (u n : ℕ) (w l : List ℕ) → D.bit_value (part n u w) ≡ D.bit_value l → part n u w ≡ l
same_bits u n w l e = cc

of_bits : (a : D.Value) (k u : ℕ) (w : List ℕ) (x : Value) (l : List ℕ) → D.to_bits a ≡ D.gives l → k + length l ≤ 65536
    → value_in w u x ≡ D.bit_value l → BitsAt a k u w x
unfolding value_in size_for
of_bits a k u w (Number x) l e h f = never _ (cc)
of_bits a k u w (Characters n) l e h f = never _ (cc)
of_bits a k u w (Bits n) l e h f =
    let g : part n u w ≡ l = same_bits u n w l f in
    let z : n ≡ length l = sym (length_part n u w) ∙ ap length g in
    record { kind = refl; bits = e ∙ ap (λ (t : List ℕ). D.gives t) (sym g); top = omega arith }

pub bits_at : (a : D.Value) (k u : ℕ) (w : List ℕ) (x : Value) → D.gives (value_in w u x) ≡ stacked k (as_bit a) → BitsAt a k u w x
unfolding stacked as_bit D.unfinished
bits_at a k u w x e = go (D.to_bits a) refl e
  where
    go2 : (l : List ℕ) (t : Bool) → D.to_bits a ≡ D.gives l → leb (k + length l) 65536 ≡ t
        → D.gives (value_in w u x) ≡ cond t (D.gives (D.bit_value l)) (D.fails too_long) → BitsAt a k u w x
    go2 l true f g h = of_bits a k u w x l f (leb-true (k + length l) 65536 g) (cc)
    go2 l false f g h = never _ (cc)

    go : (b : D.Answer (List ℕ)) → D.to_bits a ≡ b → D.gives (value_in w u x) ≡ D.and_then (D.and_then b λ l. D.gives (D.bit_value l)) (D.unfinished k) → BitsAt a k u w x
    go (D.gives l) f g = go2 l (leb (k + length l) 65536) f refl g
    go (D.fails y) f g = never _ (cc)

-- ---- SUBSTR's subject
pub subject_number : (w : List ℕ) (u n : ℕ) (v : Value) (x : Fixed) (l w' : List ℕ) (g : Result Value Why) → v ≡ Number x
    → Made w u l (stacked u (D.convert CharacterType (value_in w u v))) w' g → Gave w u n (stacked u (as_subject (value_in w u v))) w' g
unfolding as_subject value_in D.convert D.to_characters
subject_number w u n v x l w' g e m = rw e (made_gave w u n l _ w' g (rw e at m))

pub subject_bytes : (w : List ℕ) (u n : ℕ) (v : Value) (g : Result Value Why) → ((k : ℕ) × (v ≡ Characters k)) ⊎ ((k : ℕ) × (v ≡ Bits k)) → g ≡ among_for u v
    → Gave w u n (stacked u (as_subject (value_in w u v))) w g
unfolding as_subject value_in stacked
subject_bytes w u n v g (inl (k, e)) f = rw (e, f, e) (record { so = λ h. record { is = among_is w u (Characters k); below = refl } })
subject_bytes w u n v g (inr (k, e)) f = rw (e, f, e) (record { so = λ h. record { is = among_is w u (Bits k); below = refl } })

-- ---- IF: the digits of a value that was made BIT, and was put among those that wait
abbrev bits_hold : D.Value → D.Answer Bool
bits_hold (D.fixed z) = D.gives false
bits_hold (D.characters l) = D.gives (D.any_one l)
bits_hold (D.bit_value l) = D.gives (D.any_one l)

holds_stacked : (u : ℕ) (a : D.Value) → D.and_then (stacked u (as_bit a)) bits_hold ≡ D.holds u a
unfolding D.holds stacked as_bit D.unfinished
holds_stacked u a = made (D.to_bits a)
  where
    fitting : (t : Bool) (l : List ℕ) → D.and_then (cond t (D.gives (D.bit_value l)) (D.fails too_long)) bits_hold ≡ D.and_then (cond t (D.gives (D.bit_value l)) (D.fails too_long)) (λ _. D.gives (D.any_one l))
    fitting true l = refl
    fitting false l = refl

    made : (b : D.Answer (List ℕ)) → D.and_then (D.and_then (D.and_then b λ l. D.gives (D.bit_value l)) (D.unfinished u)) bits_hold ≡ D.and_then b (λ l. D.and_then (D.unfinished u (D.bit_value l)) λ _. D.gives (D.any_one l))
    made (D.gives l) = fitting (leb (u + length l) 65536) l
    made (D.fails e) = refl

-- ---- what follows a value that was made BIT
module _ (w : List ℕ) (u n : ℕ) (l : List ℕ) (a : D.Value) (w₁ : List ℕ) (b : Result Value Why) (m : Made w u l (stacked u (as_bit a)) w₁ b) where
  found : (x : Value) → b ≡ Ok x → Ready w u n → D.gives (value_in w₁ u x) ≡ stacked u (as_bit a)
  unfolding given_in
  found x e h = rw e at (m.is h.room)

  lost : (y : Why) → b ≡ Err y → Ready w u n → D.fails y ≡ stacked u (as_bit a)
  unfolding given_in
  lost y e h = rw e at (m.is h.room)

  under : take u w₁ ≡ take u w
  under = below_over u u w w₁ l (omega arith) m.wrote

  pub holds_is : (x : Value) (k : ℕ) (t : Bool) → b ≡ Ok x → k ≡ size_for x → t ≡ D.any_one (part k u w₁) → Told w u n (D.holds u a) w₁ (Ok t)
  unfolding truth_for value_in
  holds_is x k t e f g = record {
    is = λ h.
        let q = bits_at a u u w₁ x (found x e h) in
        held x k t q f g ∙ ap (λ z. D.and_then z bits_hold) (found x e h) ∙ holds_stacked u a;
    below = λ h. under;
  }
    where
      held : (x : Value) (k : ℕ) (t : Bool) → BitsAt a u u w₁ x → k ≡ size_for x → t ≡ D.any_one (part k u w₁) → D.gives t ≡ bits_hold (value_in w₁ u x)
      held x k t q f g = rw (q.kind, ← f, g)

  pub holds_not : (y : Why) → b ≡ Err y → Told w u n (D.holds u a) w₁ (Err y)
  unfolding truth_for
  holds_not y e = record { is = λ h. ap (λ z. D.and_then z bits_hold) (lost y e h) ∙ holds_stacked u a; below = λ h. under }

  pub complement_is : (o : Prefix) (x : Value) (k : ℕ) (w₂ : List ℕ) → o ≡ Complement → b ≡ Ok x → k ≡ size_for x → w₂ ≡ over w₁ u (D.inverted (part k u w₁))
      → Gave w u n (stacked u (D.prefixed o a)) w₂ (Ok x)
  unfolding D.prefixed stacked D.unfinished given_in value_in
  complement_is o x k w₂ c e f g = record {
    so = λ h.
        let q = bits_at a u u w₁ x (found x e h) in
        let s : length w₁ ≡ length w = ap length m.wrote ∙ length_over w u l in
        let i : length (D.inverted (part k u w₁)) ≡ k = length_inverted (part k u w₁) ∙ length_part k u w₁ in
        let z : leb (u + length (D.inverted (part k u w₁))) 65536 ≡ true = le-leb (u + length (D.inverted (part k u w₁))) 65536 (omega (arith, i, f, q.top)) in
        let y : part k u w₂ ≡ D.inverted (part k u w₁) = part_written k u w₁ w₂ (D.inverted (part k u w₁)) (sym i) g (omega (arith, i, f, q.top, s, h.room)) in
        record { is = rw (c, q.kind, q.bits, ← f, z, y); below = below_over u u w₁ w₂ (D.inverted (part k u w₁)) (omega arith) g ∙ under };
  }

  pub complement_not : (o : Prefix) (y : Why) → o ≡ Complement → b ≡ Err y → Gave w u n (stacked u (D.prefixed o a)) w₁ (Err y)
  unfolding D.prefixed stacked as_bit given_in D.unfinished
  complement_not o y c e = record { so = λ h. record { is = rw c (go (D.to_bits a) (lost y e h)); below = under } }
    where
      go : (t : D.Answer (List ℕ)) → D.fails y ≡ D.and_then (D.and_then t λ r. D.gives (D.bit_value r)) (D.unfinished u) → D.fails y ≡ D.and_then (D.and_then t λ r. D.gives (D.bit_value (D.inverted r))) (D.unfinished u)
      go (D.gives r) f = rw length_inverted (none (leb (u + length r) 65536) r f)
        where
          none : (t : Bool) (r : List ℕ) → D.fails y ≡ cond t (D.gives (D.bit_value r)) (D.fails too_long) → D.fails y ≡ cond t (D.gives (D.bit_value (D.inverted r))) (D.fails too_long)
          none true r f = never _ (cc)
          none false r f = f
      go (D.fails q) f = f

-- ---- signs
module _ (w : List ℕ) (u n : ℕ) (o : Prefix) (a : D.Value) (x : Fixed) (f : number_for (Ok x) ≡ D.to_fixed a) where
  pub prefix_positive : o ≡ Positive → Gave w u n (stacked u (D.prefixed o a)) w (Ok (Number x))
  unfolding D.prefixed number_for
  prefix_positive e = rw e (gave_number w u n x _ (rw (← f)))

  pub prefix_negative : (y : Fixed) → o ≡ Negative → result_of (Ok y) ≡ F.negative x.value → Gave w u n (stacked u (D.prefixed o a)) w (Ok (Number y))
  unfolding D.prefixed number_for
  prefix_negative y e g = rw e (gave_number w u n y _ (rw (← f, ← g)))

  pub prefix_out : (r : FixedError) → o ≡ Negative → result_of (Err r) ≡ F.negative x.value → Gave w u n (stacked u (D.prefixed o a)) w (Err (why_of r))
  unfolding D.prefixed number_for
  prefix_out r e g = rw e (gave_wrong w u n (why_of r) _ (rw (← f, ← g, wrong_is)))

module _ (w : List ℕ) (u n : ℕ) (o : Prefix) (a : D.Value) (y : Why) (f : number_for (Err y) ≡ D.to_fixed a) where
  pub positive_wrong : o ≡ Positive → Gave w u n (stacked u (D.prefixed o a)) w (Err y)
  unfolding D.prefixed number_for
  positive_wrong e = rw e (gave_wrong w u n y _ (rw (← f)))

  pub negative_wrong : o ≡ Negative → Gave w u n (stacked u (D.prefixed o a)) w (Err y)
  unfolding D.prefixed number_for
  negative_wrong e = rw e (gave_wrong w u n y _ (rw (← f)))
