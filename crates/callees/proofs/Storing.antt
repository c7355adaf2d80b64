-- Arguments that wait, values of variables, and how they are stored.
-- Assumes nothing.
use Rattle.fixed.specs.declared.FixedError.TheVariants.{OutOfRange, ZeroDivisor}
use Rattle.fixed.specs.declared.FixedError.{FixedError}
use Rattle.definition.specs.declared.Why.{Why}
use Rattle.std.proofs.Common.{Option, Some, None, Result, Ok, Err}
use Rattle.std.specs.Result.{result_unwrap_or}
use mathlib.Core.Path.{◌≡◌, refl, sym, ap, subst, ◌∙◌}
use mathlib.Core.Bool.{Bool, true, false, cond}
use mathlib.Core.List.{List, [], ◌∷◌}
use mathlib.Core.Logic.{⊎_elim, ◌⊎◌, inl, inr}
use Prim.Native.Nat.{ℕ, zero, suc, ◌+◌, ◌*◌, ◌-◌, ◌%◌, ◌<◌, ◌≤◌}
use native.Mathlib.Nat.{add-zero, zero-add, mod-eq_of_lt}
use native.Mathlib.Numerals.{add-one}
use native.Mathlib.Omega.{arith}
use borrow.Author.Tests.{lt-ltb, le-ltb, leb-true, ltb-true, ltb-false}
use lib.Dec.{leb, ltb, eqb}
use lib.IntN.{ℤ, pos}
use mir.Syntax.{w64}
use mir.Val.{Fits}
use lib.ListN.{length, get_or, set}
use Rattle.definition.specs.Bytes.{mixed}
use Rattle.definition.specs.Lists.{part}
use Rattle.definition.specs.Room.{over}
use Rattle.definition.specs.Fixed as F
use Rattle.definition.specs.Tokens.{token_at}
use Rattle.definition.specs.Values as Val
use Rattle.definition.specs.Evaluate as E
use Rattle.definition.specs.World as W
use Rattle.definition.specs.World.{variable_of, entry_of, label_at, builtin_name, address_of}
use Rattle.definition.proofs.Parts.{length_part}
use Rattle.definition.proofs.Rooms.{length_over, get_d_over_at, get_d_over_low, get_d_over_high}
use Rattle.definition.specs.declared.ValueType.{ValueType}
use Rattle.definition.specs.declared.ValueType.TheVariants.{FixedType, CharacterType}
use Rattle.definition.specs.declared.Why.TheVariants.{NoValue, TooLong, WrongName}
use Rattle.fixed.specs.declared.Fixed.{Fixed}
use Rattle.fixed.specs.Answer.{result_of}
use Rattle.fixed.specs.Signed.{stored_of, from_stored}
use Rattle.fixed.proofs.Magnitude.{stored_back}
use Rattle.store.specs.Cells.{slot, half, character_cell, cell_in, number_cell, LengthAt, Stored}
use Rattle.names.specs.declared.Place.{Place}
use Rattle.operators.specs.declared.Value.{Value}
use Rattle.operators.specs.declared.Value.TheVariants as O
use Rattle.operators.specs.Stands.{size_for, value_in, given_in, among_for, top_of}
use Rattle.operators.proofs.Room.{below_over, top_in_lem}
use Rattle.deck.specs.Answer.{body_in}
use Rattle.callees.specs.declared.Parameter.{Parameter}
use Rattle.callees.specs.declared.Callee.{Callee}
use Rattle.callees.specs.declared.Held.{Held}
use Rattle.callees.specs.Shown.{denotations_from, names_world, cell_as, values_from, Slots, Typed}
use Rattle.callees.specs.Answer.{owner_at, spelled_at, parameter_for, parameter_of, ParameterIs, Names, held_at, number_of, fixed_in, FixedHeld, held_size, held_from, Waiting, HeldIs, VariableIs, ValueStored, store_cells, AllStored}
use Rattle.callees.proofs.Listing.{First, first_of}

-- ---- a number that is held
ranged_is : (z y : ℤ) → F.ranged z ≡ F.is y → F.in_range y ≡ true
unfolding F.ranged
ranged_is z y e = by (F.in_range z) refl e
  where
    by : (b : Bool) → F.in_range z ≡ b → cond b (F.is z) F.out_of_range ≡ F.is y → F.in_range y ≡ true
    by true f g = let h : z ≡ y = cc in rw (← h) f
    by false f g = absurd (let z : ◌≡◌ {A = ℕ} 0 1 = cc in omega arith)

module _ (h : Held) (i n : ℕ) (x : Result Fixed FixedError) (e : n ≡ held_at h i) (f : result_of x ≡ from_stored n) where
  fixed_is : fixed_in h i ≡ number_of (result_of x)
  unfolding fixed_in
  fixed_is = rw (← e, ← f)

  held_or : (y : Result Fixed FixedError) → x ≡ y → FixedHeld h i (result_unwrap_or y (record { value = pos 0 }))
  unfolding from_stored F.in_range
  held_or (Ok m) g = record { is = sym (fixed_is ∙ rw g); small = ranged_is _ m.value (sym f ∙ rw g) }
  held_or (Err OutOfRange) g = record { is = sym (fixed_is ∙ rw g); small = refl }
  held_or (Err ZeroDivisor) g = record { is = sym (fixed_is ∙ rw g); small = refl }

  pub fixed_or_zero : (r : Fixed) → r ≡ result_unwrap_or x (record { value = pos 0 }) → FixedHeld h i r
  fixed_or_zero r g = rw g (held_or x refl)

pub value_number : (h : Held) (i : ℕ) (t : ValueType) (x : Fixed) → t ≡ FixedType → FixedHeld h i x → HeldIs h i t (O.Number x)
unfolding value_in size_for
value_number h i t x e f = rw e record { is = λ w u. ap Val.fixed f.is; size = refl; typed = λ _. f.small }

pub value_text : (h : Held) (i : ℕ) (t : ValueType) (n : ℕ) → t ≡ CharacterType → n ≡ held_at h i → HeldIs h i t (O.Characters n)
unfolding value_in size_for
value_text h i t n e f = rw e record { is = λ w u. rw f; size = f; typed = λ k. rw f k }

-- ---- bytes over a room
part_is : (xs w : List ℕ) (u : ℕ) → ((i : ℕ) → i < length xs → get_or w (u + i) 0 ≡ get_or xs i 0) → part (length xs) u w ≡ xs
part_is [] w u h = refl
part_is (x ∷ xs) w u h =
    let e : get_or w u 0 ≡ x = rw add-zero at (h 0 (omega arith)) in
    let f : part (length xs) (suc u) w ≡ xs = part_is xs w (suc u) (λ i k. let g : u + suc i ≡ suc u + i = omega arith in rw g at (h (suc i) (omega (arith, k)))) in
    rw (e, f)

part_back : (w xs : List ℕ) (u n : ℕ) → n ≡ length xs → u + n ≤ length w → part n u (over w u xs) ≡ xs
part_back w xs u n e h = rw e (part_is xs (over w u xs) u (λ i k. get_d_over_at w u i xs k (omega (arith, k, h, e))))

part_low : (w xs : List ℕ) (u n at : ℕ) → at + n ≤ u → part n at (over w u xs) ≡ part n at w
part_low w xs u zero at h = refl
part_low w xs u (suc n) at h = rw (get_d_over_low w u at xs (omega arith), part_low w xs u n (suc at) (omega arith))

part_high : (w xs : List ℕ) (u n at : ℕ) → u + length xs ≤ at → part n at (over w u xs) ≡ part n at w
part_high w xs u zero at h = refl
part_high w xs u (suc n) at h = rw (get_d_over_high w u at xs h, part_high w xs u n (suc at) (omega arith))

lt_or_gt : (a b : ℕ) → (a ≡ b → ⊥) → (a < b) ⊎ (b < a)
lt_or_gt a b h = by (ltb a b) refl
  where
    by : (v : Bool) → ltb a b ≡ v → (a < b) ⊎ (b < a)
    by true e = inl (ltb-true a b e)
    by false e = inr (omega (arith, ltb-false a b e, h))

-- ---- reading a variable
among_part : (w w' : List ℕ) (u n : ℕ) (xs : List ℕ) → w' ≡ over w u xs → length xs ≡ n → 65536 ≤ length w → given_in w' u (among_for u (O.Characters n)) ≡ Val.unfinished u (Val.characters xs)
unfolding among_for size_for given_in value_in Val.unfinished
among_part w w' u n xs e f h = rw f (by (leb (u + n) 65536) refl)
  where
    by : (b : Bool) → leb (u + n) 65536 ≡ b → given_in w' u (cond b (Ok (O.Characters n)) (Err TooLong)) ≡ cond b (Val.gives (Val.characters xs)) (Val.fails TooLong)
    by true g = let k : part n u w' ≡ xs = rw e (part_back w xs u n (sym f) (omega (arith, leb-true (u + n) 65536 g, h))) in rw k
    by false g = refl

module _ (c l h w : List ℕ) (a u : ℕ) (t : ValueType) where
  number_cell_lem : (x : Option Fixed) → number_cell x ≡ cell_in c [] [] FixedType a → number_cell x ≡ cell_in c l h FixedType a
  unfolding cell_in
  number_cell_lem x e = e

  among_number : (x : Fixed) → u ≤ 65536 → Val.gives (Val.fixed x.value) ≡ Val.unfinished u (Val.fixed x.value)
  unfolding Val.unfinished
  among_number x k = let b : leb (u + 0) 65536 ≡ true = borrow.Author.Tests.le-leb (u + 0) 65536 (omega arith) in rw b

  module _ (e : t ≡ FixedType) (x : Option Fixed) (f : number_cell x ≡ cell_in c [] [] FixedType a) where
    pub variable_number : (n : Fixed) → x ≡ Some n → VariableIs c l h w a t u w (Ok (O.Number n))
    unfolding given_in value_in
    variable_number n g = record { is = λ _ k. rw (e, ← number_cell_lem x f, g) (among_number n k); below = refl }

    pub variable_none : x ≡ None → VariableIs c l h w a t u w (Err NoValue)
    unfolding given_in value_in
    variable_none g = record { is = λ _ k. rw (e, ← number_cell_lem x f, g); below = refl }

  module _ (e : t ≡ CharacterType) (x : Option ℕ) (f : LengthAt c a x) where
    pub variable_empty : x ≡ None → VariableIs c l h w a t u w (Err NoValue)
    unfolding given_in value_in
    variable_empty g = record { is = λ _ k. rw (e, ← f.is l h, g); below = refl }

    pub variable_text : (n : ℕ) → x ≡ Some n → (w' : List ℕ) → w' ≡ over w u (part n (slot a) (half a l h)) → (r : Result Value Why) → r ≡ among_for u (O.Characters n) → VariableIs c l h w a t u w' r
    variable_text n g w' i r j = record {
      is = λ z k. rw (e, ← f.is l h, g, j) (among_part w w' u n (part n (slot a) (half a l h)) i (length_part n (slot a) (half a l h)) z);
      below = below_over u u w w' (part n (slot a) (half a l h)) (omega arith) i;
    }

pub ruleset variables = (variable_number, variable_none, variable_empty, variable_text)

-- ---- storing
values_same : (ds : List W.Denotation) (b : ℕ) (c l h c' l' h' : List ℕ)
    → ((i j : ℕ) (t : ValueType) → j ≡ b + i → get_or ds i builtin_name ≡ variable_of t → cell_in c' l' h' t j ≡ cell_in c l h t j)
    → values_from ds b c' l' h' ≡ values_from ds b c l h
unfolding values_from
values_same [] b c l h c' l' h' s = refl
values_same (d ∷ ds) b c l h c' l' h' s =
    let f : values_from ds (suc b) c' l' h' ≡ values_from ds (suc b) c l h = values_same ds (suc b) c l h c' l' h' (λ i j t e. s (suc i) j t (omega (arith, e))) in
    rw (f, by d refl)
  where
    by : (x : W.Denotation) → d ≡ x → cell_as d b c' l' h' ≡ cell_as d b c l h
    by (variable_of t) e = rw e (s 0 b t (omega arith) e)
    by (entry_of x y) e = rw e
    by (label_at m r x) e = rw e
    by builtin_name e = rw e

values_set : (ds : List W.Denotation) (b i₀ a : ℕ) (x : W.Cell) (t₀ : ValueType) (c l h c' l' h' : List ℕ)
    → ((i j : ℕ) (t : ValueType) → j ≡ b + i → get_or ds i builtin_name ≡ variable_of t → (j ≡ a → ⊥) → cell_in c' l' h' t j ≡ cell_in c l h t j)
    → cell_in c' l' h' t₀ a ≡ x → a ≡ b + i₀ → get_or ds i₀ builtin_name ≡ variable_of t₀
    → values_from ds b c' l' h' ≡ set (values_from ds b c l h) i₀ x
unfolding values_from
values_set [] b i₀ a x t₀ c l h c' l' h' s y e f = refl
values_set (d ∷ ds) b zero a x t₀ c l h c' l' h' s y e f =
    let k : values_from ds (suc b) c' l' h' ≡ values_from ds (suc b) c l h = values_same ds (suc b) c l h c' l' h' (λ i j t g m. s (suc i) j t (omega (arith, g)) m (λ q. omega (arith, q, g, e))) in
    let q : a ≡ b = omega (arith, e) in
    let z : cell_as d b c' l' h' ≡ x = rw (f, ← q) y in
    rw (k, z)
values_set (d ∷ ds) b (suc i₀) a x t₀ c l h c' l' h' s y e f =
    let k : values_from ds (suc b) c' l' h' ≡ set (values_from ds (suc b) c l h) i₀ x = values_set ds (suc b) i₀ a x t₀ c l h c' l' h' (λ i j t g. s (suc i) j t (omega (arith, g))) y (omega (arith, e)) f in
    rw (k, by d refl)
  where
    by : (v : W.Denotation) → d ≡ v → cell_as d b c' l' h' ≡ cell_as d b c l h
    by (variable_of t) g = rw g (s 0 b t (omega arith) g (λ q. omega (arith, q, e)))
    by (entry_of v w) g = rw g
    by (label_at m r v) g = rw g
    by builtin_name g = rw g

get_d_other : (c : List ℕ) (a j y : ℕ) → (j ≡ a → ⊥) → get_or (over c a (y ∷ [])) j 0 ≡ get_or c j 0
get_d_other c a j y n = ⊎_elim (λ l. get_d_over_low c a j (y ∷ []) l) (λ g. get_d_over_high c a j (y ∷ []) (omega (arith, g))) (lt_or_gt j a n)

get_d_here : (c : List ℕ) (a y : ℕ) → a < length c → get_or (over c a (y ∷ [])) a 0 ≡ y
get_d_here c a y h = rw add-zero at (get_d_over_at c a 0 (y ∷ []) (omega arith) (omega arith))

in_list_lem : (ds : List W.Denotation) (a : ℕ) (t : ValueType) → get_or ds a builtin_name ≡ variable_of t → a < length ds
in_list_lem [] a t e = absurd (let z : ◌≡◌ {A = ℕ} 0 1 = cc in omega arith)
in_list_lem (d ∷ ds) zero t e = omega arith
in_list_lem (d ∷ ds) (suc a) t e = omega (arith, in_list_lem ds a t e)

-- a number
module _ (c l h w : List ℕ) (a u : ℕ) (v : Value) (x : Fixed) (e : v ≡ O.Number x) (c' : List ℕ) (f : c' ≡ over c (a + 0) (stored_of x.value ∷ [])) where
  f₀ : c' ≡ over c a (stored_of x.value ∷ [])
  f₀ = rw add-zero at f

  number_other : (j : ℕ) (t : ValueType) → (j ≡ a → ⊥) → cell_in c' l h t j ≡ cell_in c l h t j
  unfolding cell_in
  number_other j FixedType n = rw (f₀, get_d_other c a j (stored_of x.value) n)
  number_other j CharacterType n = rw (f₀, get_d_other c a j (stored_of x.value) n)

  number_here : a < length c → F.in_range x.value ≡ true → cell_in c' l h FixedType a ≡ W.holds (Val.fixed x.value)
  unfolding cell_in
  number_here k r = rw (f₀, get_d_here c a (stored_of x.value) k, stored_back x.value r)

  module _ (ds : List W.Denotation) (s : Slots ds c l h) where
    number_values : (t : ValueType) → get_or ds a builtin_name ≡ variable_of t → Typed t (O.Number x) → values_from ds 0 c' l h ≡ set (values_from ds 0 c l h) a (W.holds (Val.fixed x.value))
    number_values CharacterType g k = absurd k
    number_values FixedType g k = values_set ds 0 a a (W.holds (Val.fixed x.value)) FixedType c l h c' l h (λ i j t o m n. number_other j t n) (number_here (omega (arith, in_list_lem ds a FixedType g, s.cells)) k) (omega arith) g

    number_slots : (t : ValueType) → get_or ds a builtin_name ≡ variable_of t → Typed t (O.Number x) → Slots ds c' l h
    number_slots CharacterType g k = absurd k
    number_slots FixedType g k = record {
      few = s.few;
      cells = rw f₀ (rw length_over s.cells);
      low = s.low;
      high = s.high;
      short = λ j q. rw (f₀, get_d_other c a j (stored_of x.value) (λ r. let y : variable_of FixedType ≡ variable_of CharacterType = sym g ∙ rw r at q in let z : ◌≡◌ {A = ℕ} 0 1 = cc in omega arith)) (s.short j q);
    }

  pub stored_number : ValueStored c l h w a u v c' l h
  unfolding value_in
  stored_number = rw e record { is = λ ds t s g k. number_values ds s t g k; slots = λ ds t s g k. number_slots ds s t g k }

-- bits are never stored
pub stored_bits : (c l h w : List ℕ) (a u : ℕ) (v : Value) (n : ℕ) → v ≡ O.Bits n → (c' l' h' : List ℕ) → ValueStored c l h w a u v c' l' h'
stored_bits c l h w a u v n e c' l' h' = rw e record { is = λ ds t s g k. absurd (no t k); slots = λ ds t s g k. absurd (no t k) }
  where
    no : (t : ValueType) → Typed t (O.Bits n) → ⊥
    no FixedType k = k
    no CharacterType k = k

-- characters: two slots of a room do not meet
slots_apart : (r xs : List ℕ) (x y n : ℕ) → (y ≡ x → ⊥) → length xs ≤ 512 → n ≤ 512 → part n (512 * y) (over r (512 * x) xs) ≡ part n (512 * y) r
slots_apart r xs x y n d h k =
    ⊎_elim (λ l. part_low r xs (512 * x) n (512 * y) (omega (arith, l, k))) (λ g. part_high r xs (512 * x) n (512 * y) (omega (arith, g, h))) (lt_or_gt y x d)

module _ (c l h : List ℕ) (a : ℕ) (xs c' l' h' : List ℕ) (size : length xs ≤ 512) (st : Stored c l h a xs c' l' h') where
  half_other : (j n : ℕ) → (j ≡ a → ⊥) → n ≤ 512 → part n (slot j) (half j l' h') ≡ part n (slot j) (half j l h)
  half_other j n d k = rw (st.low, st.high) (by (ltb a 128) (ltb j 128) refl refl)
    where
      by : (p q : Bool) → ltb a 128 ≡ p → ltb j 128 ≡ q → part n (512 * cond q j (j - 128)) (cond q (cond p (over l (512 * cond p a (a - 128)) xs) l) (cond p h (over h (512 * cond p a (a - 128)) xs))) ≡ part n (512 * cond q j (j - 128)) (cond q l h)
      by true true e f = slots_apart l xs a j n d size k
      by true false e f = refl
      by false true e f = refl
      by false false e f = slots_apart h xs (a - 128) (j - 128) n (λ m. d (omega (arith, m, ltb-false a 128 e, ltb-false j 128 f))) size k

  text_other : (j : ℕ) (t : ValueType) → (j ≡ a → ⊥) → (t ≡ CharacterType → get_or c j 0 ≤ 513) → cell_in c' l' h' t j ≡ cell_in c l h t j
  unfolding cell_in
  text_other j FixedType d k = rw (st.cell, get_d_other c a j (length xs + 1) d)
  text_other j CharacterType d k = rw (st.cell, get_d_other c a j (length xs + 1) d) (by (get_or c j 0) (k refl))
    where
      by : (m : ℕ) → m ≤ 513 → character_cell m (slot j) (half j l' h') ≡ character_cell m (slot j) (half j l h)
      by zero q = refl
      by (suc m) q = rw (half_other j m d (omega arith))

  half_here : a < 256 → 65536 ≤ length l → 65536 ≤ length h → part (length xs) (slot a) (half a l' h') ≡ xs
  half_here k y z = rw (st.low, st.high) (by (ltb a 128) refl)
    where
      by : (p : Bool) → ltb a 128 ≡ p → part (length xs) (512 * cond p a (a - 128)) (cond p (cond p (over l (512 * cond p a (a - 128)) xs) l) (cond p h (over h (512 * cond p a (a - 128)) xs))) ≡ xs
      by true e = part_back l xs (512 * a) (length xs) refl (omega (arith, ltb-true a 128 e, size, y))
      by false e = part_back h xs (512 * (a - 128)) (length xs) refl (omega (arith, ltb-false a 128 e, size, z, k))

  text_here : a < length c → a < 256 → 65536 ≤ length l → 65536 ≤ length h → cell_in c' l' h' CharacterType a ≡ W.holds (Val.characters xs)
  unfolding cell_in
  text_here i k y z = rw (st.cell, get_d_here c a (length xs + 1) i, add-one, half_here k y z)

  half_length : (65536 ≤ length l → 65536 ≤ length l') × (65536 ≤ length h → 65536 ≤ length h')
  half_length = rw (st.low, st.high) (by (ltb a 128))
    where
      by : (p : Bool) → (65536 ≤ length l → 65536 ≤ length (cond p (over l (slot a) xs) l)) × (65536 ≤ length h → 65536 ≤ length (cond p h (over h (slot a) xs)))
      by true = (λ k. rw length_over k, λ k. k)
      by false = (λ k. k, λ k. rw length_over k)

  module _ (ds : List W.Denotation) (s : Slots ds c l h) (g : get_or ds a builtin_name ≡ variable_of CharacterType) where
    within : a < length ds
    within = in_list_lem ds a CharacterType g

    text_values : values_from ds 0 c' l' h' ≡ set (values_from ds 0 c l h) a (W.holds (Val.characters xs))
    text_values = values_set ds 0 a a (W.holds (Val.characters xs)) CharacterType c l h c' l' h'
        (λ i j t o m n. let q : i ≡ j = omega (arith, o) in text_other j t n (λ r. s.short j (rw (← q, ← r) m)))
        (text_here (omega (arith, within, s.cells)) (omega (arith, within, s.few)) s.low s.high) (omega arith) g

    text_short : (j : ℕ) → get_or ds j builtin_name ≡ variable_of CharacterType → get_or c' j 0 ≤ 513
    text_short j q = rw st.cell (by (eqb j a) refl)
      where
        by : (b : Bool) → eqb j a ≡ b → get_or (over c a ((length xs + 1) ∷ [])) j 0 ≤ 513
        by true e = let r : j ≡ a = borrow.Author.Tests.eqb-true j a e in rw (r, get_d_here c a (length xs + 1) (omega (arith, within, s.cells))) (omega (arith, size))
        by false e = rw (get_d_other c a j (length xs + 1) (borrow.Author.Tests.eqb-false j a e)) (s.short j q)

    text_slots : Slots ds c' l' h'
    text_slots = record {
      few = s.few;
      cells = rw (st.cell, length_over) s.cells;
      low = half_length.0 s.low;
      high = half_length.1 s.high;
      short = text_short;
    }

module _ (c l h w : List ℕ) (a u : ℕ) (v : Value) (n : ℕ) (e : v ≡ O.Characters n) (c' l' h' : List ℕ) (st : Stored c l h a (part (n % 65536) u w) c' l' h') where
  small : n ≤ 512 → n % 65536 ≡ n
  small k = mod-eq_of_lt (omega (arith, k))

  st_small : n ≤ 512 → Stored c l h a (part n u w) c' l' h'
  st_small k = rw (small k) at st

  sized : n ≤ 512 → length (part n u w) ≤ 512
  sized k = rw length_part k

  text_is : (ds : List W.Denotation) (t : ValueType) → Slots ds c l h → get_or ds a builtin_name ≡ variable_of t → Typed t (O.Characters n) → values_from ds 0 c' l' h' ≡ set (values_from ds 0 c l h) a (W.holds (Val.characters (part n u w)))
  text_is ds FixedType s g k = absurd k
  text_is ds CharacterType s g k = text_values c l h a (part n u w) c' l' h' (sized k) (st_small k) ds s g

  text_kept : (ds : List W.Denotation) (t : ValueType) → Slots ds c l h → get_or ds a builtin_name ≡ variable_of t → Typed t (O.Characters n) → Slots ds c' l' h'
  text_kept ds FixedType s g k = absurd k
  text_kept ds CharacterType s g k = text_slots c l h a (part n u w) c' l' h' (sized k) (st_small k) ds s g

  pub stored_text : ValueStored c l h w a u v c' l' h'
  unfolding value_in
  stored_text = rw e record { is = text_is; slots = text_kept }

-- ---- all arguments
abbrev pub param : ValueType → ℕ → E.Parameter
param t a = record { at = a; type = t }

param_denotes : (d t : List ℕ) (n : ℕ) (p : Place) (l : List ℕ) (q : E.Parameter) → parameter_of d t n p l ≡ Val.gives q → get_or (denotations_from t 0 n) q.at builtin_name ≡ variable_of q.type
unfolding names_world
param_denotes d t n p l q e = by (address_of l (owner_at p) (names_world d t n)) e
  where
    as' : (a : ℕ) (x : W.Denotation) → get_or (denotations_from t 0 n) a builtin_name ≡ x → E.parameter_as x a ≡ Val.gives q → get_or (denotations_from t 0 n) q.at builtin_name ≡ variable_of q.type
    as' a (variable_of v) f g = let h : record { at = a; type = v } ≡ q = cc in rw (← h) f
    as' a (entry_of x y) f g = absurd (let z : ◌≡◌ {A = ℕ} 0 1 = cc in omega arith)
    as' a (label_at m r x) f g = absurd (let z : ◌≡◌ {A = ℕ} 0 1 = cc in omega arith)
    as' a builtin_name f g = absurd (let z : ◌≡◌ {A = ℕ} 0 1 = cc in omega arith)

    by : (x : W.Address) → E.parameter_at x (names_world d t n) ≡ Val.gives q → get_or (denotations_from t 0 n) q.at builtin_name ≡ variable_of q.type
    by (W.address a) f = as' a (get_or (denotations_from t 0 n) a builtin_name) refl f
    by W.unknown f = absurd (let z : ◌≡◌ {A = ℕ} 0 1 = cc in omega arith)

-- what is left to store
module _ (d t : List ℕ) (n : ℕ) (y : Callee) (s : List ℕ) (k : Held) (w c₀ l₀ h₀ : List ℕ) (u : ℕ) where
  abbrev ds : List W.Denotation
  ds = denotations_from t 0 n

  abbrev asking : List (List ℕ) → Val.Answer (List E.Parameter)
  asking ns = E.parameters (owner_at y.place) ns (names_world d t n)

  pub record Left (ps : List E.Parameter) (i at top : ℕ) (c l h : List ℕ) : Type 0 where
    pub names : List (List ℕ)
    pub rest : List E.Parameter
    pub slots : Slots ds c l h
    pub listed : Names s names at
    pub asked : asking names ≡ Val.gives rest
    pub total : i + length rest ≡ y.count
    pub waiting : Waiting k i top rest
    pub same : store_cells rest (held_from w k i top rest) (values_from ds 0 c l h) ≡ store_cells ps (held_from w k 0 u ps) (values_from ds 0 c₀ l₀ h₀)

  pub record Storing (i at top : ℕ) (c l h : List ℕ) : Type 0 where
    pub low : i ≤ y.count
    pub whole : Fits w64 y.count
    pub cells_size : length c ≡ length c₀
    pub low_size : length l ≡ length l₀
    pub high_size : length h ≡ length h₀
    pub is : (ns : List (List ℕ)) (ps : List E.Parameter) → Slots ds c₀ l₀ h₀ → Names s ns y.list → asking ns ≡ Val.gives ps → y.count ≡ length ps → Waiting k 0 u ps → Left ps i at top c l h

  pub storing_start : Fits w64 y.count → Storing 0 y.list u c₀ l₀ h₀
  storing_start f = record {
    low = omega arith;
    whole = f;
    cells_size = refl;
    low_size = refl;
    high_size = refl;
    is = λ ns ps sl nm ak co wa. record { names = ns; rest = ps; slots = sl; listed = nm; asked = ak; total = rw zero-add (sym co); waiting = wa; same = refl };
  }

  done_by : (ps qs : List E.Parameter) (i at top : ℕ) (c l h : List ℕ) → i + length qs ≡ y.count → y.count ≤ i → store_cells qs (held_from w k i top qs) (values_from ds 0 c l h) ≡ store_cells ps (held_from w k 0 u ps) (values_from ds 0 c₀ l₀ h₀) → values_from ds 0 c l h ≡ store_cells ps (held_from w k 0 u ps) (values_from ds 0 c₀ l₀ h₀)
  unfolding held_from
  done_by ps [] i at top c l h e f g = g
  done_by ps (q ∷ qs) i at top c l h e f g = absurd (omega (arith, e, f))

  module _ (i at top : ℕ) (c l h : List ℕ) (st : Storing i at top c l h) where
    pub storing_done : s ≡ body_in d y.place.member → y.count ≤ i → AllStored d t c₀ l₀ h₀ w n y k u c l h
    storing_done e f = record { is = λ ns ps sl nm ak co wa. let r : Left ps i at top c l h = st.is ns ps sl (rw e nm) ak co wa in (done_by ps r.rest i at top c l h r.total f r.same, r.slots) }

    module _ (o : i < y.count) (x : Option Parameter) (pi : ParameterIs d s t n y.place at x) where
      first_asked : (l : List ℕ) → l ≡ spelled_at s at → parameter_of d t n y.place l ≡ parameter_for x
      first_asked l e = rw e (sym pi.is)

      wrong_by : x ≡ None → (ns : List (List ℕ)) (qs : List E.Parameter) → Names s ns at → asking ns ≡ Val.gives qs → i + length qs ≡ y.count → ⊥
      unfolding E.parameters
      wrong_by f ns [] nm ak e = omega (arith, e, o)
      wrong_by f [] (q ∷ qs) nm ak e = let z : ◌≡◌ {A = ℕ} 0 1 = cc in omega arith
      wrong_by f (m ∷ ns) (q ∷ qs) nm ak e =
          let g : parameter_of d t n y.place m ≡ Val.fails WrongName = first_asked m (first_of s m ns at nm).spelled ∙ rw f in
          let j : ◌≡◌ {A = Val.Answer (List E.Parameter)} (Val.fails WrongName) (Val.gives (q ∷ qs)) = rw g at ak in
          let z : ◌≡◌ {A = ℕ} 0 1 = cc in omega arith

      pub storing_wrong : s ≡ body_in d y.place.member → x ≡ None → AllStored d t c₀ l₀ h₀ w n y k u c l h
      storing_wrong e f = record { is = λ ns ps sl nm ak co wa. let r : Left ps i at top c l h = st.is ns ps sl (rw e nm) ak co wa in absurd (wrong_by f r.names r.rest r.listed r.asked r.total) }

      module _ (z : Parameter) (f : x ≡ Some z) (v : Value) (hv : HeldIs k i z.value_type v) (c' l' h' : List ℕ) (vs : ValueStored c l h w z.address top v c' l' h') (m top' : ℕ) (em : m ≡ size_for v) (et : top' ≡ top_of top m) where
        abbrev q₀ : E.Parameter
        q₀ = record { at = z.address; type = z.value_type }

        z_to : z.to ≡ (token_at mixed s (token_at mixed s at).to).to
        z_to =
            let g : Some z ≡ Some (record { address = z.address; value_type = z.value_type; to = (token_at mixed s (token_at mixed s at).to).to }) = rw f at pi.to in
            let j : z ≡ record { address = z.address; value_type = z.value_type; to = (token_at mixed s (token_at mixed s at).to).to } = cc in
            ap (λ (a : Parameter). a.to) j

        and_gives : (a : Val.Answer (List E.Parameter)) (q : E.Parameter) (qs : List E.Parameter) → Val.and_then a (λ ps. Val.gives (q₀ ∷ ps)) ≡ Val.gives (q ∷ qs) → (a ≡ Val.gives qs) × (q₀ ≡ q)
        and_gives (Val.gives ps) q qs e = let g : ps ≡ qs = cc in let j : q₀ ≡ q = cc in (ap Val.gives g, j)
        and_gives (Val.fails w) q qs e = absurd (let z : ◌≡◌ {A = ℕ} 0 1 = cc in omega arith)

        asked_first : (a : List ℕ) (ns : List (List ℕ)) (q : E.Parameter) (qs : List E.Parameter) → a ≡ spelled_at s at → asking (a ∷ ns) ≡ Val.gives (q ∷ qs) → (asking ns ≡ Val.gives qs) × (q₀ ≡ q)
        unfolding E.parameters
        asked_first a ns q qs e g = let j : parameter_of d t n y.place a ≡ Val.gives q₀ = first_asked a e ∙ rw f in and_gives (asking ns) q qs (rw j at g)

        top_is : top + held_size k i z.value_type ≤ 65536 → top' ≡ top + held_size k i z.value_type
        top_is b = let g : m ≡ held_size k i z.value_type = em ∙ hv.size in et ∙ ap (top_of top) g ∙ top_in_lem top (held_size k i z.value_type) b

        next_by : (ps : List E.Parameter) (ns : List (List ℕ)) (qs : List E.Parameter) → Slots ds c l h → Names s ns at → asking ns ≡ Val.gives qs → i + length qs ≡ y.count → Waiting k i top qs
            → store_cells qs (held_from w k i top qs) (values_from ds 0 c l h) ≡ store_cells ps (held_from w k 0 u ps) (values_from ds 0 c₀ l₀ h₀) → Left ps (i + 1) z.to top' c' l' h'
        unfolding held_from E.parameters
        next_by ps ns [] sl nm ak e wa sa = absurd (omega (arith, e, o))
        next_by ps [] (q ∷ qs) sl nm ak e wa sa = absurd (let z : ◌≡◌ {A = ℕ} 0 1 = cc in omega arith)
        next_by ps (a ∷ ns) (q ∷ qs) sl nm ak e wa sa =
            let fi : First s a ns at = first_of s a ns at nm in
            let in' : (asking ns ≡ Val.gives qs) × (q₀ ≡ q) = asked_first a ns q qs fi.spelled ak in
            let wq : Waiting k i top (q₀ ∷ qs) = subst (λ (j : E.Parameter). Waiting k i top (j ∷ qs)) (sym in'.1) wa in
            let sq : store_cells (q₀ ∷ qs) (held_from w k i top (q₀ ∷ qs)) (values_from ds 0 c l h) ≡ store_cells ps (held_from w k 0 u ps) (values_from ds 0 c₀ l₀ h₀) = subst (λ (j : E.Parameter). store_cells (j ∷ qs) (held_from w k i top (j ∷ qs)) (values_from ds 0 c l h) ≡ store_cells ps (held_from w k 0 u ps) (values_from ds 0 c₀ l₀ h₀)) (sym in'.1) sa in
            let dn : get_or ds z.address builtin_name ≡ variable_of z.value_type = param_denotes d t n y.place a q₀ (first_asked a fi.spelled ∙ rw f) in
            let ty : Typed z.value_type v = hv.typed wq.0 in
            let tp : top' ≡ top + held_size k i z.value_type = top_is wq.1 in
            record {
              names = ns;
              rest = qs;
              slots = vs.slots ds z.value_type sl dn ty;
              listed = rw z_to fi.others;
              asked = in'.0;
              total = omega (arith, e);
              waiting = rw (tp, add-one) wq.2;
              same = rw (tp, add-one, vs.is ds z.value_type sl dn ty, hv.is w top) sq;
            }

        pub storing_more : length c' ≡ length c → length l' ≡ length l → length h' ≡ length h → Storing (i + 1) z.to top' c' l' h'
        storing_more a b e = record {
          low = omega arith;
          whole = st.whole;
          cells_size = a ∙ st.cells_size;
          low_size = b ∙ st.low_size;
          high_size = e ∙ st.high_size;
          is = λ ns ps sl nm ak co wa. let r : Left ps i at top c l h = st.is ns ps sl nm ak co wa in next_by ps r.names r.rest r.slots r.listed r.asked r.total r.waiting r.same;
        }
