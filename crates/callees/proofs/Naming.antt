-- What a name means in the world of the names' table, and parameters.
-- Assumes nothing.
use Rattle.std.proofs.Common.{Option, Some, None}
use mathlib.Core.Path.{◌≡◌, refl, sym, ap, ◌∙◌}
use mathlib.Core.Bool.{Bool, true, false, cond}
use mathlib.Core.List.{List, [], ◌∷◌}
use Prim.Native.Nat.{ℕ, zero, suc, ◌+◌, ◌-◌, ◌<◌}
use native.Mathlib.Nat.{add-zero, zero-add}
use native.Mathlib.Omega.{arith}
use borrow.Author.Tests.{ne_eqb}
use lib.Dec.{eqb}
use lib.ListN.{length, get_or}
use Rattle.definition.specs.Bytes.{mixed, folded}
use Rattle.definition.specs.Choice.{when}
use Rattle.definition.specs.Lists.{part, same}
use Rattle.definition.specs.Text.{bytes_of}
use Rattle.definition.specs.Values as Val
use Rattle.definition.specs.World as W
use Rattle.definition.specs.World.{address_in, is_identifier, seen_from, or_global, address_of}
use Rattle.definition.specs.Evaluate as E
use Rattle.definition.proofs.Folded.{length_folded}
use Rattle.definition.proofs.Parts.{length_part, same_length}
use Rattle.definition.specs.declared.ValueType.{ValueType}
use Rattle.tokens.specs.declared.Lexeme.{Lexeme}
use Rattle.tokens.specs.Answer.{Lexed}
use Rattle.names.specs.declared.Address.{Address}
use Rattle.names.specs.declared.Place.{Place}
use Rattle.names.specs.declared.Entry.{Entry}
use Rattle.names.specs.declared.Label.{Label}
use Rattle.names.specs.declared.Owner.{Owner}
use Rattle.names.specs.declared.Owner.TheVariants.{Procedure}
use Rattle.names.specs.declared.Denotation.TheVariants.{Variable, EntryName, LabelName, Builtin}
use Rattle.names.specs.declared.Name.{Name}
use Rattle.names.specs.Table.{owner_of, denotation_of, name_in, identifiers_from, found_for, or_else, seen_in}
use Rattle.callees.specs.declared.Meant.{Meant}
use Rattle.callees.specs.declared.Meant.TheVariants.{AVariable, AnEntry, TheSubstr, NoSuch}
use Rattle.callees.specs.Shown.{denotations_from, names_world}
use Rattle.callees.specs.Answer.{meant_for, owner_at, spelled_at, parameter_of, ParameterIs}

-- ---- SUBSTR
pub substr_six : (s : List ℕ) (from n : ℕ) (r : Bool) → n ≡ 6 → r ≡ same (folded mixed (part 6 from s)) (83 ∷ 85 ∷ 66 ∷ 83 ∷ 84 ∷ 82 ∷ []) → r ≡ E.is_substr (folded mixed (part n from s))
unfolding E.is_substr
substr_six s from n r e f = f ∙ rw e

pub substr_other : (s : List ℕ) (from n : ℕ) → (n ≡ 6 → ⊥) → eqb n 6 ≡ E.is_substr (folded mixed (part n from s))
unfolding E.is_substr
substr_other s from n h = ne_eqb n 6 h ∙ same_length (folded mixed (part n from s)) (bytes_of "SUBSTR") (λ e. h (sym (length_folded mixed (part n from s) ∙ length_part n from s) ∙ e))

-- ---- addresses are numbers of the table
ids_length : (d t : List ℕ) (a n : ℕ) → length (identifiers_from d t a n) ≡ n
unfolding identifiers_from
ids_length d t a zero = refl
ids_length d t a (suc n) = ap suc (ids_length d t (suc a) n)

address_low : (l : List ℕ) (k : W.Owner) (b : ℕ) (is : List W.Identifier) (a : ℕ) → address_in l k b is ≡ W.address a → a < b + length is
unfolding address_in
address_low l k b [] a e = absurd (let z : ◌≡◌ {A = ℕ} 0 1 = cc in omega arith)
address_low l k b (i ∷ is) a e = by (is_identifier l k i) (λ g. address_low l k (suc b) is a g) e
  where
    by : (v : Bool) → (address_in l k (suc b) is ≡ W.address a → a < suc b + length is) → when v (λ _. W.address b) (λ _. address_in l k (suc b) is) ≡ W.address a → a < b + length (i ∷ is)
    by true f g = let h : b ≡ a = cc in omega arith
    by false f g = omega (arith, f g)

pub denotations_length : (t : List ℕ) (a n : ℕ) → length (denotations_from t a n) ≡ n
unfolding denotations_from
denotations_length t a zero = refl
denotations_length t a (suc n) = ap suc (denotations_length t (suc a) n)

denotations_at : (t : List ℕ) (b n i : ℕ) → i < n → get_or (denotations_from t b n) i W.builtin_name ≡ denotation_of (name_in t (b + i)).denotation
unfolding denotations_from
denotations_at t b zero i h = absurd (omega arith)
denotations_at t b (suc n) zero h = rw add-zero
denotations_at t b (suc n) (suc i) h = let e : b + suc i ≡ suc b + i = omega arith in rw e (denotations_at t (suc b) n i (omega arith))

-- ---- the table's world
module _ (d t : List ℕ) (n : ℕ) where
  abbrev here : W.World
  here = names_world d t n

  pub address_is : (l : List ℕ) (k : W.Owner) → address_of l k here ≡ address_in l k 0 (identifiers_from d t 0 n)
  unfolding names_world
  address_is l k = refl

  or_global_lem : (x : W.Address) (l : List ℕ) → or_global x l here ≡ or_else x (address_in l W.everyone 0 (identifiers_from d t 0 n))
  unfolding names_world
  or_global_lem (W.address a) l = refl
  or_global_lem W.unknown l = refl

  seen_is : (l : List ℕ) (k : W.Owner) → seen_from k l here ≡ seen_in d t n l k
  unfolding seen_from names_world
  seen_is l k = or_global_lem (address_in l k 0 (identifiers_from d t 0 n)) l

  pub denotation_is : (a : ℕ) → a < n → W.denotation a here ≡ denotation_of (name_in t a).denotation
  unfolding names_world
  denotation_is a h = rw zero-add at (denotations_at t 0 n a h)

  pub low_own : (l : List ℕ) (k : W.Owner) (a : ℕ) → address_in l k 0 (identifiers_from d t 0 n) ≡ W.address a → a < n
  low_own l k a e = omega (arith, address_low l k 0 (identifiers_from d t 0 n) a e, ids_length d t 0 n)

  low_seen : (l : List ℕ) (k : W.Owner) (a : ℕ) → seen_in d t n l k ≡ W.address a → a < n
  low_seen l k a e = by (address_in l k 0 (identifiers_from d t 0 n)) refl
    where
      by : (x : W.Address) → address_in l k 0 (identifiers_from d t 0 n) ≡ x → a < n
      by (W.address b) f = low_own l k a (f ∙ (rw f at e))
      by W.unknown f = low_own l W.everyone a (rw f at e)

  pub known_is : (x : W.Address) (f : Option Address) (a : Address) → f ≡ found_for x → f ≡ Some a → x ≡ W.address a.0
  known_is (W.address b) f a e g = let h : Some (record { 0 = b }) ≡ Some a = sym e ∙ g in let k : record { 0 = b } ≡ a = cc in ap (λ (y : Address). W.address y.0) k
  known_is W.unknown f a e g = absurd (let z : ◌≡◌ {A = ℕ} 0 1 = cc in omega arith)

  pub unknown_is : (x : W.Address) (f : Option Address) → f ≡ found_for x → f ≡ None → x ≡ W.unknown
  unknown_is (W.address b) f e g = absurd (let z : ◌≡◌ {A = ℕ} 0 1 = cc in omega arith)
  unknown_is W.unknown f e g = refl

  meant_cond : (b : Bool) → meant_for (cond b TheSubstr NoSuch) ≡ cond b E.the_substr E.no_such
  meant_cond true = refl
  meant_cond false = refl

  -- ---- what a name means
  module _ (l : List ℕ) (k : W.Owner) (f : Option Address) (e : f ≡ found_for (seen_in d t n l k)) where
    pub meant_unknown : (b : Bool) (r : Meant) → f ≡ None → b ≡ E.is_substr l → r ≡ cond b TheSubstr NoSuch → meant_for r ≡ E.meant k l here
    unfolding E.meant
    meant_unknown b r g h i = rw (i, seen_is l k, unknown_is (seen_in d t n l k) f e g, ← h) (meant_cond b)

    module _ (a : Address) (g : f ≡ Some a) (x : Name) (h : x ≡ name_in t a.0) where
      there : seen_in d t n l k ≡ W.address a.0
      there = known_is (seen_in d t n l k) f a e g

      meant_known : E.meant k l here ≡ E.meant_by (denotation_of x.denotation) a.0 l
      unfolding E.meant
      meant_known = rw (seen_is l k, there, denotation_is a.0 (low_seen l k a.0 there), ← h)

      pub meant_variable : (v : ValueType) → x.denotation ≡ Variable v → meant_for (AVariable a.0 v) ≡ E.meant k l here
      meant_variable v i = sym (meant_known ∙ rw i)

      pub meant_entry : (y : Entry) → x.denotation ≡ EntryName y → meant_for (AnEntry y.body) ≡ E.meant k l here
      meant_entry y i = sym (meant_known ∙ rw i)

      pub meant_label : (y : Label) → x.denotation ≡ LabelName y → meant_for NoSuch ≡ E.meant k l here
      meant_label y i = sym (meant_known ∙ rw i)

      pub meant_builtin : (b : Bool) (r : Meant) → x.denotation ≡ Builtin → b ≡ E.is_substr l → r ≡ cond b TheSubstr NoSuch → meant_for r ≡ E.meant k l here
      meant_builtin b r i j q =
          let z : meant_for r ≡ cond b E.the_substr E.no_such = rw q (meant_cond b) in
          let y : E.meant_by (denotation_of x.denotation) a.0 l ≡ cond b E.the_substr E.no_such = rw (i, ← j) in
          z ∙ sym (meant_known ∙ y)

  -- the same with the name's bytes as the code has them
  module _ (s : List ℕ) (from to m : ℕ) (z : m ≡ to - from) (o : Owner) (f : Option Address) (e : f ≡ found_for (seen_in d t n (folded mixed (part m from s)) (owner_of o))) where
    pub by_unknown : (b : Bool) (r : Meant) → f ≡ None → b ≡ E.is_substr (folded mixed (part m from s)) → r ≡ cond b TheSubstr NoSuch → meant_for r ≡ E.meant (owner_of o) (folded mixed (part (to - from) from s)) here
    by_unknown b r g h i = rw (← z) (meant_unknown (folded mixed (part m from s)) (owner_of o) f e b r g h i)

    module _ (a : Address) (g : f ≡ Some a) (x : Name) (h : x ≡ name_in t a.0) where
      pub by_variable : (v : ValueType) → x.denotation ≡ Variable v → meant_for (AVariable a.0 v) ≡ E.meant (owner_of o) (folded mixed (part (to - from) from s)) here
      by_variable v i = rw (← z) (meant_variable (folded mixed (part m from s)) (owner_of o) f e a g x h v i)

      pub by_entry : (y : Entry) → x.denotation ≡ EntryName y → meant_for (AnEntry y.body) ≡ E.meant (owner_of o) (folded mixed (part (to - from) from s)) here
      by_entry y i = rw (← z) (meant_entry (folded mixed (part m from s)) (owner_of o) f e a g x h y i)

      pub by_label : (y : Label) → x.denotation ≡ LabelName y → meant_for NoSuch ≡ E.meant (owner_of o) (folded mixed (part (to - from) from s)) here
      by_label y i = rw (← z) (meant_label (folded mixed (part m from s)) (owner_of o) f e a g x h y i)

      pub by_builtin : (b : Bool) (r : Meant) → x.denotation ≡ Builtin → b ≡ E.is_substr (folded mixed (part m from s)) → r ≡ cond b TheSubstr NoSuch → meant_for r ≡ E.meant (owner_of o) (folded mixed (part (to - from) from s)) here
      by_builtin b r i j q = rw (← z) (meant_builtin (folded mixed (part m from s)) (owner_of o) f e a g x h b r i j q)

  -- ---- parameters
  module _ (s : List ℕ) (at : ℕ) (p : Place) (l : Lexeme) (lex : Lexed s at l) (m : ℕ) (z : m ≡ l.to - l.from) (f : Option Address)
      (e : f ≡ found_for (address_in (folded mixed (part m l.from s)) (owner_of (Procedure p)) 0 (identifiers_from d t 0 n))) where
    spelled_is : folded mixed (part m l.from s) ≡ spelled_at s at
    spelled_is = rw (z, lex.from, lex.to)

    own : W.Address
    own = address_in (spelled_at s at) (owner_at p) 0 (identifiers_from d t 0 n)

    e_own : f ≡ found_for own
    unfolding own
    e_own = rw spelled_is at e

    pub parameter_unknown : f ≡ None → ParameterIs d s t n p at None
    unfolding own
    parameter_unknown g = record { is = rw (address_is (spelled_at s at) (owner_at p), unknown_is own f e_own g); to = refl }

    module _ (a : Address) (g : f ≡ Some a) (x : Name) (h : x ≡ name_in t a.0) where
      parameter_known : parameter_of d t n p (spelled_at s at) ≡ E.parameter_as (denotation_of x.denotation) a.0
      unfolding own
      parameter_known = rw (address_is (spelled_at s at) (owner_at p), known_is own f a e_own g, denotation_is a.0 (low_own (spelled_at s at) (owner_at p) a.0 (known_is own f a e_own g)), ← h)

      pub parameter_variable : (v : ValueType) → x.denotation ≡ Variable v → (c : Lexeme) → Lexed s l.to c → ParameterIs d s t n p at (Some (record { address = a.0; value_type = v; to = c.to }))
      parameter_variable v i c y = record { is = sym (parameter_known ∙ rw i); to = rw (y.to, lex.to) }

      pub parameter_entry : (y : Entry) → x.denotation ≡ EntryName y → ParameterIs d s t n p at None
      parameter_entry y i = record { is = sym (parameter_known ∙ rw i); to = refl }

      pub parameter_label : (y : Label) → x.denotation ≡ LabelName y → ParameterIs d s t n p at None
      parameter_label y i = record { is = sym (parameter_known ∙ rw i); to = refl }

      pub parameter_builtin : x.denotation ≡ Builtin → ParameterIs d s t n p at None
      parameter_builtin i = record { is = sym (parameter_known ∙ rw i); to = refl }

-- ---- what a name means, and the parameters, in any world with the table's names
module _ (d t : List ℕ) (n : ℕ) (w : W.World) (e : w.identifiers ≡ identifiers_from d t 0 n) (f : w.denotations ≡ denotations_from t 0 n) where
  address_there : (l : List ℕ) (k : W.Owner) → address_of l k w ≡ address_of l k (names_world d t n)
  unfolding names_world
  address_there l k = rw e

  global_there : (x : W.Address) (l : List ℕ) → or_global x l w ≡ or_global x l (names_world d t n)
  global_there (W.address a) l = refl
  global_there W.unknown l = address_there l W.everyone

  denotation_there : (a : ℕ) → W.denotation a w ≡ W.denotation a (names_world d t n)
  unfolding names_world
  denotation_there a = rw f

  meant_at_there : (x : W.Address) (l : List ℕ) → E.meant_at x l w ≡ E.meant_at x l (names_world d t n)
  meant_at_there (W.address a) l = ap (λ (z : W.Denotation). E.meant_by z a l) (denotation_there a)
  meant_at_there W.unknown l = refl

  pub meant_there : (k : W.Owner) (l : List ℕ) → E.meant k l w ≡ E.meant k l (names_world d t n)
  unfolding E.meant seen_from
  meant_there k l =
      ap (λ (x : W.Address). E.meant_at (or_global x l w) l w) (address_there l k)
      ∙ ap (λ (x : W.Address). E.meant_at x l w) (global_there (address_of l k (names_world d t n)) l)
      ∙ meant_at_there (or_global (address_of l k (names_world d t n)) l (names_world d t n)) l

  parameter_at_there : (x : W.Address) → E.parameter_at x w ≡ E.parameter_at x (names_world d t n)
  parameter_at_there (W.address a) = ap (λ (z : W.Denotation). E.parameter_as z a) (denotation_there a)
  parameter_at_there W.unknown = refl

  abbrev both : Val.Answer E.Parameter → Val.Answer (List E.Parameter) → Val.Answer (List E.Parameter)
  both x y = Val.and_then x (λ p. Val.and_then y (λ ps. Val.gives (p ∷ ps)))

  pub parameters_there : (k : W.Owner) (ns : List (List ℕ)) → E.parameters k ns w ≡ E.parameters k ns (names_world d t n)
  unfolding E.parameters
  parameters_there k [] = refl
  parameters_there k (l ∷ ns) =
      ap (both (E.parameter_at (address_of l k w) w)) (parameters_there k ns)
      ∙ ap (λ (x : Val.Answer E.Parameter). both x (E.parameters k ns (names_world d t n))) (ap (λ (a : W.Address). E.parameter_at a w) (address_there l k) ∙ parameter_at_there (address_of l k (names_world d t n)))
