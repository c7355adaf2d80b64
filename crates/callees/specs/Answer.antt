-- What the answers of `callees` stand for in the definition.
use Rattle.callees.specs.declared.Parameter.{Parameter}
use Rattle.std.specs.Prelude.{ℕ, zero, suc, ◌+◌, ◌-◌, ◌%◌, ◌<◌, ◌≤◌, ltb, Bool, true, false, cond, ◌≡◌, List, [], ◌∷◌, length, get_or, set, take, ℤ, pos, Option, Some, None, Result, Ok, Err}
use Rattle.definition.specs.Bytes.{mixed, folded}
use Rattle.definition.specs.Lists.{part}
use Rattle.definition.specs.Fixed as F
use Rattle.definition.specs.Tokens.{token_at, is_sign}
use Rattle.definition.specs.Expressions.{read, Named, name_at}
use Rattle.definition.specs.declared.ValueType.{ValueType}
use Rattle.definition.specs.declared.ValueType.TheVariants.{FixedType, CharacterType}
use Rattle.definition.specs.Values as Val
use Rattle.definition.specs.World as W
use Rattle.definition.specs.World.{Owner, procedure_at, variable_of, builtin_name, address_of}
use Rattle.definition.specs.Evaluate as E
use Rattle.definition.specs.Calls as C
use Rattle.definition.specs.declared.Why.{Why}
use Rattle.definition.specs.declared.Why.TheVariants.{NoValue}
use Rattle.deck.specs.Answer.{body_in}
use Rattle.fixed.specs.Signed.{stored_of, from_stored}
use Rattle.names.specs.declared.Place.{Place}
use Rattle.names.specs.Table.{body_of}
use Rattle.rows.specs.Table.{row_in}
use Rattle.rows.specs.Parts.{part_in}
use Rattle.rows.specs.declared.Starts.{Starts}
use Rattle.fixed.specs.declared.Fixed.{Fixed}
use Rattle.store.specs.Cells.{cell_in}
use Rattle.operators.specs.declared.Value.{Value}
use Rattle.operators.specs.declared.Value.TheVariants.{Number, Characters, Bits}
use Rattle.operators.specs.Stands.{size_for, value_in, given_in}
use Rattle.callees.specs.Shown.{denotations_from, names_world, values_from, Slots, Typed}
use Rattle.callees.specs.declared.Meant.{Meant}
use Rattle.callees.specs.declared.Meant.TheVariants as M
use Rattle.callees.specs.declared.Running.{Running}
use Rattle.callees.specs.declared.Callee.{Callee}
use Rattle.callees.specs.declared.Held.{Held}

-- ---- what a name means
abbrev pub meant_for : Meant → E.Meant
meant_for (M.AVariable a t) = E.a_variable a t
meant_for (M.AnEntry b) = E.an_entry (body_of b)
meant_for M.TheSubstr = E.the_substr
meant_for M.NoSuch = E.no_such

-- ---- procedures that are running: those from number i on
abbrev pub place_of : Place → C.Place
place_of p = record { member = p.member; row = p.row }

-- what no array has at a place within it
abbrev pub blank : Place
blank = record { member = 0; row = 0 }

unfoldable pub on_from : List Place → ℕ → ℕ → List C.Place
on_from ps i zero = []
on_from ps i (suc k) = place_of (get_or ps i blank) ∷ on_from ps (suc i) k

abbrev pub on_of : Running → List C.Place
on_of g = on_from g.places g.left (16 - g.left)

-- the procedure at p started
pub record StartedIs (g : Running) (p : Place) (r : Running) : Type 0 where
  pub left : r.left ≡ g.left - 1
  pub on : 0 < g.left → g.left ≤ 16 → on_of r ≡ place_of p ∷ on_of g

-- ---- parameters
abbrev pub owner_at : Place → Owner
owner_at p = procedure_at p.member p.row

abbrev pub parameter_for : Option Parameter → Val.Answer E.Parameter
parameter_for (Some x) = Val.gives (record { at = x.address; type = x.value_type })
parameter_for None = Val.fails Rattle.definition.specs.declared.Why.TheVariants.WrongName

abbrev pub with_to : Option Parameter → ℕ → Option Parameter
with_to (Some x) to = Some (record { address = x.address; value_type = x.value_type; to = to })
with_to None to = None

-- the name behind a place, as it is compared
abbrev pub spelled_at : List ℕ → ℕ → List ℕ
spelled_at s at = folded mixed (part ((token_at mixed s at).to - (token_at mixed s at).from) (token_at mixed s at).from s)

abbrev pub parameter_of : List ℕ → List ℕ → ℕ → Place → List ℕ → Val.Answer E.Parameter
parameter_of d t n p w = E.parameter_at (address_of w (owner_at p) (names_world d t n)) (names_world d t n)

-- the parameter whose name stands behind a place of s, and the place behind the token that follows it
pub record ParameterIs (d s t : List ℕ) (n : ℕ) (p : Place) (at : ℕ) (r : Option Parameter) : Type 0 where
  pub is : parameter_for r ≡ parameter_of d t n p (spelled_at s at)
  pub to : r ≡ with_to r (token_at mixed s (token_at mixed s at).to).to

-- names with commas between them, from a place on
abbrev pub Listed : List ℕ → List (List ℕ) → ℕ → Type 0
Listed s [] at = ⊥
Listed s (l ∷ []) at = (n : Named) × (name_at mixed s at ≡ read n) × (n.spelling ≡ l) × (is_sign "," (token_at mixed s n.to).token ≡ false)
Listed s (l ∷ m ∷ ns) at = (n : Named) × (name_at mixed s at ≡ read n) × (n.spelling ≡ l) × (is_sign "," (token_at mixed s n.to).token ≡ true) × Listed s (m ∷ ns) (token_at mixed s n.to).to

-- the callee for parameters that are all fine
unfoldable pub called_for : Place → ℕ → Val.Answer (List E.Parameter) → Result Callee Why
called_for p list (Val.gives ps) = Ok (record { place = p; list = list; count = length ps })
called_for p list (Val.fails e) = Err e

pub record CountedIs (d s t : List ℕ) (n : ℕ) (p : Place) (list : ℕ) (r : Result Callee Why) : Type 0 where
  pub is : (ns : List (List ℕ)) → Listed s ns list → list ≤ length s → r ≡ called_for p list (E.parameters (owner_at p) ns (names_world d t n))

-- the parameters that stand behind PROCEDURE, and where they are listed
abbrev pub HeadedBy : Bool → List ℕ → List (List ℕ) → ℕ → Type 0
HeadedBy true s ns list = Listed s ns list
HeadedBy false s ns list = ns ≡ []

pub record Headed (s : List ℕ) (at list : ℕ) (ns : List (List ℕ)) : Type 0 where
  pub place : list ≡ cond (is_sign "(" (token_at mixed s at).token) (token_at mixed s at).to (token_at mixed s at).from
  pub names : HeadedBy (is_sign "(" (token_at mixed s at).token) s ns list

pub record CalleeIs (d s t : List ℕ) (n : ℕ) (p : Place) (at : ℕ) (r : Result Callee Why) : Type 0 where
  pub is : (list : ℕ) (ns : List (List ℕ)) → Headed s at list ns → at ≤ length s → r ≡ called_for p list (E.parameters (owner_at p) ns (names_world d t n))

-- the same for the body of an entry, in the deck and the rows of its member
pub record CalleeOf (d rows : List ℕ) (starts : Starts) (t : List ℕ) (n : ℕ) (b : Option Place) (r : Result Callee Why) : Type 0 where
  pub none : b ≡ None → r ≡ Err Rattle.definition.specs.declared.Why.TheVariants.WrongName
  pub some : (p : Place) → b ≡ Some p → CalleeIs d (body_in d p.member) t n p (row_in (part_in rows starts p.member) p.row).content r

-- ---- arguments that wait
abbrev pub held_number : Value → ℕ
held_number (Number x) = stored_of x.value
held_number (Characters n) = n % 65536
held_number (Bits n) = n % 65536

pub record HeldWith (h : Held) (i : ℕ) (v : Value) (r : Held) : Type 0 where
  pub is : i < 256 → r.numbers ≡ set h.numbers i (held_number v)

abbrev pub held_at : Held → ℕ → ℕ
held_at h i = cond (ltb i 256) (get_or h.numbers i 0) 0

abbrev pub number_of : F.Result → ℤ
number_of (F.is z) = z
number_of F.out_of_range = pos 0
number_of F.zero_divisor = pos 0

unfoldable pub fixed_in : Held → ℕ → ℤ
fixed_in h i = number_of (from_stored (held_at h i))

pub record FixedHeld (h : Held) (i : ℕ) (r : Fixed) : Type 0 where
  pub is : r.value ≡ fixed_in h i
  pub small : F.in_range r.value ≡ true

-- the argument number i, of a type, at u
abbrev pub held_in : List ℕ → Held → ℕ → ℕ → ValueType → Val.Value
held_in w h i u FixedType = Val.fixed (fixed_in h i)
held_in w h i u CharacterType = Val.characters (part (held_at h i) u w)

abbrev pub held_size : Held → ℕ → ValueType → ℕ
held_size h i FixedType = 0
held_size h i CharacterType = held_at h i

-- the arguments from number i on, of which those of CHARACTER lie above u
unfoldable pub held_from : List ℕ → Held → ℕ → ℕ → List E.Parameter → List Val.Value
held_from w h i u [] = []
held_from w h i u (p ∷ ps) = held_in w h i u p.type ∷ held_from w h (suc i) (u + held_size h i p.type) ps

-- they are at most 512 long, and lie below the end of the room
abbrev pub Waiting : Held → ℕ → ℕ → List E.Parameter → Type 0
Waiting h i u [] = Unit {0}
Waiting h i u (p ∷ ps) = (held_size h i p.type ≤ 512) × (u + held_size h i p.type ≤ 65536) × Waiting h (suc i) (u + held_size h i p.type) ps

pub record HeldIs (h : Held) (i : ℕ) (t : ValueType) (r : Value) : Type 0 where
  pub is : (w : List ℕ) (u : ℕ) → value_in w u r ≡ held_in w h i u t
  pub size : size_for r ≡ held_size h i t
  pub typed : held_size h i t ≤ 512 → Typed t r

-- ---- values of variables
abbrev pub read_in : W.Cell → ℕ → Val.Answer Val.Value
read_in W.no_value u = Val.fails NoValue
read_in (W.holds v) u = Val.unfinished u v

-- the value of the variable at a, put above u bytes
pub record VariableIs (c l h w : List ℕ) (a : ℕ) (t : ValueType) (u : ℕ) (w' : List ℕ) (r : Result Value Why) : Type 0 where
  pub is : 65536 ≤ length w → u ≤ 65536 → given_in w' u r ≡ read_in (cell_in c l h t a) u
  pub below : take u w' ≡ take u w

-- the value of a variable's type was stored at its address
pub record ValueStored (c l h w : List ℕ) (a u : ℕ) (v : Value) (c' l' h' : List ℕ) : Type 0 where
  pub is : (ds : List W.Denotation) (t : ValueType) → Slots ds c l h → get_or ds a builtin_name ≡ variable_of t → Typed t v → values_from ds 0 c' l' h' ≡ set (values_from ds 0 c l h) a (W.holds (value_in w u v))
  pub slots : (ds : List W.Denotation) (t : ValueType) → Slots ds c l h → get_or ds a builtin_name ≡ variable_of t → Typed t v → Slots ds c' l' h'

-- ---- all arguments
abbrev pub store_cells : List E.Parameter → List Val.Value → List W.Cell → List W.Cell
store_cells [] vs xs = xs
store_cells (p ∷ ps) [] xs = xs
store_cells (p ∷ ps) (v ∷ vs) xs = store_cells ps vs (set xs p.at (W.holds v))

-- names that are listed at a place, or none
abbrev pub Names : List ℕ → List (List ℕ) → ℕ → Type 0
Names s [] at = Unit {0}
Names s (l ∷ ns) at = Listed s (l ∷ ns) at

-- the arguments of a callee are in its parameters
pub record AllStored (d t c l h w : List ℕ) (n : ℕ) (y : Callee) (k : Held) (u : ℕ) (c' l' h' : List ℕ) : Type 0 where
  pub is : (ns : List (List ℕ)) (ps : List E.Parameter) → Slots (denotations_from t 0 n) c l h → Names (body_in d y.place.member) ns y.list
      → E.parameters (owner_at y.place) ns (names_world d t n) ≡ Val.gives ps → y.count ≡ length ps → Waiting k 0 u ps
      → (values_from (denotations_from t 0 n) 0 c' l' h' ≡ store_cells ps (held_from w k 0 u ps) (values_from (denotations_from t 0 n) 0 c l h)) × Slots (denotations_from t 0 n) c' l' h'
