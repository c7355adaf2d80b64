-- Arguments: what is wished for, what waits, and whose they are.
use Rattle.operands.specs.Types.{Evaluated}
use Rattle.callees.specs.declared.Callee.{Callee}
use Rattle.std.specs.Prelude.{ℕ, zero, suc, ◌+◌, ◌≤◌, cond, ◌||◌, ◌≡◌, List, [], ◌∷◌, ltb, eqb, length, Result, Ok, Err}
use Rattle.definition.specs.Values as Val
use Rattle.definition.specs.World.{World, Res, bind}
use Rattle.definition.specs.Evaluate as Ev
use Rattle.definition.specs.Evaluate.{put}
use Rattle.definition.specs.declared.Why.{Why}
use Rattle.definition.specs.declared.Why.TheVariants.{WrongName, WrongArguments}
use Rattle.definition.specs.declared.ValueType.TheVariants.{FixedType}
use Rattle.deck.specs.Answer.{body_in}
use Rattle.meter.specs.declared.Meter.{Meter}
use Rattle.rows.specs.declared.Starts.{Starts}
use Rattle.operators.specs.declared.Value.{Value}
use Rattle.operators.specs.Stands.{size_for, value_in}
use Rattle.callees.specs.declared.Meant.{Meant}
use Rattle.callees.specs.declared.Meant.TheVariants as M
use Rattle.callees.specs.declared.Held.{Held}
use Rattle.callees.specs.Shown.{names_world, world_in}
use Rattle.callees.specs.Answer.{owner_at, Names, CalleeOf, held_in, held_size, fixed_in}
use Rattle.operands.specs.declared.Wish.{Wish}
use Rattle.operands.specs.declared.Wish.TheVariants as Wi
use Rattle.operands.specs.declared.Wished.{Wished}
use Rattle.operands.specs.declared.Target.{Target}
use Rattle.operands.specs.declared.Target.TheVariants as T
use Rattle.operands.specs.Answer.{Below, res_in, size_of, meter_of, with_end, Turns}

-- ---- wishes
abbrev pub wish_for : Wish → Ev.Wish
wish_for (Wi.As t) = Ev.as_type t
wish_for Wi.AsSubject = Ev.as_subject

unfoldable pub wished_on : ℕ → Ev.Wish → Res Why Val.Value → Res Why Val.Value
wished_on u g R = bind R (λ v z. put u (Ev.wished g v) z)

pub record WithWish (w : List ℕ) (u : ℕ) (g : Wish) (y : Evaluated) (w' : List ℕ) (r : Evaluated) : Type 0 where
  pub is : 65536 ≤ length w → u + size_of y ≤ 65536 → Turns w u u y (wished_on u (wish_for g)) w' r

-- those of SUBSTR from number i on
abbrev pub substr_from : ℕ → List Ev.Wish
substr_from zero = Ev.as_subject ∷ Ev.as_type FixedType ∷ Ev.as_type FixedType ∷ []
substr_from (suc zero) = Ev.as_type FixedType ∷ Ev.as_type FixedType ∷ []
substr_from (suc (suc zero)) = Ev.as_type FixedType ∷ []
substr_from (suc (suc (suc i))) = []

-- the wishes that come for a target from number i on, where its next parameter is listed at a place
abbrev pub Coming : List ℕ → List ℕ → ℕ → Target → ℕ → ℕ → List Ev.Wish → Type 0
Coming deck names n (T.Entry c) i at ws = (ps : List Ev.Parameter) × (ns : List (List ℕ)) × Names (body_in deck c.place.member) ns at × (Ev.parameters (owner_at c.place) ns (names_world deck names n) ≡ Val.gives ps) × (ws ≡ Ev.wishes ps)
Coming deck names n (T.Substr k) i at ws = ws ≡ substr_from i

pub record WishIs (deck names : List ℕ) (n : ℕ) (t : Target) (i at : ℕ) (r : Wished) : Type 0 where
  pub is : (g : Ev.Wish) (gs : List Ev.Wish) → Coming deck names n t i at (g ∷ gs) → (wish_for r.wish ≡ g) × Coming deck names n t (suc i) r.to gs

abbrev pub first_listed : Target → ℕ
first_listed (T.Entry c) = c.list
first_listed (T.Substr n) = 0

abbrev pub wanted_by : Target → ℕ
wanted_by (T.Entry c) = c.count
wanted_by (T.Substr n) = n

-- ---- what waits: from number i at u, for the wishes ws, the values vs, up to number j at t, where the wishes ws' are left
abbrev pub Path : List ℕ → Value → Held → ℕ → ℕ → List Ev.Wish → List Val.Value → ℕ → ℕ → List Ev.Wish → Type 0
Path w f k i u ws [] j t ws' = (i ≡ j) × (u ≡ t) × (ws ≡ ws')
Path w f k i u [] (v ∷ vs) j t ws' = ⊥
Path w f k i u (Ev.as_type q ∷ ws) (v ∷ vs) j t ws' = (v ≡ held_in w k i u q) × (held_size k i q ≤ 512) × (u + held_size k i q ≤ 65536) × Path w f k (suc i) (u + held_size k i q) ws vs j t ws'
Path w f k i u (Ev.as_subject ∷ ws) (v ∷ vs) j t ws' = (v ≡ value_in w u f) × (u + size_for f ≤ 65536) × Path w f k (suc i) (u + size_for f) ws vs j t ws'

-- ---- SUBSTR of what waits
abbrev pub substr_values : List ℕ → ℕ → ℕ → Value → Held → List Val.Value
substr_values w u n f k = cond (ltb n 3) (value_in w u f ∷ Val.fixed (fixed_in k 1) ∷ []) (value_in w u f ∷ Val.fixed (fixed_in k 1) ∷ Val.fixed (fixed_in k 2) ∷ [])

pub record SubstrDone (w : List ℕ) (u n : ℕ) (k : Held) (f : Value) (to : ℕ) (m : Meter) (w' : List ℕ) (r : Evaluated) : Type 0 where
  pub is : 65536 ≤ length w → u + size_for f ≤ 65536 → (B : World) (c l h : List ℕ) → res_in B c l h w' u r ≡ put u (Val.substr (substr_values w u n f k)) (world_in B c l h m.used)
  pub end : r ≡ with_end r to
  pub below : 65536 ≤ length w → u + size_for f ≤ 65536 → Below u w w'
  pub fits : 65536 ≤ length w → u + size_for f ≤ 65536 → u + size_of r ≤ 65536
  pub limit : meter_of r ≡ m

-- ---- whose arguments a list of n takes
abbrev pub aim_for : Result Callee Why → ℕ → Result Target Why
aim_for (Ok y) n = cond (eqb y.count n) (Ok (T.Entry y)) (Err WrongArguments)
aim_for (Err w) n = Err w

abbrev pub AimAs : List ℕ → List ℕ → Starts → List ℕ → ℕ → Meant → ℕ → Result Target Why → Type 0
AimAs deck rows starts names k (M.AVariable a t) n r = r ≡ Err WrongName
AimAs deck rows starts names k (M.AnEntry b) n r = (y : Result Callee Why) × CalleeOf deck rows starts names k b y × (r ≡ aim_for y n)
AimAs deck rows starts names k M.TheSubstr n r = r ≡ cond (eqb n 2 || eqb n 3) (Ok (T.Substr n)) (Err WrongArguments)
AimAs deck rows starts names k M.NoSuch n r = r ≡ Err WrongName

pub record AimIs (deck rows : List ℕ) (starts : Starts) (names : List ℕ) (k : ℕ) (x : Meant) (n : ℕ) (r : Result Target Why) : Type 0 where
  pub is : AimAs deck rows starts names k x n r
