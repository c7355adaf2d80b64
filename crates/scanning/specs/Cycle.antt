-- THE CONTRACTS OF SCANNING. An outcome so far of k bytes lies in the text room from `at` on, or in the work room above u.
use Rattle.outcomes.specs.Types.{Scanned, Replaced}
use Rattle.operands.specs.Types.{Evaluated}
use Rattle.operators.specs.declared.Value.{Value}
use Rattle.callees.specs.declared.Parameter.{Parameter}
use Rattle.std.specs.Prelude.{ℕ, ◌+◌, ◌-◌, ◌<◌, ◌≤◌, Bool, true, false, cond, ◌≡◌, Result, Ok, Err, List, length, take, Option, Some, None}
use Rattle.definition.specs.Bytes.{mixed}
use Rattle.definition.specs.Choice.{when}
use Rattle.definition.specs.Limits.{text_bytes, unfinished_bytes}
use Rattle.definition.specs.Lists.{part}
use Rattle.definition.specs.Room.{over}
use Rattle.definition.specs.Tokens.{piece_at}
use Rattle.definition.specs.Values as Val
use Rattle.definition.specs.World as W
use Rattle.definition.specs.World.{World, Res, good, bad, bind}
use Rattle.definition.specs.Evaluate as Ev
use Rattle.definition.specs.Scan as D
use Rattle.definition.specs.Scan.{Into, Replacer, Scanner, Argument, list_up_to}
use Rattle.definition.specs.declared.Why.{Why}
use Rattle.definition.specs.declared.ValueType.{ValueType}
use Rattle.definition.specs.declared.ValueType.TheVariants.{CharacterType}
use Rattle.meter.specs.declared.Meter.{Meter}
use Rattle.names.specs.declared.Activity.{Activity}
use Rattle.names.specs.declared.Activity.TheVariants as A
use Rattle.names.specs.Table.{activity_of}
use Rattle.operators.specs.Stands.{stacked, given_in}
use Rattle.callees.specs.declared.Callee.{Callee}
use Rattle.callees.specs.declared.Held.{Held}
use Rattle.callees.specs.Shown.{world_in, Slots}
use Rattle.callees.specs.Answer.{Waiting, held_from}
use Rattle.operands.specs.declared.Scene.{Scene}
use Rattle.operands.specs.Shown.{Shows}
use Rattle.operands.specs.Answer.{res_in, run_in}
use Rattle.evaluating.specs.Cycle.{CalleeShown}
use Rattle.outcomes.specs.declared.Src.{Src}
use Rattle.outcomes.specs.declared.Dest.{Dest}
use Rattle.outcomes.specs.Texts.{room_of, text_of, Within, Awake}
use Rattle.outcomes.specs.Places.{into_of, after_of, waiting_of, out_in, meter_of}
use Rattle.outcomes.specs.Arguments.{cut_from}

-- ---- premises
-- what is scanned lies in its room, and in the work room below what waits
pub record Sourced (s w : List ℕ) (x : Src) (u : ℕ) : Type 0 where
  pub within : Within (room_of s w x) x.from x.to
  pub below : x.in_work ≡ true → x.to ≤ u

-- where an outcome goes in the text room there is room
pub record Aims (t : List ℕ) (o : Dest) : Type 0 where
  pub room : o.to_work ≡ false → o.at + o.room ≤ length t
  pub short : o.to_work ≡ false → o.at + o.room ≤ text_bytes

-- the scene, with the activities of names
pub record Stage (deck rows names c l h w : List ℕ) (u : ℕ) (x : Scene) (m : Meter) (t : List ℕ) (o : Dest) (B : World) : Type 0 where
  pub shows : Shows deck rows names c l h w u x m B
  pub awake : Awake deck names x.names B
  pub aims : Aims t o

-- ---- outcomes
-- the text room has it and is else as it was
unfoldable pub text_with : Dest → List ℕ → List ℕ → List ℕ
text_with o bs t = cond o.to_work t (over t o.at bs)

abbrev pub scanned_in : World → Dest → ℕ → List ℕ → List ℕ → List ℕ → List ℕ → List ℕ → Scanned → Res Why (List ℕ)
scanned_in B o u c l h w t (Ok (k, m)) = good (out_in o t w u k) (world_in B c l h m.used)
scanned_in B o u c l h w t (Err (e, m)) = bad e m.used

abbrev pub replaced_in : World → Dest → ℕ → List ℕ → List ℕ → List ℕ → List ℕ → List ℕ → Replaced → Res Why D.Replaced
replaced_in B o u c l h w t (Ok (k, q, m)) = good (record { bytes = out_in o t w u k; to = q }) (world_in B c l h m.used)
replaced_in B o u c l h w t (Err (e, m)) = bad e m.used

-- what else an answer of k bytes with a meter says
pub record Put (B : World) (o : Dest) (u : ℕ) (t w' t' : List ℕ) (k : ℕ) : Type 0 where
  pub text : t' ≡ text_with o (out_in o t' w' u k) t
  pub room : k ≤ o.room
  pub fits : o.to_work ≡ true → u + k ≤ unfinished_bytes

abbrev pub ScannedPut : World → Dest → ℕ → List ℕ → List ℕ → List ℕ → Scanned → Type 0
ScannedPut B o u t w' t' (Ok (k, m)) = Put B o u t w' t' k
ScannedPut B o u t w' t' (Err (e, m)) = Unit {0}

abbrev pub ReplacedPut : World → Dest → ℕ → List ℕ → List ℕ → List ℕ → Replaced → Type 0
ReplacedPut B o u t w' t' (Ok (k, q, m)) = Put B o u t w' t' k
ReplacedPut B o u t w' t' (Err (e, m)) = Unit {0}

abbrev pub meter_in : Replaced → Meter
meter_in (Ok (k, q, m)) = m
meter_in (Err (e, m)) = m

-- what is left as it was
pub record Left (B : World) (u : ℕ) (w t c' l' h' w' t' : List ℕ) (m : Meter) : Type 0 where
  pub below : take u w' ≡ take u w
  pub work : length w' ≡ length w
  pub long : length t' ≡ length t
  pub limit : m.limit ≡ B.limit
  pub slots : Slots B.denotations c' l' h'

-- THE ENSURES: r and the rooms at exit stand for R
pub record Came (B : World) (o : Dest) (u : ℕ) (w t c' l' h' w' t' : List ℕ) (r : Scanned) (R : Res Why (List ℕ)) : Type 0 where
  pub is : scanned_in B o u c' l' h' w' t' r ≡ R
  pub put : ScannedPut B o u t w' t' r
  pub left : Left B u w t c' l' h' w' t' (meter_of r)

pub record Gone (B : World) (o : Dest) (u : ℕ) (w t c' l' h' w' t' : List ℕ) (r : Replaced) (R : Res Why D.Replaced) : Type 0 where
  pub is : replaced_in B o u c' l' h' w' t' r ≡ R
  pub put : ReplacedPut B o u t w' t' r
  pub left : Left B u w t c' l' h' w' t' (meter_in r)

-- ---- the cycle
-- how a text is scanned with n levels left
unfoldable pub scanner_in : Scene → ℕ → Scanner
scanner_in x n = λ i t u w. D.scan_with mixed (D.replacer mixed (run_in x) n) i t u w

unfoldable pub replacer_in : Scene → ℕ → Replacer
replacer_in x n = λ t p a y i u w. D.replacer mixed (run_in x) n t p a y i u w

abbrev pub is_on : Activity → Bool
is_on A.Inactive = false
is_on A.Rescanned = true
is_on A.CopiedOnly = true

pub record Scans (deck s rows names c l h w t : List ℕ) (x : Src) (o : Dest) (u n : ℕ) (sc : Scene) (m : Meter) (c' l' h' w' t' : List ℕ) (r : Scanned) : Type 0 where
  pub is : (B : World) → Stage deck rows names c l h w u sc m t o B → Sourced s w x u
      → Came B o u w t c' l' h' w' t' r (scanner_in sc n (into_of o) (text_of s w x) u (world_in B c l h m.used))

-- one token at p, behind an outcome of k bytes
abbrev pub token_by : D.Active → Replacer → Into → List ℕ → ℕ → ℕ → ℕ → ℕ → World → Res Why D.Replaced
token_by D.not_active replace i t k u p q w = when (D.fits i u k (q - p)) (λ _. good (record { bytes = part (q - p) p t; to = q }) w) (λ _. bad (D.full i) w.used)
token_by (D.active a y) replace i t k u p q w = replace t q a y (D.after i k) (D.waiting i u k) w

unfoldable pub token_at : Replacer → Into → List ℕ → ℕ → ℕ → ℕ → World → Res Why D.Replaced
token_at replace i t k u p w = token_by (D.active_in (piece_at mixed t p).piece w) replace i t k u p (piece_at mixed t p).to w

pub record TokenIs (deck s rows names c l h w t : List ℕ) (x : Src) (p k : ℕ) (o : Dest) (u n : ℕ) (sc : Scene) (m : Meter) (c' l' h' w' t' : List ℕ) (r : Replaced) : Type 0 where
  pub is : (B : World) → Stage deck rows names c l h w u sc m t o B → Sourced s w x u → p < x.to - x.from → k ≤ o.room → (o.to_work ≡ true → u + k ≤ unfinished_bytes)
      → Gone B (after_of o k) (waiting_of o u k) w t c' l' h' w' t' r (token_at (replacer_in sc n) (into_of o) (text_of s w x) k u p (world_in B c l h m.used))

-- the replacement of the active name at the address a, which ends at p
pub record ReplaceIs (deck s rows names c l h w t : List ℕ) (x : Src) (p a : ℕ) (y : Activity) (o : Dest) (u n : ℕ) (sc : Scene) (m : Meter) (c' l' h' w' t' : List ℕ) (r : Replaced) : Type 0 where
  pub is : (B : World) → Stage deck rows names c l h w u sc m t o B → Sourced s w x u → a < sc.names → is_on y ≡ true
      → Gone B o u w t c' l' h' w' t' r (replacer_in sc n (text_of s w x) p a (activity_of y) (into_of o) u (world_in B c l h m.used))

pub record EntryIs (deck s rows names c l h w t : List ℕ) (x : Src) (p : ℕ) (z : Callee) (y : Activity) (o : Dest) (u n : ℕ) (sc : Scene) (m : Meter) (c' l' h' w' t' : List ℕ) (r : Replaced) : Type 0 where
  pub is : (B : World) → Stage deck rows names c l h w u sc m t o B → Sourced s w x u → is_on y ≡ true → (b : Ev.Callee) → CalleeShown deck names sc.names z b B
      → Gone B o u w t c' l' h' w' t' r (D.replace_entry mixed (run_in sc) (scanner_in sc n) (text_of s w x) p (activity_of y) (into_of o) u b (world_in B c l h m.used))

pub record CallWith (deck s rows names c l h w t : List ℕ) (z : Callee) (k : Held) (y : Activity) (o : Dest) (u n : ℕ) (sc : Scene) (m : Meter) (c' l' h' w' t' : List ℕ) (r : Scanned) : Type 0 where
  pub is : (B : World) → Stage deck rows names c l h w u sc m t o B → is_on y ≡ true → (b : Ev.Callee) → CalleeShown deck names sc.names z b B → Waiting k 0 u b.parameters
      → Came B o u w t c' l' h' w' t' r (D.call_with (run_in sc) (scanner_in sc n) (activity_of y) (into_of o) u b (held_from w k 0 u b.parameters) (world_in B c l h m.used))

-- the outcome of a value, if there is one
unfoldable pub outcome_of : Scene → ℕ → W.Activity → Dest → ℕ → Val.Answer Val.Value → World → Res Why (List ℕ)
outcome_of sc n y o u a w = bind (W.ask a w) (λ v z. D.outcome y (scanner_in sc n) (into_of o) u (Val.to_characters v) z)

-- with RESCAN, of the value g at u
pub record RescanIs (deck s rows names c l h w t : List ℕ) (g : Result Value Why) (o : Dest) (u n : ℕ) (sc : Scene) (m : Meter) (c' l' h' w' t' : List ℕ) (r : Scanned) : Type 0 where
  pub is : (B : World) → Stage deck rows names c l h w u sc m t o B → Came B o u w t c' l' h' w' t' r (outcome_of sc n W.rescanned o u (given_in w u g) (world_in B c l h m.used))

-- ---- arguments
abbrev pub type_for : Option Parameter → ValueType
type_for (Some x) = x.value_type
type_for None = CharacterType

abbrev pub next_for : Option Parameter → ℕ → ℕ
next_for (Some x) at = x.to
next_for None at = at

abbrev pub given_for : Evaluated → Result Value Why
given_for (Ok (v, e, m)) = Ok v
given_for (Err (e, m)) = Err e

abbrev pub meter_for : Evaluated → Meter
meter_for (Ok (v, e, m)) = m
meter_for (Err (e, m)) = m

abbrev pub TextFits : Scanned → ℕ → Type 0
TextFits (Ok (k, m)) u = u + k ≤ unfinished_bytes
TextFits (Err (e, m)) u = Unit {0}

-- the outcome of an argument, bytes at u, made of a type
unfoldable pub converted_by : ℕ → ValueType → List ℕ → Val.Answer Val.Value
converted_by u t l = stacked u (Val.convert t (Val.characters l))

abbrev pub converted_for : Scanned → ℕ → ValueType → World → List ℕ → List ℕ → List ℕ → List ℕ → Res Why Val.Value
converted_for (Ok (k, m)) u t B c l h w = W.ask (converted_by u t (part k u w)) (world_in B c l h m.used)
converted_for (Err (e, m)) u t B c l h w = bad e m.used

pub record ConvertedIs (w : List ℕ) (u : ℕ) (t : ValueType) (x : Scanned) (w' : List ℕ) (r : Evaluated) : Type 0 where
  pub is : unfinished_bytes ≤ length w → TextFits x u → (B : World) (c l h : List ℕ) → res_in B c l h w' u r ≡ converted_for x u t B c l h w
  pub below : unfinished_bytes ≤ length w → TextFits x u → take u w' ≡ take u w
  pub meter : meter_for r ≡ meter_of x

-- the arguments that wait, or a refusal
abbrev pub Taken : Type 0
Taken = Result (Held × Meter) (Why × Meter)

abbrev pub taken_in : World → List ℕ → List ℕ → List ℕ → List ℕ → ℕ → List Ev.Parameter → Taken → Res Why (List Val.Value)
taken_in B c l h w u ps (Ok (k, m)) = good (held_from w k 0 u ps) (world_in B c l h m.used)
taken_in B c l h w u ps (Err (e, m)) = bad e m.used

abbrev pub meter_taken : Taken → Meter
meter_taken (Ok (k, m)) = m
meter_taken (Err (e, m)) = m

abbrev pub WaitingTaken : Taken → ℕ → List Ev.Parameter → Type 0
WaitingTaken (Ok (k, m)) u ps = Waiting k 0 u ps
WaitingTaken (Err (e, m)) u ps = Unit {0}

abbrev pub TextTaken : Taken → List ℕ → List ℕ → Type 0
TextTaken (Ok (k, m)) t t' = t' ≡ t
TextTaken (Err (e, m)) t t' = Unit {0}

pub record Taking (B : World) (u : ℕ) (w t c' l' h' w' t' : List ℕ) (ps : List Ev.Parameter) (r : Taken) (R : Res Why (List Val.Value)) : Type 0 where
  pub is : taken_in B c' l' h' w' u ps r ≡ R
  pub waits : WaitingTaken r u ps
  pub left : Left B u w t c' l' h' w' t' (meter_taken r)
  pub text : TextTaken r t t'

pub record TakenIs (deck s rows names c l h w t : List ℕ) (x : Src) (first : ℕ) (z : Callee) (u n : ℕ) (sc : Scene) (m : Meter) (c' l' h' w' t' : List ℕ) (r : Taken) : Type 0 where
  pub is : (B : World) (o : Dest) → Stage deck rows names c l h w u sc m t o B → Sourced s w x u → (b : Ev.Callee) → CalleeShown deck names sc.names z b B
      → (xs : List Argument) (q : ℕ) → length xs ≡ length b.parameters → cut_from (text_of s w x) first ≡ list_up_to xs q
      → Taking B u w t c' l' h' w' t' b.parameters r (D.scan_arguments (scanner_in sc n) (text_of s w x) b.parameters xs u (world_in B c l h m.used))
