-- The bounds of an iterated group, its frame and its start.
-- Assumes nothing.
use Rattle.bodies.specs.Types.{Widened, Started}
use Rattle.std.proofs.Common.{Some, None, Ok, Err}
use mathlib.Core.Path.{◌≡◌, refl, ap, ◌∙◌}
use mathlib.Core.Bool.{Bool, true, false}
use mathlib.Core.List.{List, [], ◌∷◌}
use Prim.Native.Nat.{ℕ, ◌+◌}
use lib.IntN.{ℤ, pos}
use lib.ListN.{get_or}
use Rattle.definition.specs.Bytes.{mixed}
use Rattle.definition.specs.Fixed as Fx
use Rattle.definition.specs.Flow as F
use Rattle.definition.specs.Flow.{Machine}
use Rattle.definition.specs.Room.{over}
use Rattle.definition.specs.Tokens.{token_at, is_word}
use Rattle.definition.specs.Values as Val
use Rattle.definition.specs.World as W
use Rattle.definition.specs.World.{World, good, bad, variable_of, builtin_name}
use Rattle.definition.specs.declared.Why.{Why}
use Rattle.definition.specs.declared.Why.TheVariants.{NoStep}
use Rattle.definition.specs.declared.ValueType.TheVariants.{FixedType}
use Rattle.fixed.specs.declared.Fixed.{Fixed}
use Rattle.fixed.specs.Signed.{stored_of, from_stored}
use Rattle.fixed.proofs.Magnitude.{stored_back}
use Rattle.meter.specs.declared.Meter.{Meter}
use Rattle.tokens.specs.declared.Lexeme.{Lexeme}
use Rattle.tokens.specs.Answer.{Lexed, is_word_in}
use Rattle.tokens.proofs.Lexemes.{is_word_lem}
use Rattle.flow.specs.declared.Frame.{Frame}
use Rattle.flow.specs.Walks.{passes_by}
use Rattle.flow.specs.Shown.{FrameShown, to_of}
use Rattle.flow.proofs.Flows.{passes_is}
use Rattle.operators.specs.declared.Value.TheVariants as Vl
use Rattle.operators.specs.Stands.{value_in}
use Rattle.callees.specs.Shown.{world_in, Slots}
use Rattle.callees.specs.Answer.{ValueStored}
use Rattle.callees.proofs.Storing.{stored_number}
use Rattle.bodies.specs.declared.Side.TheVariants as Si
use Rattle.bodies.specs.Groups.{word_at, frame_by, frame_to, first_frame, SetOff}
use Rattle.bodies.proofs.Doing.{stored_world}

-- ---- BY or TO
module _ (s : List ℕ) (at : ℕ) (t : Lexeme) (lex : Lexed s at t) (a : Bool) (ha : a ≡ is_word_in s t (66 ∷ 89 ∷ [])) where
  by_is : a ≡ is_word "BY" (token_at mixed s at).token
  by_is = ha ∙ is_word_lem s at t lex "BY" (66 ∷ 89 ∷ []) refl

  pub word_by : a ≡ true → Some (Si.By, t.to) ≡ word_at s at
  unfolding word_at
  word_by e = rw (lex.to, ← by_is, e)

  module _ (na : a ≡ false) (b : Bool) (hb : b ≡ is_word_in s t (84 ∷ 79 ∷ [])) where
    to_is : b ≡ is_word "TO" (token_at mixed s at).token
    to_is = hb ∙ is_word_lem s at t lex "TO" (84 ∷ 79 ∷ []) refl

    pub word_upto : b ≡ true → Some (Si.Upto, t.to) ≡ word_at s at
    unfolding word_at
    word_upto e = rw (lex.to, ← by_is, na, ← to_is, e)

    pub word_neither : b ≡ false → None ≡ word_at s at
    unfolding word_at
    word_neither e = rw (← by_is, na, ← to_is, e)

-- ---- the start
module _ (c : List ℕ) (x : Fixed) (w : Widened) where
  pub set_some : (f : Frame) (q : ℕ) (m : Meter) → w ≡ Ok (f, q, m) → (c' : List ℕ) → c' ≡ over c (f.address + 0) (stored_of x.value ∷ [])
      → (b : Bool) → b ≡ passes_by (from_stored f.limit) (from_stored f.step) x.value → SetOff c x w c' (Ok (f, b, m))
  set_some f q m e c' ec b eb = rw e record { cells = ec; is = rw eb }

  pub set_none : (y : Why × Meter) → w ≡ Err y → SetOff c x w c (Err y)
  set_none (y, m) e = rw e record { cells = refl; is = refl }

-- ---- a number that is stored for a FIXED variable
module _ (B : World) (c l h : List ℕ) (a : ℕ) (x : Fixed) (c' : List ℕ) (ec : c' ≡ over c (a + 0) (stored_of x.value ∷ []))
    (s : Slots B.denotations c l h) (v : get_or B.denotations a builtin_name ≡ variable_of FixedType) (r : Fx.in_range x.value ≡ true) where
  stored : ValueStored c l h [] a 0 (Vl.Number x) c' l h
  stored = stored_number c l h [] a 0 (Vl.Number x) x refl c' ec

  pub number_world : (n : ℕ) → world_in B c' l h n ≡ W.store a (Val.fixed x.value) (world_in B c l h n)
  unfolding value_in
  number_world n = stored_world B c l h c' l h a n (Val.fixed x.value) (stored.is B.denotations FixedType s v r)

  pub number_slots : Slots B.denotations c' l h
  number_slots = stored.slots B.denotations FixedType s v r

-- ---- whether a pass begins, as the definition says
-- a machine, whichever: it plays no part
nothing_runs : Machine Why
nothing_runs = record { rows = []; owner = W.everyone; fault = λ r e. e; value = λ t w. bad NoStep 0; waiting = 0; out = λ s w. good tt w; act = λ n w. good F.passed w; jump = λ n t w. bad NoStep 0 }

pub passes_shown : (f : Frame) (d : F.Frame) (z : ℤ) → FrameShown f d → passes_by (from_stored f.limit) (from_stored f.step) z ≡ F.passes d z
passes_shown f d z k = passes_is nothing_runs f d z k

-- ---- a group that has set off
module _ (B : World) (c l h : List ℕ) (x : Fixed) (w : Widened) (c' : List ℕ) (r : Started) (so : SetOff c x w c' r) (f : Frame) (q : ℕ) (m : Meter) (e : w ≡ Ok (f, q, m)) where
  cells_off_lem : c' ≡ over c (f.address + 0) (stored_of x.value ∷ [])
  cells_off_lem = rw e at so.cells

  pub off_world : Slots B.denotations c l h → get_or B.denotations f.address builtin_name ≡ variable_of FixedType → Fx.in_range x.value ≡ true
      → (n : ℕ) → world_in B c' l h n ≡ W.store f.address (Val.fixed x.value) (world_in B c l h n)
  off_world s v i n = number_world B c l h f.address x c' cells_off_lem s v i n

  pub off_slots : Slots B.denotations c l h → get_or B.denotations f.address builtin_name ≡ variable_of FixedType → Fx.in_range x.value ≡ true
      → Slots B.denotations c' l h
  off_slots s v i = number_slots B c l h f.address x c' cells_off_lem s v i

  off_is : r ≡ Ok (f, (passes_by (from_stored f.limit) (from_stored f.step) x.value), m)
  off_is = rw e at so.is

  pub off_passes : (d : F.Frame) → FrameShown f d → r ≡ Ok (f, (F.passes d x.value), m)
  off_passes d k = off_is ∙ ap (λ (b : Bool). Ok (f, b, m)) (passes_shown f d x.value k)

-- ---- what the frames stand for
no_limit : to_of (from_stored 0) ≡ F.no_to
unfolding from_stored Fx.ranged Fx.in_range
no_limit = refl

pub first_shown : (g a : ℕ) → FrameShown (first_frame g a) (record { group = g; at = a; step = pos 1; to = F.no_to; is_once = true })
unfolding Fx.in_range
first_shown g a = record { group = refl; address = refl; step = stored_back (pos 1) refl; to = no_limit; once = refl }

module _ (f : Frame) (d : F.Frame) (k : FrameShown f d) (z : ℤ) (i : Fx.in_range z ≡ true) where
  pub by_shown : FrameShown (frame_by f (stored_of z)) (record { group = d.group; at = d.at; step = z; to = d.to; is_once = false })
  by_shown = record { group = k.group; address = k.address; step = stored_back z i; to = k.to; once = refl }

  pub to_shown : FrameShown (frame_to f (stored_of z)) (record { group = d.group; at = d.at; step = d.step; to = F.to_at z; is_once = false })
  to_shown = record { group = k.group; address = k.address; step = k.step; to = ap to_of (stored_back z i); once = refl }
