-- One token of program text: its step, then its copy or its replacement.
-- Assumes nothing.
use Rattle.texts.specs.Types.{Ran, Passed}
use Rattle.std.proofs.Common.{Option, Some, None, Ok, Err}
use mathlib.Core.Path.{◌≡◌, refl, sym, ap, subst, ◌∙◌}
use mathlib.Core.Bool.{true, false}
use mathlib.Core.List.{List}
use Prim.Native.Nat.{ℕ, zero, suc, ◌+◌, ◌-◌, ◌<◌, ◌≤◌}
use native.Mathlib.Omega.{arith}
use lib.ListN.{length}
use Rattle.definition.specs.Bytes.{mixed}
use Rattle.definition.specs.Lists.{part}
use Rattle.definition.specs.Events.{copied}
use Rattle.definition.specs.Tokens.{piece_at}
use Rattle.definition.specs.World as W
use Rattle.definition.specs.World.{Pass, World, Res, good, bad, bind, placed}
use Rattle.definition.specs.Scan as D
use Rattle.definition.specs.Run as Run
use Rattle.definition.specs.Run.{stop, put_out, copy_here, pass_of, token_here}
use Rattle.definition.specs.declared.Why.{Why}
use Rattle.definition.specs.declared.Why.TheVariants.{NoStep}
use Rattle.definition.proofs.Parts.{length_part, part_of_part}
use Rattle.definition.proofs.Ends.{piece_at_past}
use Rattle.meter.specs.declared.Meter.{Meter}
use Rattle.meter.specs.Charges.{Charges, Charged, charged_for, ChargedAs}
use Rattle.names.specs.declared.Activity.{Activity}
use Rattle.names.specs.declared.Activity.TheVariants as A
use Rattle.names.specs.declared.Address.{Address}
use Rattle.names.specs.Table.{activity_of, identifiers_from}
use Rattle.rows.specs.declared.Starts.{Starts}
use Rattle.tokens.specs.declared.Piece.{Piece}
use Rattle.definition.specs.declared.Layout.{Layout}
use Rattle.definition.specs.Cards.{taking}
use Rattle.callees.specs.Shown.{world_in}
use Rattle.outcomes.specs.declared.Src.{Src}
use Rattle.outcomes.specs.Texts.{room_of, text_of, PieceIn, active_for, Awake, ActiveHere}
use Rattle.outcomes.proofs.Sources.{stretch_length}
use Rattle.scanning.specs.Cycle.{is_on}
use Rattle.scanning.proofs.Tokens.{Awakened, awakened}
use Rattle.scanning.proofs.Looping.{charge_paid, charge_none}
use Rattle.sums.specs.Numbers.{greatest, sum_to}
use Rattle.sums.proofs.Laws.{sum_fits}
use Rattle.texts.specs.declared.Progress.{Progress}
use Rattle.texts.specs.declared.Here.{Here}
use Rattle.texts.specs.declared.Stop.{Stop}
use Rattle.texts.specs.Shown.{with_meter, halted_at, Onstage, RanAs, PassedAs, Lies}
use Rattle.texts.specs.Promises.{PutIs, ReplacingIs, turn_here, TokenIs}
use Rattle.texts.proofs.Common.{body_text, body_within, stage_meter}
use Rattle.texts.proofs.Putting.{put_ran}

ids_length : (d t : List ℕ) (a n : ℕ) → length (identifiers_from d t a n) ≡ n
unfolding identifiers_from
ids_length d t a zero = refl
ids_length d t a (suc n) = ap suc (ids_length d t (suc a) n)

on_is : (y : Activity) → (activity_of y ≡ W.inactive → ⊥) → is_on y ≡ true
on_is A.Inactive f = absurd (f refl)
on_is A.Rescanned f = refl
on_is A.CopiedOnly f = refl

-- ---- answers
placed_pass : (f : Why → Run.Stop) (R : Res Why (Unit {0})) (q : ℕ) → placed f (bind R (λ _ v. good q v)) ≡ bind (placed f R) (λ _ v. good q v)
placed_pass f (good u v) q = refl
placed_pass f (bad e u) q = refl

-- what was put out, and the place behind it
abbrev pub pass_for : Ran → ℕ → Passed
pass_for (Ok g) to = Ok (to, g)
pass_for (Err e) to = Err e

abbrev passing : ℕ → Res Run.Stop (Unit {0}) → Res Run.Stop ℕ
passing q R = bind R (λ _ v. good q v)

module _ (deck rows names c l h w t ls : List ℕ) (starts : Starts) (g : Progress) (B : World) where
  -- something was put out, and the place behind it
  pass_ran : (b : Ran) (q : ℕ) (R : Res Run.Stop (Unit {0})) → RanAs deck rows names starts g B c l h w t ls b R → PassedAs deck rows names starts g B c l h w t ls (pass_for b q) (passing q R)
  pass_ran (Ok k) q R x = record { world = x.world; stage = x.stage; goes = x.goes; is = ap (passing q) x.is; tabled = x.tabled; named = x.named }
  pass_ran (Err e) q R x = ap (passing q) x

  -- the step before it is charged
  passed_meter : (m : Meter) (r : Passed) (R : Res Run.Stop ℕ) → PassedAs deck rows names starts (with_meter g m) B c l h w t ls r R → PassedAs deck rows names starts g B c l h w t ls r R
  passed_meter m (Ok (q, k)) R x = record { world = x.world; stage = x.stage; goes = x.goes; is = x.is; tabled = x.tabled; named = x.named }
  passed_meter m (Err (y, k)) R x = x

module _ (deck s rows names c l h w t ls : List ℕ) (x : Src) (p : ℕ) (here : Here) (g₀ g : Progress) (place : ℕ) (pl : place ≡ sum_to greatest x.from p) (paid : Charged) (ch : Charges g₀.meter paid) (gi : g ≡ with_meter g₀ paid.meter) where
  abbrev text : List ℕ
  text = text_of s w x

  place_is : Lies deck here.member s x.from x.to → p < x.to - x.from → place ≡ x.from + p
  place_is k lt = pl ∙ sum_fits x.from p (omega (arith, k.within, k.short))

  module _ (B : World) (st : Onstage deck rows names c l h w t ls here.starts g₀ B) where
    none_is : paid.paid ≡ false → turn_here here.member x.from text p (world_in B c l h g₀.meter.used) ≡ bad (stop here.member (x.from + p) NoStep) paid.meter.used
    unfolding turn_here
    none_is f = rw (charge_none B c l h g₀.meter paid ch st.shows.limit f)

    abbrev turned : World → Res Why ℕ
    turned v = token_here mixed (D.active_in (piece_at mixed text p).piece v) here.member (x.from + p) text p (piece_at mixed text p).to (λ k q. pass_of here.member (x.from + p) (piece_at mixed text p).piece v k (x.from + q)) v

    paid_is : paid.paid ≡ true → turn_here here.member x.from text p (world_in B c l h g₀.meter.used) ≡ placed (stop here.member (x.from + p)) (turned (world_in B c l h paid.meter.used))
    unfolding turn_here
    paid_is f = rw (charge_paid B c l h g₀.meter paid ch st.shows.limit f)

    stage_now : Onstage deck rows names c l h w t ls here.starts (with_meter g₀ paid.meter) B
    stage_now = stage_meter deck rows names c l h w t ls here.starts g₀ B st paid.meter (ch.limit ∙ st.shows.limit)

  pub turn_none : (b : Stop × Progress) → paid.paid ≡ false → b ≡ halted_at g NoStep here.member place → TokenIs deck s rows names c l h w t ls x p here g₀ c l h w t ls (Err b)
  turn_none b f e = record {
    is = λ B st li wk lt mm.
        let is : b ≡ halted_at (with_meter g₀ paid.meter) NoStep here.member (x.from + p) = e ∙ rw (gi, place_is li lt) in
        rw is (none_is B st f);
  }

  module _ (y : Piece) (act : Option (Address × Activity)) (pi : PieceIn (room_of s w x) x.from x.to p y) (ah : ActiveHere deck names g.names (room_of s w x) x p y act) (f : paid.paid ≡ true) where
    module _ (B : World) (st : Onstage deck rows names c l h w t ls here.starts g₀ B) (li : Lies deck here.member s x.from x.to) (wk : x.in_work ≡ false) (lt : p < x.to - x.from) where
      abbrev world : World
      world = world_in B c l h paid.meter.used

      to_is : y.to ≡ (piece_at mixed text p).to
      unfolding text_of
      to_is = ap (λ (z : Piece). z.to) (pi.is (body_within s w x wk li) lt)

      names_are : g.names ≡ g₀.names
      names_are = ap (λ (z : Progress). z.names) gi

      active_at_lem : active_for act ≡ D.active_in (piece_at mixed text p).piece world
      unfolding text_of
      active_at_lem = ah.is world (subst (λ (n : ℕ). Awake deck names n world) (sym names_are) (record { identifiers = st.awake.identifiers; activities = st.awake.activities })) (body_within s w x wk li) lt (pi.is (body_within s w x wk li) lt)

      size_is : length text ≡ x.to - x.from
      unfolding text_of
      size_is = stretch_length (room_of s w x) x.from x.to

      past_place : (p < y.to) × (y.to ≤ x.to - x.from)
      past_place = let q = piece_at_past text p (omega (arith, size_is)) in (omega (arith, q.above, to_is), omega (arith, q.within, to_is, size_is))

      abbrev pass : List ℕ → ℕ → Pass
      pass k q = pass_of here.member (x.from + p) (piece_at mixed text p).piece world k (x.from + q)

      turn_is : (z : D.Active) → D.active_in (piece_at mixed text p).piece world ≡ z → turn_here here.member x.from text p (world_in B c l h g₀.meter.used) ≡ placed (stop here.member (x.from + p)) (token_here mixed z here.member (x.from + p) text p y.to pass world)
      turn_is z e = paid_is B st f ∙ rw (e, to_is)

      end_is : (to : ℕ) → to ≡ sum_to greatest x.from y.to → to ≡ x.from + y.to
      end_is to e = e ∙ sum_fits x.from y.to (omega (arith, past_place.1, li.within, li.short))

      bytes_are : part (x.from + y.to - (x.from + p)) (x.from + p) s ≡ part (y.to - p) p text
      bytes_are =
          let e : x.from + y.to - (x.from + p) ≡ y.to - p = omega arith in
          rw (e, body_text s w x wk) (sym (part_of_part (y.to - p) p (x.to - x.from) x.from s (omega (arith, past_place.0, past_place.1))))

      abbrev bytes : List ℕ
      bytes = part (y.to - p) p text

      copied_is : bind (copy_here here.member (x.from + p) bytes (pass bytes y.to) world) (λ _ v. good y.to v) ≡ bind (put_out (copied here.member (x.from + p) bytes) (pass bytes y.to) (taking g₀.layout (copied here.member (x.from + p) bytes) B.events) world) (λ _ v. good y.to v)
      unfolding copy_here
      copied_is = ap (λ (v : Layout). bind (put_out (copied here.member (x.from + p) bytes) (pass bytes y.to) (taking v (copied here.member (x.from + p) bytes) B.events) world) (λ _ v₁. good y.to v₁)) st.written.layout

      copied_on : (to : ℕ) (t' ls' : List ℕ) (b : Ran) (r : Passed) → act ≡ None → to ≡ sum_to greatest x.from y.to → here.member < 32 → PutIs (copied here.member place (part (to - place) place s)) (length s) to t ls g here.member place t' ls' b → r ≡ pass_for b y.to
          → PassedAs deck rows names here.starts g₀ B c l h w t' ls' r (turn_here here.member x.from text p (world_in B c l h g₀.meter.used))
      copied_on to t' ls' b r e i mm pt j =
          let g₁ : Progress = with_meter g₀ paid.meter in
          let k : PutIs (copied here.member (x.from + p) bytes) (length s) (x.from + y.to) t ls g₁ here.member (x.from + p) t' ls' b = rw (gi, place_is li lt, end_is to i, bytes_are) at pt in
          let a : turn_here here.member x.from text p (world_in B c l h g₀.meter.used) ≡ placed (stop here.member (x.from + p)) (token_here mixed D.not_active here.member (x.from + p) text p y.to pass world) = turn_is D.not_active (sym active_at_lem ∙ ap active_for e) in
          let d : RanAs deck rows names here.starts g₁ B c l h w t' ls' b (placed (stop here.member (x.from + p)) (put_out (copied here.member (x.from + p) bytes) (pass bytes y.to) (taking g₀.layout (copied here.member (x.from + p) bytes) B.events) world)) =
          put_ran deck rows names c l h w t ls t' ls' here.starts g₁ here.member (x.from + p) (copied here.member (x.from + p) bytes) B (stage_now B st) (pass bytes y.to) b (length s) (x.from + y.to) k (sym li.sized) mm (omega (arith, past_place.1, li.within, li.short)) (omega (arith, length_part (y.to - p) p text, past_place.0)) (omega (arith, length_part (y.to - p) p text, past_place.1, li.within, li.short)) in
          let n : PassedAs deck rows names here.starts g₁ B c l h w t' ls' (pass_for b y.to) (passing y.to (placed (stop here.member (x.from + p)) (put_out (copied here.member (x.from + p) bytes) (pass bytes y.to) (taking g₀.layout (copied here.member (x.from + p) bytes) B.events) world))) =
          pass_ran deck rows names c l h w t' ls' here.starts g₁ B b y.to _ d in
          rw (a, copied_is, placed_pass (stop here.member (x.from + p)) (put_out (copied here.member (x.from + p) bytes) (pass bytes y.to) (taking g₀.layout (copied here.member (x.from + p) bytes) B.events) world) y.to, j)
          (passed_meter deck rows names c l h w t' ls' here.starts g₀ B paid.meter (pass_for b y.to) _ n)

      replaced_on : (a : Address) (v : Activity) (c' l' h' w' t' ls' : List ℕ) (r : Passed) → act ≡ Some (a, v) → here.member < 32 → ReplacingIs deck s rows names c l h w t ls x p y.to a.0 v here g c' l' h' w' t' ls' r
          → PassedAs deck rows names here.starts g₀ B c' l' h' w' t' ls' r (turn_here here.member x.from text p (world_in B c l h g₀.meter.used))
      replaced_on a v c' l' h' w' t' ls' r e mm ri =
          let g₁ : Progress = with_meter g₀ paid.meter in
          let k : ReplacingIs deck s rows names c l h w t ls x p y.to a.0 v here g₁ c' l' h' w' t' ls' r = rw gi at ri in
          let i : D.active_in (piece_at mixed text p).piece world ≡ D.active a.0 (activity_of v) = sym active_at_lem ∙ ap active_for e in
          let aw : Awakened world a.0 (activity_of v) = awakened world (piece_at mixed text p).piece a.0 (activity_of v) i in
          let low : a.0 < g₀.names = omega (arith, aw.low, ap (λ (z : List W.Identifier). length z) st.awake.identifiers, ids_length deck names 0 g₀.names) in
          rw (turn_is (D.active a.0 (activity_of v)) i)
          (passed_meter deck rows names c' l' h' w' t' ls' here.starts g₀ B paid.meter r _ (k.is B (stage_now B st) li wk lt mm low (on_is v aw.on) pass))

    pub turn_copied : (to : ℕ) (t' ls' : List ℕ) (b : Ran) → act ≡ None → to ≡ sum_to greatest x.from y.to → PutIs (copied here.member place (part (to - place) place s)) (length s) to t ls g here.member place t' ls' b
        → TokenIs deck s rows names c l h w t ls x p here g₀ c l h w t' ls' (pass_for b y.to)
    turn_copied to t' ls' b e i pt = record { is = λ B st li wk lt mm. copied_on B st li wk lt to t' ls' b (pass_for b y.to) e i mm pt refl }

    pub turn_replaced : (a : Address) (v : Activity) (c' l' h' w' t' ls' : List ℕ) (r : Passed) → act ≡ Some (a, v) → ReplacingIs deck s rows names c l h w t ls x p y.to a.0 v here g c' l' h' w' t' ls' r
        → TokenIs deck s rows names c l h w t ls x p here g₀ c' l' h' w' t' ls' r
    turn_replaced a v c' l' h' w' t' ls' r e ri = record { is = λ B st li wk lt mm. replaced_on B st li wk lt a v c' l' h' w' t' ls' r e mm ri }
