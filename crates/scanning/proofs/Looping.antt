-- The tokens one after the other.
-- Assumes nothing.
use Rattle.outcomes.specs.Types.{Replaced}
use Rattle.std.proofs.Common.{Result, Ok, Err}
use mathlib.Core.Path.{◌≡◌, refl, sym, ap, ◌∙◌}
use mathlib.Core.Bool.{Bool, true, false}
use mathlib.Core.List.{List, ◌++◌}
use Prim.Native.Nat.{ℕ, zero, suc, ◌+◌, ◌-◌, ◌<◌, ◌≤◌}
use native.Mathlib.Numerals.{add-one}
use native.Mathlib.Omega.{arith}
use borrow.Author.Tests.{le-leb, lt-leb}
use lib.ListN.{length}
use Rattle.definition.specs.Bytes.{mixed}
use Rattle.definition.specs.Choice.{when}
use Rattle.definition.specs.Lists.{part}
use Rattle.definition.specs.Steps.{is_left, used_after}
use Rattle.definition.specs.Tokens.{piece_at}
use Rattle.definition.specs.World.{World, Res, good, bad, bind, charge}
use Rattle.definition.specs.Scan as D
use Rattle.definition.specs.Scan.{Into, Replacer}
use Rattle.definition.specs.declared.Why.{Why}
use Rattle.definition.specs.declared.Why.TheVariants.{NoStep}
use Rattle.meter.specs.declared.Meter.{Meter}
use Rattle.meter.specs.Charges.{Charges, Charged, charged_for, ChargedAs}
use Rattle.callees.specs.Shown.{world_in}
use Rattle.operators.proofs.Callers.{below_less}
use Rattle.outcomes.specs.declared.Src.{Src}
use Rattle.outcomes.specs.declared.Dest.{Dest}
use Rattle.outcomes.specs.Texts.{text_of}
use Rattle.outcomes.specs.Places.{into_of, after_of, waiting_of, out_in}
use Rattle.operands.specs.declared.Scene.{Scene}
use Rattle.sums.specs.Numbers.{greatest, sum_to}
use Rattle.sums.proofs.Laws.{sum_fits}
use Rattle.scanning.specs.Cycle.{Sourced, Aims, Stage, Put, Left, Came, Gone, scanner_in, replacer_in, Scans, token_by, token_at, TokenIs}
use Rattle.scanning.proofs.Common.{bool_has, source_same, source_still, text_length, stage_on, aims_same, wait_low, wait_work, out_length, out_none, put_none, out_next, put_next, left_same, came_bad}

-- ---- a step
module _ (B : World) (c l h : List ℕ) (m : Meter) (r : Charged) (k : Charges m r) (e : m.limit ≡ B.limit) where
  pub charge_paid : r.paid ≡ true → charge (world_in B c l h m.used) ≡ good tt (world_in B c l h r.meter.used)
  unfolding charge
  charge_paid p =
      let f : is_left B.limit m.used ≡ true = rw (← e) (sym k.paid ∙ p) in
      let g : used_after B.limit m.used ≡ r.meter.used = rw (← e) (sym k.used) in
      rw (f, g)

  pub charge_none : r.paid ≡ false → charge (world_in B c l h m.used) ≡ bad NoStep r.meter.used
  unfolding charge used_after
  charge_none p =
      let f : is_left B.limit m.used ≡ false = rw (← e) (sym k.paid ∙ p) in
      let g : r.meter.used ≡ m.used = k.used ∙ rw (e, f) in
      rw (f, g)

-- ---- a token, and what follows
abbrev On : Type 0
On = List ℕ → ℕ → World → Res Why (List ℕ)

pub token_bind : (a : D.Active) (f : Replacer) (i : Into) (t out : List ℕ) (u p q : ℕ) (w : World) (on : On)
    → D.token a f i t out u p q w on ≡ bind (token_by a f i t (length out) u p q w) (λ r v. on (out ++ r.bytes) r.to v)
token_bind D.not_active f i t out u p q w on = by (D.fits i u (length out) (q - p))
  where
    by : (b : Bool) → when b (λ _. on (out ++ part (q - p) p t) q w) (λ _. bad (D.full i) w.used)
        ≡ bind {A = D.Replaced} (when b (λ _. good (record { bytes = part (q - p) p t; to = q }) w) (λ _. bad (D.full i) w.used)) (λ r v. on (out ++ r.bytes) r.to v)
    by true = refl
    by false = refl
token_bind (D.active a y) f i t out u p q w on = refl

-- ---- THE INVARIANT: what is left to scan, behind the outcome so far, gives what all gives
pub record Going (s c₀ l₀ h₀ w₀ t₀ : List ℕ) (x : Src) (o : Dest) (u n : ℕ) (sc : Scene) (m₀ : Meter) (B : World) (turns k p : ℕ) (m : Meter) (c l h w t : List ℕ) : Type 0 where
  pub same : D.scan_on mixed (replacer_in sc n) (into_of o) (text_of s w₀ x) u turns (out_in o t w u k) p (world_in B c l h m.used) ≡ scanner_in sc n (into_of o) (text_of s w₀ x) u (world_in B c₀ l₀ h₀ m₀.used)
  pub put : Put B o u t₀ w t k
  pub left : Left B u w₀ t₀ c l h w t m

pub record Scanning (deck s rows names c₀ l₀ h₀ w₀ t₀ : List ℕ) (x : Src) (o : Dest) (u n : ℕ) (sc : Scene) (m₀ : Meter) (turns k p : ℕ) (m : Meter) (c l h w t : List ℕ) : Type 0 where
  pub so : (B : World) → Stage deck rows names c₀ l₀ h₀ w₀ u sc m₀ t₀ o B → Sourced s w₀ x u → Going s c₀ l₀ h₀ w₀ t₀ x o u n sc m₀ B turns k p m c l h w t

pub scanning_start : (deck s rows names c l h w t : List ℕ) (x : Src) (o : Dest) (u n : ℕ) (sc : Scene) (m : Meter) (size turns : ℕ) → size ≡ x.to - x.from → turns ≡ sum_to greatest size 1
    → Scanning deck s rows names c l h w t x o u n sc m turns 0 0 m c l h w t
unfolding scanner_in replacer_in
scanning_start deck s rows names c l h w t x o u n sc m size turns e f = record {
  so = λ B g k. record {
    same =
        let j : turns ≡ suc (length (text_of s w x)) = f ∙ sum_fits size 1 (omega (arith, k.within.short)) ∙ add-one size ∙ ap suc (e ∙ sym (text_length s w x)) in
        rw (out_none o t w u, j);
    put = put_none B o u w t g.shows.taken;
    left = left_same deck rows names c l h w u sc m t o B g;
  };
}

module _ (deck s rows names c₀ l₀ h₀ w₀ t₀ : List ℕ) (x : Src) (o : Dest) (u n : ℕ) (sc : Scene) (m₀ : Meter) (turns k p : ℕ) (m : Meter) (c l h w t : List ℕ)
    (i : Scanning deck s rows names c₀ l₀ h₀ w₀ t₀ x o u n sc m₀ turns k p m c l h w t) where
  end_by : (f : ℕ) → turns ≡ f → ((v : ℕ) → f ≡ suc v → x.to - x.from ≤ p) → Scans deck s rows names c₀ l₀ h₀ w₀ t₀ x o u n sc m₀ c l h w t (Ok (k, m))
  unfolding D.scan_on
  end_by zero e j = record { is = λ B g q. let z = i.so B g q in record { is = rw e at z.same; put = z.put; left = z.left } }
  end_by (suc f) e j = record { is = λ B g q. let z = i.so B g q in record { is = rw (e, le-leb (length (text_of s w₀ x)) p (omega (arith, text_length s w₀ x, j f refl))) at z.same; put = z.put; left = z.left } }

  pub scanning_end : (size : ℕ) → size ≡ x.to - x.from → size ≤ p → Scans deck s rows names c₀ l₀ h₀ w₀ t₀ x o u n sc m₀ c l h w t (Ok (k, m))
  scanning_end size e f = end_by turns refl (λ v _. omega arith)

  pub scanning_out : turns ≤ 0 → Scans deck s rows names c₀ l₀ h₀ w₀ t₀ x o u n sc m₀ c l h w t (Ok (k, m))
  scanning_out f = end_by turns refl (λ v e. absurd (omega arith))

  module _ (size : ℕ) (e : size ≡ x.to - x.from) (lt : p < size) (go : 0 < turns) (r : Charged) (ch : Charges m r) where
    module _ (B : World) (g : Stage deck rows names c₀ l₀ h₀ w₀ u sc m₀ t₀ o B) (q : Sourced s w₀ x u) where
      abbrev text : List ℕ
      text = text_of s w₀ x

      abbrev all : Res Why (List ℕ)
      all = scanner_in sc n (into_of o) text u (world_in B c₀ l₀ h₀ m₀.used)

      now_is : Going s c₀ l₀ h₀ w₀ t₀ x o u n sc m₀ B turns k p m c l h w t
      now_is = i.so B g q

      turn : (f : ℕ) → turns ≡ suc f → bind (charge (world_in B c l h m.used)) (λ _ v. D.token (D.active_in (piece_at mixed text p).piece v) (replacer_in sc n) (into_of o) text (out_in o t w u k) u p (piece_at mixed text p).to v (λ o₁ q₁ x₁. D.scan_on mixed (replacer_in sc n) (into_of o) text u f o₁ q₁ x₁)) ≡ all
      unfolding D.scan_on
      turn f j = rw (j, lt-leb (length text) p (omega (arith, text_length s w₀ x))) at now_is.same

      stage_now : Stage deck rows names c l h w u sc r.meter t o B
      stage_now = stage_on deck rows names c₀ l₀ h₀ w₀ u sc m₀ t₀ o B c l h w u r.meter t o g now_is.left.slots now_is.left.work g.shows.taken (ch.limit ∙ now_is.left.limit) (aims_same t₀ t o g.aims now_is.left.long)

      none_is : r.paid ≡ false → (f : ℕ) → turns ≡ suc f → bad NoStep r.meter.used ≡ all
      none_is j f v = rw (charge_none B c l h m r ch now_is.left.limit j) at (turn f v)

      paid_is : r.paid ≡ true → (f : ℕ) → turns ≡ suc f
          → bind (token_at (replacer_in sc n) (into_of o) text k u p (world_in B c l h r.meter.used)) (λ y v. D.scan_on mixed (replacer_in sc n) (into_of o) text u f (out_in o t w u k ++ y.bytes) y.to v) ≡ all
      unfolding token_at
      paid_is j f v =
          let a : D.token (D.active_in (piece_at mixed text p).piece (world_in B c l h r.meter.used)) (replacer_in sc n) (into_of o) text (out_in o t w u k) u p (piece_at mixed text p).to (world_in B c l h r.meter.used) (λ o₁ q₁ x₁. D.scan_on mixed (replacer_in sc n) (into_of o) text u f o₁ q₁ x₁) ≡ all =
          rw (charge_paid B c l h m r ch now_is.left.limit j) at (turn f v) in
          let b = token_bind (D.active_in (piece_at mixed text p).piece (world_in B c l h r.meter.used)) (replacer_in sc n) (into_of o) text (out_in o t w u k) u p (piece_at mixed text p).to (world_in B c l h r.meter.used) (λ o₁ q₁ x₁. D.scan_on mixed (replacer_in sc n) (into_of o) text u f o₁ q₁ x₁) in
          rw (out_length o t w u k) at (sym b ∙ a)

      source_now : text_of s w x ≡ text
      source_now = source_same s w₀ w x u q now_is.left.below

      gone_is : (c' l' h' w' t' : List ℕ) (y : Replaced) → TokenIs deck s rows names c l h w t x p k o u n sc r.meter c' l' h' w' t' y
          → Gone B (after_of o k) (waiting_of o u k) w t c' l' h' w' t' y (token_at (replacer_in sc n) (into_of o) text k u p (world_in B c l h r.meter.used))
      gone_is c' l' h' w' t' y tk = rw source_now at (tk.is B stage_now (source_still s w₀ w x u u q now_is.left.work (omega arith)) (omega arith) now_is.put.room now_is.put.fits)

      -- what is left below u
      left_on : (c' l' h' w' t' : List ℕ) (m' : Meter) → Left B (waiting_of o u k) w t c' l' h' w' t' m' → Left B u w₀ t₀ c' l' h' w' t' m'
      left_on c' l' h' w' t' m' z = record {
        below = below_less u (waiting_of o u k) w w' (wait_low o u k now_is.put.fits) z.below ∙ now_is.left.below;
        work = z.work ∙ now_is.left.work;
        long = z.long ∙ now_is.left.long;
        limit = z.limit;
        slots = z.slots;
      }

      bad_on : (c' l' h' w' t' : List ℕ) (b : Why) (m' : Meter) → TokenIs deck s rows names c l h w t x p k o u n sc r.meter c' l' h' w' t' (Err (b, m')) → r.paid ≡ true → Came B o u w₀ t₀ c' l' h' w' t' (Err (b, m')) all
      bad_on c' l' h' w' t' b m' tk j =
          let z = gone_is c' l' h' w' t' (Err (b, m')) tk in
          came_bad B o u w₀ t₀ c' l' h' w' t' b m' all (rw (← z.is) at (paid_is j (turns - 1) (omega arith))) (left_on c' l' h' w' t' m' z.left)

      sum_is : (c' l' h' w' t' : List ℕ) (j k' : ℕ) → Put B (after_of o k) (waiting_of o u k) t w' t' j → k' ≡ sum_to greatest k j → k' ≡ k + j
      sum_is c' l' h' w' t' j k' z v = v ∙ sum_fits k j (bool_has _ o.to_work
          (λ a. omega (arith, z.fits a, wait_work o u k a (now_is.put.fits a)))
          (λ a. omega (arith, z.room, now_is.put.room, g.aims.short a)))

      good_on : (c' l' h' w' t' : List ℕ) (j k' p' : ℕ) (m' : Meter) → TokenIs deck s rows names c l h w t x p k o u n sc r.meter c' l' h' w' t' (Ok (j, p', m')) → r.paid ≡ true → k' ≡ sum_to greatest k j
          → Going s c₀ l₀ h₀ w₀ t₀ x o u n sc m₀ B (turns - 1) k' p' m' c' l' h' w' t'
      good_on c' l' h' w' t' j k' p' m' tk a b =
          let z = gone_is c' l' h' w' t' (Ok (j, p', m')) tk in
          let v : k' ≡ k + j = sum_is c' l' h' w' t' j k' z.put b in
          let aim : Aims t o = aims_same t₀ t o g.aims now_is.left.long in
          let y : out_in o t' w' u (k + j) ≡ out_in o t w u k ++ out_in (after_of o k) t' w' (waiting_of o u k) j = out_next B o u t₀ w t w' t' k j aim now_is.put z.put z.left.below in
          record {
            same = rw (v, y) (rw (← z.is) at (paid_is a (turns - 1) (omega arith)));
            put = rw v (put_next B o u t₀ w t w' t' k j aim now_is.put z.put z.left.below);
            left = left_on c' l' h' w' t' m' z.left;
          }

    not_paid : r.paid ≡ false → Scans deck s rows names c₀ l₀ h₀ w₀ t₀ x o u n sc m₀ c l h w t (Err (NoStep, r.meter))
    not_paid j = record {
      is = λ B g q.
          let z = now_is B g q in
          came_bad B o u w₀ t₀ c l h w t NoStep r.meter _ (none_is B g q j (turns - 1) (omega arith)) (record { below = z.left.below; work = z.left.work; long = z.left.long; limit = ch.limit ∙ z.left.limit; slots = z.left.slots });
    }

    module _ (c' l' h' w' t' : List ℕ) (y : Replaced) (tk : TokenIs deck s rows names c l h w t x p k o u n sc r.meter c' l' h' w' t' y) (paid : r.paid ≡ true) where
      pub scanning_bad : (b : Why) (m' : Meter) → y ≡ Err (b, m') → Scans deck s rows names c₀ l₀ h₀ w₀ t₀ x o u n sc m₀ c' l' h' w' t' (Err (b, m'))
      scanning_bad b m' j = record { is = λ B g q. bad_on B g q c' l' h' w' t' b m' (rw j at tk) paid }

      pub scanning_more : (j k' p' : ℕ) (m' : Meter) → y ≡ Ok (j, p', m') → k' ≡ sum_to greatest k j → (fewer : ℕ) → fewer ≡ turns - 1
          → Scanning deck s rows names c₀ l₀ h₀ w₀ t₀ x o u n sc m₀ fewer k' p' m' c' l' h' w' t'
      scanning_more j k' p' m' v b fewer ef = rw ef record {
        so = λ B g q. good_on B g q c' l' h' w' t' j k' p' m' (rw v at tk) paid b;
      }

  -- no step is left
  pub scanning_none : (size : ℕ) → size ≡ x.to - x.from → p < size → 0 < turns → (v : Result Meter (Why × Meter)) → ChargedAs m v → (y : Why) (j : Meter) → v ≡ Err (y, j) → Scans deck s rows names c₀ l₀ h₀ w₀ t₀ x o u n sc m₀ c l h w t (Err (y, j))
  scanning_none size e lt go v ch y j f =
      let unpaid : (charged_for v).paid ≡ false = rw f in
      rw (ch.why y j f) (rw f at (not_paid size e lt go (charged_for v) ch.is unpaid))
