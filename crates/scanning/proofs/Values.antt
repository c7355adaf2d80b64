-- Values: rescanned or copied, and those of calls.
-- Assumes nothing.
use Rattle.outcomes.specs.Types.{Scanned}
use Rattle.operands.specs.Types.{Evaluated}
use Rattle.std.proofs.Common.{Result, Ok, Err}
use Rattle.operators.specs.declared.Value.{Value}
use mathlib.Core.Path.{◌≡◌, refl, sym, ap, ◌∙◌}
use mathlib.Core.Bool.{Bool, true, false, cond}
use mathlib.Core.List.{List}
use Prim.Native.Nat.{ℕ, ◌+◌, ◌-◌, ◌≤◌}
use native.Mathlib.Omega.{arith}
use borrow.Author.Tests.{leb-true, leb-false, lt-leb}
use lib.Dec.{leb}
use lib.ListN.{length, take}
use Rattle.definition.specs.Lists.{part}
use Rattle.definition.specs.Room.{over}
use Rattle.definition.specs.Values as Val
use Rattle.definition.specs.World as W
use Rattle.definition.specs.World.{World, Res, good, bad, bind, ask}
use Rattle.definition.specs.Evaluate as Ev
use Rattle.definition.specs.Scan as D
use Rattle.definition.specs.declared.Why.{Why}
use Rattle.definition.specs.declared.Why.TheVariants.{TooLong}
use Rattle.definition.proofs.Parts.{length_part}
use Rattle.definition.proofs.Rooms.{length_over}
use Rattle.meter.specs.declared.Meter.{Meter}
use Rattle.names.specs.declared.Activity.{Activity}
use Rattle.names.specs.declared.Activity.TheVariants as A
use Rattle.names.specs.Table.{activity_of}
use Rattle.operators.specs.Stands.{top_of, given_in}
use Rattle.operators.proofs.Room.{top_in_lem, part_written, below_over}
use Rattle.operators.proofs.Callers.{below_less}
use Rattle.callees.specs.declared.Callee.{Callee}
use Rattle.callees.specs.declared.Held.{Held}
use Rattle.callees.specs.Shown.{world_in}
use Rattle.callees.specs.Answer.{read_in, held_from}
use Rattle.outcomes.specs.declared.Dest.{Dest}
use Rattle.outcomes.specs.Texts.{room_of, stretch_of, text_of}
use Rattle.outcomes.specs.Places.{into_of, out_in, characters_at, characters_of, TextIs, settled_in, Settled}
use Rattle.outcomes.specs.Copies.{is_rescanned, copied_value, work_copied, text_copied, CopiedValue, held_by, CopiedAs, CopiedFrom}
use Rattle.outcomes.proofs.Meaning.{copied_out}
use Rattle.operands.specs.declared.Scene.{Scene}
use Rattle.operands.specs.Answer.{Gave, run_in}
use Rattle.evaluating.specs.Cycle.{CallIs}
use Rattle.scanning.specs.Cycle.{Sourced, Stage, text_with, Came, scanner_in, is_on, Scans, outcome_of, RescanIs, CallWith, given_for, meter_for}
use Rattle.scanning.proofs.Common.{never, bool_has, stage_on, out_work, out_text, with_work, with_text, came_bad, left_same}
use Rattle.scanning.proofs.Tokens.{fits_room, fits_work}

-- an outcome that came after a change of the work room above u
pub came_over : (B : World) (o : Dest) (u : ℕ) (w w₂ t c l h w' t' : List ℕ) (r : Scanned) (Q : Res Why (List ℕ)) → take u w₂ ≡ take u w → length w₂ ≡ length w → Came B o u w₂ t c l h w' t' r Q → Came B o u w t c l h w' t' r Q
came_over B o u w w₂ t c l h w' t' r Q e f g = record {
  is = g.is;
  put = g.put;
  left = record { below = g.left.below ∙ e; work = g.left.work ∙ f; long = g.left.long; limit = g.left.limit; slots = g.left.slots };
}

-- ---- the outcome of a value, by its characters
module _ (sc : Scene) (n : ℕ) (o : Dest) (u : ℕ) (k : World) where
  outcome_fails : (a : Val.Answer Val.Value) (e : Why) → characters_of u a ≡ Val.fails e → outcome_of sc n W.rescanned o u a k ≡ bad e k.used
  unfolding outcome_of characters_of characters_at
  outcome_fails (Val.fails y) e f = let i : y ≡ e = cc in rw i
  outcome_fails (Val.gives v) e f = by (leb (u + length (Val.to_characters v)) 65536) refl f
    where
      by : (b : Bool) → leb (u + length (Val.to_characters v)) 65536 ≡ b → cond b (Val.gives (Val.to_characters v)) (Val.fails TooLong) ≡ Val.fails e → outcome_of sc n W.rescanned o u (Val.gives v) k ≡ bad e k.used
      by true g i = never _ (cc)
      by false g i = let j : TooLong ≡ e = cc in rw g (ap (λ (z : Why). bad z k.used) j)

  outcome_gives : (a : Val.Answer Val.Value) (l : List ℕ) → characters_of u a ≡ Val.gives l → (outcome_of sc n W.rescanned o u a k ≡ scanner_in sc n (into_of o) l (u + length l) k) × (u + length l ≤ 65536)
  unfolding outcome_of characters_of characters_at
  outcome_gives (Val.fails y) l f = never _ (cc)
  outcome_gives (Val.gives v) l f = by (leb (u + length (Val.to_characters v)) 65536) refl f
    where
      by : (b : Bool) → leb (u + length (Val.to_characters v)) 65536 ≡ b → cond b (Val.gives (Val.to_characters v)) (Val.fails TooLong) ≡ Val.gives l → (outcome_of sc n W.rescanned o u (Val.gives v) k ≡ scanner_in sc n (into_of o) l (u + length l) k) × (u + length l ≤ 65536)
      by true g i = let j : Val.to_characters v ≡ l = cc in (rw g (ap (λ (z : List ℕ). scanner_in sc n (into_of o) z (u + length z) k) j), omega (arith, leb-true (u + length (Val.to_characters v)) 65536 g, ap length j))
      by false g i = never _ (cc)

  -- a value that is too long while it waits is too long to be scanned
  size_fits : (v : Val.Value) → leb (u + Val.size_of v) 65536 ≡ false → leb (u + length (Val.to_characters v)) 65536 ≡ false
  unfolding Val.to_characters
  size_fits (Val.fixed z) e = lt-leb (u + length (Val.fixed_text z)) 65536 (omega (arith, leb-false (u + 0) 65536 e))
  size_fits (Val.characters l) e = e
  size_fits (Val.bit_value l) e = e

  pub outcome_read : (cl : W.Cell) → outcome_of sc n W.rescanned o u (read_in cl u) k ≡ outcome_of sc n W.rescanned o u (held_by cl) k
  unfolding outcome_of Val.unfinished
  outcome_read W.no_value = refl
  outcome_read (W.holds v) = by (leb (u + Val.size_of v) 65536) refl
    where
      by : (b : Bool) → leb (u + Val.size_of v) 65536 ≡ b → bind (ask (cond b (Val.gives v) (Val.fails TooLong)) k) (λ y z. D.outcome W.rescanned (scanner_in sc n) (into_of o) u (Val.to_characters y) z) ≡ outcome_of sc n W.rescanned o u (Val.gives v) k
      by true e = refl
      by false e = rw (size_fits v e)

-- ---- the ways out of rescan
-- the outcome of a text of k bytes at u, scanned above it, comes down to u
module _ (o : Dest) (u k : ℕ) (w t c l h w₁ t' w' : List ℕ) (B : World) (room : 65536 ≤ length w) (z : Scanned) (Q : Res Why (List ℕ)) (cm : Came B o (u + k) w t c l h w₁ t' z Q) where
  down_by : (v : Scanned) → z ≡ v → w' ≡ settled_in o.to_work w₁ u k v → Came B o (u + k) w t c l h w₁ t' v Q → Came B o u w t c l h w' t' v Q
  down_by (Err (b, m')) e f g =
      let i : w' ≡ w₁ = f ∙ same_bad o.to_work in
      rw i (came_bad B o u w t c l h w₁ t' b m' Q g.is (record { below = below_less u (u + k) w w₁ (omega arith) g.left.below; work = g.left.work; long = g.left.long; limit = g.left.limit; slots = g.left.slots }))
    where
      same_bad : (v : Bool) → settled_in v w₁ u k (Err (b, m')) ≡ w₁
      same_bad true = refl
      same_bad false = refl
  down_by (Ok (j, m')) e f g =
      let lp : length (part j (u + k) w₁) ≡ j = length_part j (u + k) w₁ in
      let tw : o.to_work ≡ true → w' ≡ over w₁ u (part j (u + k) w₁) = λ i. f ∙ rw i in
      let tx : o.to_work ≡ false → w' ≡ w₁ = λ i. f ∙ rw i in
      let out : out_in o t' w' u j ≡ out_in o t' w₁ (u + k) j = bool_has (out_in o t' w' u j ≡ out_in o t' w₁ (u + k) j) o.to_work
      (λ i. out_work o t' w' u j i ∙ part_written j u w₁ w' (part j (u + k) w₁) (sym lp) (tw i) (omega (arith, lp, g.put.fits i, g.left.work, room)) ∙ sym (out_work o t' w₁ (u + k) j i))
      (λ i. out_text o t' w' u j i ∙ sym (out_text o t' w₁ (u + k) j i)) in
      record {
        is = ap (λ (i : List ℕ). good i (world_in B c l h m'.used)) out ∙ g.is;
        put = record { text = g.put.text ∙ ap (λ (i : List ℕ). text_with o i t) (sym out); room = g.put.room; fits = λ i. omega (arith, g.put.fits i) };
        left = record {
          below = bool_has (take u w' ≡ take u w₁) o.to_work (λ i. below_over u u w₁ w' (part j (u + k) w₁) (omega arith) (tw i)) (λ i. ap (take u) (tx i)) ∙ below_less u (u + k) w w₁ (omega arith) g.left.below;
          work = bool_has (length w' ≡ length w₁) o.to_work (λ i. ap length (tw i) ∙ length_over w₁ u (part j (u + k) w₁)) (λ i. ap length (tx i)) ∙ g.left.work;
          long = g.left.long;
          limit = g.left.limit;
          slots = g.left.slots;
        };
      }

  down : w' ≡ settled_in o.to_work w₁ u k z → Came B o u w t c l h w' t' z Q
  down f = down_by z refl f cm

module _ (deck s rows names c l h w t : List ℕ) (g : Result Value Why) (o : Dest) (u n : ℕ) (sc : Scene) (m : Meter) (w₁ : List ℕ) (x : Scanned) (tx : TextIs w u g m w₁ x) (e₁ : length w₁ ≡ length w) where
  bad_by : (e : Why) (k : Meter) → x ≡ Err (e, k) → (B : World) → Stage deck rows names c l h w u sc m t o B → Came B o u w t c l h w₁ t (Err (e, k)) (outcome_of sc n W.rescanned o u (given_in w u g) (world_in B c l h m.used))
  bad_by e k f B st =
      let d : characters_of u (given_in w u g) ≡ Val.fails e = sym (rw f at (tx.is st.shows.work)) in
      let i : k ≡ m = rw f at tx.meter in
      rw i (came_bad B o u w t c l h w₁ t e m _ (sym (outcome_fails sc n o u (world_in B c l h m.used) (given_in w u g) e d)) (record { below = tx.below; work = e₁; long = refl; limit = st.shows.limit; slots = st.shows.slots }))

  pub rescan_bad : (e : Why) (k : Meter) → x ≡ Err (e, k) → RescanIs deck s rows names c l h w t g o u n sc m c l h w₁ t (Err (e, k))
  rescan_bad e k f = record { is = λ B st. bad_by e k f B st }

  module _ (k : ℕ) (mk : Meter) (f : x ≡ Ok (k, mk)) (c' l' h' w₂ t' w' : List ℕ) (z r : Scanned) (sd : Settled w₂ o u k z w' r) where
    scanned_by : (B : World) → Stage deck rows names c l h w u sc m t o B → (top : ℕ) → top ≡ top_of u k → Scans deck s rows names c l h w₁ t (record { in_work = true; from = u; to = top }) o top n sc mk c' l' h' w₂ t' z
        → Came B o u w t c' l' h' w' t' r (outcome_of sc n W.rescanned o u (given_in w u g) (world_in B c l h m.used))
    unfolding text_of stretch_of room_of
    scanned_by B st top i sn =
        let d : characters_of u (given_in w u g) ≡ Val.gives (part k u w₁) = sym (rw f at (tx.is st.shows.work)) in
        let j : mk ≡ m = rw f at tx.meter in
        let lp : length (part k u w₁) ≡ k = length_part k u w₁ in
        let og : (outcome_of sc n W.rescanned o u (given_in w u g) (world_in B c l h m.used) ≡ scanner_in sc n (into_of o) (part k u w₁) (u + length (part k u w₁)) (world_in B c l h m.used)) × (u + length (part k u w₁) ≤ 65536) = outcome_gives sc n o u (world_in B c l h m.used) (given_in w u g) (part k u w₁) d in
        let tf : u + k ≤ 65536 = omega (arith, og.1) in
        let it : top ≡ u + k = i ∙ top_in_lem u k tf in
        let q : outcome_of sc n W.rescanned o u (given_in w u g) (world_in B c l h m.used) ≡ scanner_in sc n (into_of o) (part k u w₁) (u + k) (world_in B c l h m.used) = og.0 ∙ ap (λ (v : ℕ). scanner_in sc n (into_of o) (part k u w₁) (u + v) (world_in B c l h m.used)) lp in
        let ss : Sourced s w₁ (record { in_work = true; from = u; to = u + k }) (u + k) = record { within = record { order = omega arith; within = omega (arith, st.shows.work); short = omega arith }; below = λ _. omega arith } in
        let sg : Stage deck rows names c l h w₁ (u + k) sc m t o B = stage_on deck rows names c l h w u sc m t o B c l h w₁ (u + k) m t o st st.shows.slots e₁ tf st.shows.limit st.aims in
        let sn₁ : Scans deck s rows names c l h w₁ t (record { in_work = true; from = u; to = u + k }) o (u + k) n sc m c' l' h' w₂ t' z = rw (it, j) at sn in
        let v : u + k - u ≡ k = omega arith in
        let cm : Came B o (u + k) w₁ t c' l' h' w₂ t' z (scanner_in sc n (into_of o) (part k u w₁) (u + k) (world_in B c l h m.used)) = rw v at (sn₁.is B sg ss) in
        let C : Came B o u w₁ t c' l' h' w' t' z (scanner_in sc n (into_of o) (part k u w₁) (u + k) (world_in B c l h m.used)) = down o u k w₁ t c' l' h' w₂ t' w' B (omega (arith, st.shows.work)) z _ cm (sd.work tf) in
        rw (sd.is, q) (came_over B o u w w₁ t c' l' h' w' t' z _ tx.below e₁ C)

    pub rescan_scanned : (top : ℕ) → top ≡ top_of u k → Scans deck s rows names c l h w₁ t (record { in_work = true; from = u; to = top }) o top n sc mk c' l' h' w₂ t' z → RescanIs deck s rows names c l h w t g o u n sc m c' l' h' w' t' r
    rescan_scanned top i sn = record { is = λ B st. scanned_by B st top i sn }

-- ---- NORESCAN
module _ (deck rows names c l h w t : List ℕ) (o : Dest) (u n : ℕ) (sc : Scene) (m : Meter) (w' t' : List ℕ) (r : Scanned) (B : World) (g : Stage deck rows names c l h w u sc m t o B) where
  value_by : (v : Val.Value) → CopiedValue w t (Val.to_characters v) o u m w' t' r → (b : Bool) → D.fits (into_of o) u 0 (length (Val.to_characters v)) ≡ b → Came B o u w t c l h w' t' r (outcome_of sc n W.copied_only o u (Val.gives v) (world_in B c l h m.used))
  unfolding outcome_of copied_value work_copied text_copied
  value_by v cv true f =
      let i : r ≡ Ok ((length (Val.to_characters v)), m) = cv.is ∙ rw f in
      let ww : o.to_work ≡ true → w' ≡ over w u (Val.to_characters v) = λ z. cv.work ∙ rw (f, z) in
      let wt : o.to_work ≡ false → w' ≡ w = λ z. cv.work ∙ rw (f, z) in
      let tw : o.to_work ≡ true → t' ≡ t = λ z. cv.text ∙ rw (f, z) in
      let tx : o.to_work ≡ false → t' ≡ over t o.at (Val.to_characters v) = λ z. cv.text ∙ rw (f, z) in
      let out : out_in o t' w' u (length (Val.to_characters v)) ≡ Val.to_characters v = copied_out w t (Val.to_characters v) o u m w' t' r cv g.shows.work g.aims.room f in
      let room : length (Val.to_characters v) ≤ o.room = omega (arith, fits_room o u 0 (length (Val.to_characters v)) f) in
      let q : outcome_of sc n W.copied_only o u (Val.gives v) (world_in B c l h m.used) ≡ good (Val.to_characters v) (world_in B c l h m.used) = rw f in
      rw i (record {
        is = ap (λ (z : List ℕ). good z (world_in B c l h m.used)) out ∙ sym q;
        put = record {
          text = bool_has (t' ≡ text_with o (out_in o t' w' u (length (Val.to_characters v))) t) o.to_work
              (λ z. tw z ∙ sym (with_work o (out_in o t' w' u (length (Val.to_characters v))) t z))
              (λ z. tx z ∙ ap (over t o.at) (sym out) ∙ sym (with_text o (out_in o t' w' u (length (Val.to_characters v))) t z));
          room = room;
          fits = λ z. omega (arith, fits_work o u 0 (length (Val.to_characters v)) f z);
        };
        left = record {
          below = bool_has (take u w' ≡ take u w) o.to_work (λ z. below_over u u w w' (Val.to_characters v) (omega arith) (ww z)) (λ z. ap (take u) (wt z));
          work = bool_has (length w' ≡ length w) o.to_work (λ z. ap length (ww z) ∙ length_over w u (Val.to_characters v)) (λ z. ap length (wt z));
          long = bool_has (length t' ≡ length t) o.to_work (λ z. ap length (tw z)) (λ z. ap length (tx z) ∙ length_over t o.at (Val.to_characters v));
          limit = g.shows.limit;
          slots = g.shows.slots;
        };
      })
  value_by v cv false f =
      let i : r ≡ Err ((D.full (into_of o)), m) = cv.is ∙ rw f in
      let j : w' ≡ w = cv.work ∙ rw f in
      let k : t' ≡ t = cv.text ∙ rw f in
      let q : outcome_of sc n W.copied_only o u (Val.gives v) (world_in B c l h m.used) ≡ bad (D.full (into_of o)) m.used = rw f in
      rw (i, j, k) (came_bad B o u w t c l h w t (D.full (into_of o)) m _ (sym q) (left_same deck rows names c l h w u sc m t o B g))

  copied_by : (a : Val.Answer Val.Value) → CopiedAs a w t o u m w' t' r → Came B o u w t c l h w' t' r (outcome_of sc n W.copied_only o u a (world_in B c l h m.used))
  unfolding outcome_of
  copied_by (Val.gives v) k = value_by v k (D.fits (into_of o) u 0 (length (Val.to_characters v))) refl
  copied_by (Val.fails y) k = rw (k.0, k.1, k.2) (came_bad B o u w t c l h w t y m _ refl (left_same deck rows names c l h w u sc m t o B g))

  -- with NORESCAN, of the value a
  pub copied_came : (a : Val.Answer Val.Value) → CopiedFrom a w t o u m w' t' r → Came B o u w t c l h w' t' r (outcome_of sc n W.copied_only o u a (world_in B c l h m.used))
  copied_came a k = copied_by a k.is

-- ---- which of the two
pub rescanned_is : (y : Activity) → is_rescanned y ≡ true → activity_of y ≡ W.rescanned
rescanned_is A.Inactive e = never _ (cc)
rescanned_is A.Rescanned e = refl
rescanned_is A.CopiedOnly e = never _ (cc)

pub copied_only_lem : (y : Activity) → is_rescanned y ≡ false → is_on y ≡ true → activity_of y ≡ W.copied_only
copied_only_lem A.Inactive e f = never _ (cc)
copied_only_lem A.Rescanned e f = never _ (cc)
copied_only_lem A.CopiedOnly e f = refl

-- ---- the ways out of call_with
module _ (deck s rows names c l h w t : List ℕ) (z : Callee) (k : Held) (y : Activity) (o : Dest) (u n : ℕ) (sc : Scene) (m : Meter) (c₁ l₁ h₁ w₁ : List ℕ) (v : Evaluated) (ca : CallIs deck rows names c l h w u sc m z k c₁ l₁ h₁ w₁ v) (e₁ : length w₁ ≡ length w)
    (gv : Result Value Why) (mm : Meter) (ig : gv ≡ given_for v) (im : mm ≡ meter_for v) (bb : Bool) (ib : bb ≡ is_rescanned y) where
  called_is : (B : World) (b : Ev.Callee) (vs : List Val.Value) (W₁ : World) (e : Evaluated) → Gave B u w c₁ l₁ h₁ w₁ e 0 (run_in sc b vs u W₁)
      → D.call_with (run_in sc) (scanner_in sc n) (activity_of y) (into_of o) u b vs W₁ ≡ outcome_of sc n (activity_of y) o u (given_in w₁ u (given_for e)) (world_in B c₁ l₁ h₁ (meter_for e).used)
  unfolding D.call_with outcome_of given_in
  called_is B b vs W₁ (Ok (vv, a, m')) G = rw (← G.is)
  called_is B b vs W₁ (Err (a, m')) G = rw (← G.is)

  limit_is : (B : World) (e : Evaluated) (R : Res Why Val.Value) → Gave B u w c₁ l₁ h₁ w₁ e 0 R → (meter_for e).limit ≡ B.limit
  limit_is B (Ok (vv, a, m')) R G = G.limit
  limit_is B (Err (a, m')) R G = G.limit

  stage_called : (B : World) (R : Res Why Val.Value) → Stage deck rows names c l h w u sc m t o B → Gave B u w c₁ l₁ h₁ w₁ v 0 R → Stage deck rows names c₁ l₁ h₁ w₁ u sc mm t o B
  stage_called B R g G = stage_on deck rows names c l h w u sc m t o B c₁ l₁ h₁ w₁ u mm t o g G.slots e₁ g.shows.taken (ap (λ (i : Meter). i.limit) im ∙ limit_is B v R G) g.aims

  outcome_is : (B : World) (b : Ev.Callee) (vs : List Val.Value) (W₁ : World) (a : W.Activity) → Gave B u w c₁ l₁ h₁ w₁ v 0 (run_in sc b vs u W₁) → activity_of y ≡ a
      → D.call_with (run_in sc) (scanner_in sc n) (activity_of y) (into_of o) u b vs W₁ ≡ outcome_of sc n a o u (given_in w₁ u gv) (world_in B c₁ l₁ h₁ mm.used)
  outcome_is B b vs W₁ a G e = called_is B b vs W₁ v G ∙ rw (ig, im, e)

  pub call_rescanned : (c' l' h' w' t' : List ℕ) (r : Scanned) → bb ≡ true → RescanIs deck s rows names c₁ l₁ h₁ w₁ t gv o u n sc mm c' l' h' w' t' r → CallWith deck s rows names c l h w t z k y o u n sc m c' l' h' w' t' r
  call_rescanned c' l' h' w' t' r ie re = record {
    is = λ B g on b cs wt.
        let G : Gave B u w c₁ l₁ h₁ w₁ v 0 (run_in sc b (held_from w k 0 u b.parameters) u (world_in B c l h m.used)) = ca.is B g.shows b cs wt in
        let q : D.call_with (run_in sc) (scanner_in sc n) (activity_of y) (into_of o) u b (held_from w k 0 u b.parameters) (world_in B c l h m.used) ≡ outcome_of sc n W.rescanned o u (given_in w₁ u gv) (world_in B c₁ l₁ h₁ mm.used) = outcome_is B b _ _ W.rescanned G (rescanned_is y (sym ib ∙ ie)) in
        rw q (came_over B o u w w₁ t c' l' h' w' t' r _ G.below e₁ (re.is B (stage_called B _ g G)));
  }

  pub call_copied : (w' t' : List ℕ) (r : Scanned) → bb ≡ false → CopiedFrom (given_in w₁ u gv) w₁ t o u mm w' t' r → CallWith deck s rows names c l h w t z k y o u n sc m c₁ l₁ h₁ w' t' r
  call_copied w' t' r ie cf = record {
    is = λ B g on b cs wt.
        let G : Gave B u w c₁ l₁ h₁ w₁ v 0 (run_in sc b (held_from w k 0 u b.parameters) u (world_in B c l h m.used)) = ca.is B g.shows b cs wt in
        let q : D.call_with (run_in sc) (scanner_in sc n) (activity_of y) (into_of o) u b (held_from w k 0 u b.parameters) (world_in B c l h m.used) ≡ outcome_of sc n W.copied_only o u (given_in w₁ u gv) (world_in B c₁ l₁ h₁ mm.used) = outcome_is B b _ _ W.copied_only G (copied_only_lem y (sym ib ∙ ie) on) in
        rw q (came_over B o u w w₁ t c₁ l₁ h₁ w' t' r _ G.below e₁ (copied_came deck rows names c₁ l₁ h₁ w₁ t o u n sc mm w' t' r B (stage_called B _ g G) (given_in w₁ u gv) cf));
  }
