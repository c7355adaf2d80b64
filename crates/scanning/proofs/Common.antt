-- Sources, places and rooms: what stays, and what comes behind what.
-- Assumes nothing.
use Rattle.std.proofs.Common.{Ok, Err}
use Rattle.outcomes.specs.Types.{Scanned, Replaced}
use mathlib.Core.Path.{◌≡◌, refl, sym, ap, ◌∙◌}
use mathlib.Core.Bool.{Bool, true, false, cond}
use mathlib.Core.List.{List, [], ◌++◌}
use Prim.Native.Nat.{ℕ, ◌+◌, ◌-◌, ◌≤◌}
use native.Mathlib.Omega.{arith}
use lib.ListN.{length, take}
use Rattle.definition.specs.Lists.{part}
use Rattle.definition.specs.Room.{over}
use Rattle.definition.specs.World.{World, Res, bad}
use Rattle.definition.specs.Scan as D
use Rattle.definition.specs.declared.Why.{Why}
use Rattle.definition.proofs.Parts.{length_part, part_append}
use Rattle.definition.proofs.Rooms.{over_nil, over_next_at}
use Rattle.meter.specs.declared.Meter.{Meter}
use Rattle.operators.specs.Stands.{top_of}
use Rattle.operators.proofs.Room.{top_in_lem, part_below, below_over}
use Rattle.callees.specs.Shown.{Slots}
use Rattle.outcomes.specs.declared.Src.{Src}
use Rattle.outcomes.specs.declared.Dest.{Dest}
use Rattle.outcomes.specs.Texts.{room_of, stretch_of, text_of}
use Rattle.outcomes.specs.Places.{into_of, after_of, waiting_of, out_in}
use Rattle.outcomes.proofs.Sources.{stretch_length}
use Rattle.operands.specs.declared.Scene.{Scene}
use Rattle.sums.specs.Numbers.{greatest, sum_to}
use Rattle.sums.proofs.Laws.{sum_fits}
use Rattle.scanning.specs.Cycle.{Sourced, Aims, Stage, text_with, Put, Left, Came, Gone}

pub never : (A : Type 0) → ◌≡◌ {A = ℕ} 0 1 → A
never A e = absurd (omega arith)

-- ---- sources
pub source_same : (s w w' : List ℕ) (x : Src) (u : ℕ) → Sourced s w x u → take u w' ≡ take u w → text_of s w' x ≡ text_of s w x
unfolding text_of stretch_of room_of
source_same s w w' x u k e = by x.in_work refl
  where
    by : (b : Bool) → x.in_work ≡ b → part (x.to - x.from) x.from (cond b w' s) ≡ part (x.to - x.from) x.from (cond b w s)
    by true f = part_below (x.to - x.from) x.from u w w' e (omega (arith, k.within.order, k.below f))
    by false f = refl

room_length : (s w w' : List ℕ) (x : Src) → length w' ≡ length w → length (room_of s w' x) ≡ length (room_of s w x)
unfolding room_of
room_length s w w' x e = by x.in_work
  where
    by : (b : Bool) → length (cond b w' s) ≡ length (cond b w s)
    by true = e
    by false = refl

pub source_still : (s w w' : List ℕ) (x : Src) (u v : ℕ) → Sourced s w x u → length w' ≡ length w → u ≤ v → Sourced s w' x v
source_still s w w' x u v k e h = record {
  within = record { order = k.within.order; within = omega (arith, k.within.within, room_length s w w' x e); short = k.within.short };
  below = λ f. omega (arith, k.below f);
}

pub text_length : (s w : List ℕ) (x : Src) → length (text_of s w x) ≡ x.to - x.from
unfolding text_of
text_length s w x = stretch_length (room_of s w x) x.from x.to

-- ---- the stage further on
pub stage_on : (deck rows names c l h w : List ℕ) (u : ℕ) (x : Scene) (m : Meter) (t : List ℕ) (o : Dest) (B : World) (c' l' h' w' : List ℕ) (v : ℕ) (m' : Meter) (t' : List ℕ) (o' : Dest)
    → Stage deck rows names c l h w u x m t o B → Slots B.denotations c' l' h' → length w' ≡ length w → v ≤ 65536 → m'.limit ≡ B.limit → Aims t' o' → Stage deck rows names c' l' h' w' v x m' t' o' B
stage_on deck rows names c l h w u x m t o B c' l' h' w' v m' t' o' g s e k i a = record {
  shows = record { named = g.shows.named; rowed = g.shows.rowed; slots = s; work = omega (arith, g.shows.work); taken = k; limit = i; left = g.shows.left };
  awake = g.awake;
  aims = a;
}

pub aims_same : (t t' : List ℕ) (o : Dest) → Aims t o → length t' ≡ length t → Aims t' o
aims_same t t' o a e = record { room = λ f. omega (arith, a.room f); short = λ f. a.short f }

after_at : (t : List ℕ) (o : Dest) (k : ℕ) → Aims t o → k ≤ o.room → o.to_work ≡ false → sum_to greatest o.at k ≡ o.at + k
after_at t o k a h f = sum_fits o.at k (omega (arith, a.short f))

pub aims_after : (t : List ℕ) (o : Dest) (k : ℕ) → Aims t o → k ≤ o.room → Aims t (after_of o k)
aims_after t o k a h = record {
  room = λ f. let e : sum_to greatest o.at k ≡ o.at + k = after_at t o k a h f in omega (arith, a.room f);
  short = λ f. let e : sum_to greatest o.at k ≡ o.at + k = after_at t o k a h f in omega (arith, a.short f);
}

pub into_after : (o : Dest) (k : ℕ) → D.after (into_of o) k ≡ into_of (after_of o k)
unfolding into_of
into_after o k = by o.to_work
  where
    by : (b : Bool) → D.after (cond b (D.to_work o.room) (D.to_text o.room)) k ≡ cond b (D.to_work (o.room - k)) (D.to_text (o.room - k))
    by true = refl
    by false = refl

pub waiting_is : (o : Dest) (u k : ℕ) → (o.to_work ≡ true → u + k ≤ 65536) → D.waiting (into_of o) u k ≡ waiting_of o u k
unfolding into_of waiting_of
waiting_is o u k h = by o.to_work h
  where
    by : (b : Bool) → (b ≡ true → u + k ≤ 65536) → D.waiting (cond b (D.to_work o.room) (D.to_text o.room)) u k ≡ cond b (top_of u k) u
    by true f = sym (top_in_lem u k (f refl))
    by false f = refl

pub wait_work : (o : Dest) (u k : ℕ) → o.to_work ≡ true → u + k ≤ 65536 → waiting_of o u k ≡ u + k
unfolding waiting_of
wait_work o u k e h = rw e (top_in_lem u k h)

pub wait_text : (o : Dest) (u k : ℕ) → o.to_work ≡ false → waiting_of o u k ≡ u
unfolding waiting_of
wait_text o u k e = rw e

pub bool_has : (P : Type 0) (b : Bool) → (b ≡ true → P) → (b ≡ false → P) → P
bool_has P true f g = f refl
bool_has P false f g = g refl

pub wait_low : (o : Dest) (u k : ℕ) → (o.to_work ≡ true → u + k ≤ 65536) → u ≤ waiting_of o u k
wait_low o u k h = bool_has (u ≤ waiting_of o u k) o.to_work (λ e. omega (arith, wait_work o u k e (h e))) (λ e. omega (arith, wait_text o u k e))

pub wait_top : (o : Dest) (u k : ℕ) → u ≤ 65536 → (o.to_work ≡ true → u + k ≤ 65536) → waiting_of o u k ≤ 65536
wait_top o u k l h = bool_has (waiting_of o u k ≤ 65536) o.to_work (λ e. omega (arith, wait_work o u k e (h e), h e)) (λ e. omega (arith, wait_text o u k e))

-- ---- outcomes
pub out_work : (o : Dest) (t w : List ℕ) (u k : ℕ) → o.to_work ≡ true → out_in o t w u k ≡ part k u w
unfolding out_in
out_work o t w u k e = rw e

pub out_text : (o : Dest) (t w : List ℕ) (u k : ℕ) → o.to_work ≡ false → out_in o t w u k ≡ part k o.at t
unfolding out_in
out_text o t w u k e = rw e

pub with_work : (o : Dest) (bs t : List ℕ) → o.to_work ≡ true → text_with o bs t ≡ t
unfolding text_with
with_work o bs t e = rw e

pub with_text : (o : Dest) (bs t : List ℕ) → o.to_work ≡ false → text_with o bs t ≡ over t o.at bs
unfolding text_with
with_text o bs t e = rw e

pub out_length : (o : Dest) (t w : List ℕ) (u k : ℕ) → length (out_in o t w u k) ≡ k
out_length o t w u k = bool_has _ o.to_work (λ e. ap length (out_work o t w u k e) ∙ length_part k u w) (λ e. ap length (out_text o t w u k e) ∙ length_part k o.at t)

pub out_none : (o : Dest) (t w : List ℕ) (u : ℕ) → out_in o t w u 0 ≡ []
out_none o t w u = bool_has _ o.to_work (λ e. out_work o t w u 0 e) (λ e. out_text o t w u 0 e)

pub put_none : (B : World) (o : Dest) (u : ℕ) (w t : List ℕ) → u ≤ 65536 → Put B o u t w t 0
put_none B o u w t h = record {
  text = bool_has _ o.to_work (λ e. sym (with_work o (out_in o t w u 0) t e)) (λ e. sym (with_text o (out_in o t w u 0) t e ∙ rw (out_none o t w u) (over_nil t o.at)));
  room = omega arith;
  fits = λ e. omega arith;
}

-- an outcome behind an outcome
module _ (B : World) (o : Dest) (u : ℕ) (t₀ w t w' t' : List ℕ) (k j : ℕ) (a : Aims t o) (p : Put B o u t₀ w t k)
    (q : Put B (after_of o k) (waiting_of o u k) t w' t' j) (below : take (waiting_of o u k) w' ≡ take (waiting_of o u k) w) where
  at_is : o.to_work ≡ false → sum_to greatest o.at k ≡ o.at + k
  at_is e = after_at t o k a p.room e

  text_is : o.to_work ≡ false → t' ≡ over t (o.at + k) (part j (o.at + k) t')
  text_is e = q.text ∙ with_text (after_of o k) (out_in (after_of o k) t' w' (waiting_of o u k) j) t e ∙ rw (out_text (after_of o k) t' w' (waiting_of o u k) j e, at_is e)

  pub out_next : out_in o t' w' u (k + j) ≡ out_in o t w u k ++ out_in (after_of o k) t' w' (waiting_of o u k) j
  out_next = bool_has _ o.to_work works texts
    where
      works : o.to_work ≡ true → out_in o t' w' u (k + j) ≡ out_in o t w u k ++ out_in (after_of o k) t' w' (waiting_of o u k) j
      works e =
          let z : waiting_of o u k ≡ u + k = wait_work o u k e (p.fits e) in
          let f : part k u w' ≡ part k u w = part_below k u (u + k) w w' (rw z at below) (omega arith) in
          out_work o t' w' u (k + j) e ∙ part_append k j u w' ∙ rw (f, out_work o t w u k e, out_work (after_of o k) t' w' (waiting_of o u k) j e, z)

      texts : o.to_work ≡ false → out_in o t' w' u (k + j) ≡ out_in o t w u k ++ out_in (after_of o k) t' w' (waiting_of o u k) j
      texts e =
          let f : part k o.at t' ≡ part k o.at t = part_below k o.at (o.at + k) t t' (below_over (o.at + k) (o.at + k) t t' (part j (o.at + k) t') (omega arith) (text_is e)) (omega arith) in
          out_text o t' w' u (k + j) e ∙ part_append k j o.at t' ∙ rw (f, out_text o t w u k e, out_text (after_of o k) t' w' (waiting_of o u k) j e, at_is e)

  pub put_next : Put B o u t₀ w' t' (k + j)
  put_next = record {
    text = bool_has _ o.to_work works texts;
    room = omega (arith, p.room, q.room);
    fits = λ e. omega (arith, q.fits e, wait_work o u k e (p.fits e));
  }
    where
      works : o.to_work ≡ true → t' ≡ text_with o (out_in o t' w' u (k + j)) t₀
      works e = q.text ∙ with_work (after_of o k) (out_in (after_of o k) t' w' (waiting_of o u k) j) t e ∙ p.text ∙ with_work o (out_in o t w u k) t₀ e ∙ sym (with_work o (out_in o t' w' u (k + j)) t₀ e)

      texts : o.to_work ≡ false → t' ≡ text_with o (out_in o t' w' u (k + j)) t₀
      texts e =
          let b : List ℕ = out_in (after_of o k) t' w' (waiting_of o u k) j in
          let f : t ≡ over t₀ o.at (out_in o t w u k) = p.text ∙ with_text o (out_in o t w u k) t₀ e in
          let g : t' ≡ over t (o.at + k) b = q.text ∙ with_text (after_of o k) b t e ∙ rw (at_is e) in
          let i : over (over t₀ o.at (out_in o t w u k)) (o.at + k) b ≡ over t₀ o.at (out_in o t w u k ++ b) = over_next_at t₀ o.at (o.at + k) (out_in o t w u k) b (omega (arith, out_length o t w u k)) in
          g ∙ ap (λ (y : List ℕ). over y (o.at + k) b) f ∙ i ∙ ap (over t₀ o.at) (sym out_next) ∙ sym (with_text o (out_in o t' w' u (k + j)) t₀ e)

-- ---- answers
pub came_bad : (B : World) (o : Dest) (u : ℕ) (w t c l h w' t' : List ℕ) (y : Why) (m : Meter) (R : Res Why (List ℕ)) → bad y m.used ≡ R → Left B u w t c l h w' t' m → Came B o u w t c l h w' t' (Err (y, m)) R
came_bad B o u w t c l h w' t' y m R e k = record { is = e; put = tt; left = k }

pub gone_bad : (B : World) (o : Dest) (u : ℕ) (w t c l h w' t' : List ℕ) (y : Why) (m : Meter) (Q : Res Why D.Replaced) → bad y m.used ≡ Q → Left B u w t c l h w' t' m → Gone B o u w t c l h w' t' (Err (y, m)) Q
gone_bad B o u w t c l h w' t' y m Q e k = record { is = e; put = tt; left = k }

pub left_same : (deck rows names c l h w : List ℕ) (u : ℕ) (x : Scene) (m : Meter) (t : List ℕ) (o : Dest) (B : World) → Stage deck rows names c l h w u x m t o B → Left B u w t c l h w t m
left_same deck rows names c l h w u x m t o B g = record { below = refl; work = refl; long = refl; limit = g.shows.limit; slots = g.shows.slots }

-- an outcome with a place behind it
abbrev pub up_to_of : Scanned → ℕ → Replaced
up_to_of (Ok (n, m)) to = Ok (n, to, m)
up_to_of (Err e) to = Err e

pub up_gone : (B : World) (o : Dest) (u : ℕ) (w t c l h w' t' : List ℕ) (z : Scanned) (p : ℕ) (R : Res Why (List ℕ)) → Came B o u w t c l h w' t' z R → Gone B o u w t c l h w' t' (up_to_of z p) (D.up_to p R)
up_gone B o u w t c l h w' t' (Ok (k, m)) p R g = record { is = ap (D.up_to p) g.is; put = g.put; left = g.left }
up_gone B o u w t c l h w' t' (Err (e, m)) p R g = record { is = ap (D.up_to p) g.is; put = tt; left = g.left }
