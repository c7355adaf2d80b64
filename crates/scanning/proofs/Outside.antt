-- The replacement of a name in program text, as it is asked for where no procedure runs. For who puts text out.
-- Assumes nothing.
use Rattle.std.proofs.Common.{Ok, Err}
use Rattle.outcomes.specs.Types.{Replaced}
use mathlib.Core.Path.{◌≡◌, refl, sym, ap, ◌∙◌}
use mathlib.Core.Bool.{true, false}
use mathlib.Core.List.{List}
use Prim.Native.Nat.{ℕ, ◌-◌, ◌<◌, ◌≤◌}
use lib.ListN.{length}
use Rattle.definition.specs.Bytes.{mixed}
use Rattle.definition.specs.Lists.{part}
use Rattle.definition.specs.Room.{over}
use Rattle.definition.specs.World.{World, Res, good, bad}
use Rattle.definition.specs.Evaluate.{Call}
use Rattle.definition.specs.Calls.{call_out}
use Rattle.definition.specs.Scan as D
use Rattle.definition.specs.declared.Why.{Why}
use Rattle.meter.specs.declared.Meter.{Meter}
use Rattle.names.specs.declared.Activity.{Activity}
use Rattle.names.specs.Table.{activity_of}
use Rattle.callees.specs.Shown.{world_in}
use Rattle.callees.specs.Answer.{on_from}
use Rattle.operands.specs.declared.Scene.{Scene}
use Rattle.operands.specs.Answer.{run_in}
use Rattle.outcomes.specs.declared.Src.{Src}
use Rattle.outcomes.specs.declared.Dest.{Dest}
use Rattle.outcomes.specs.Texts.{room_of, stretch_of, text_of, Within}
use Rattle.outcomes.specs.Places.{into_of, out_in}
use Rattle.scanning.specs.Cycle.{Sourced, Stage, Left, meter_in, Gone, replacer_in, is_on, ReplaceIs}
use Rattle.scanning.proofs.Common.{never, out_length, with_text}

-- the text room from a place on
abbrev pub to_place : ℕ → ℕ → Dest
to_place at room = record { to_work = false; at = at; room = room }

-- an outcome of k bytes stands at its place of the text room, which is else as it was, and the scan goes on at q
pub record Went (B : World) (t c l h t' : List ℕ) (at room k q : ℕ) (m : Meter) (Q : Res Why D.Replaced) : Type 0 where
  pub bytes : List ℕ
  pub is : Q ≡ good (record { bytes = bytes; to = q }) (world_in B c l h m.used)
  pub text : t' ≡ over t at bytes
  pub size : length bytes ≡ k
  pub fits : k ≤ room

abbrev pub WentAs : World → List ℕ → List ℕ → List ℕ → List ℕ → List ℕ → ℕ → ℕ → Replaced → Res Why D.Replaced → Type 0
WentAs B t c l h t' at room (Ok (k, q, m)) Q = Went B t c l h t' at room k q m Q
WentAs B t c l h t' at room (Err (e, m)) Q = Q ≡ bad e m.used

went_as : (B : World) (u : ℕ) (w t c l h w' t' : List ℕ) (at room : ℕ) (r : Replaced) (Q : Res Why D.Replaced) → Gone B (to_place at room) u w t c l h w' t' r Q → WentAs B t c l h t' at room r Q
went_as B u w t c l h w' t' at room (Ok (k, q, m)) Q g = record {
  bytes = out_in (to_place at room) t' w' u k;
  is = sym g.is;
  text = g.put.text ∙ with_text (to_place at room) (out_in (to_place at room) t' w' u k) t refl;
  size = out_length (to_place at room) t' w' u k;
  fits = g.put.room;
}
went_as B u w t c l h w' t' at room (Err (e, m)) Q g = sym g.is

-- no procedure runs
run_out : (sc : Scene) → sc.running.left ≡ 16 → run_in sc ≡ call_out
unfolding on_from
run_out sc e = rw e

-- x is a stretch of a body
module _ (deck s rows names c l h w t : List ℕ) (x : Src) (p a : ℕ) (y : Activity) (at room n : ℕ) (sc : Scene) (m : Meter) (c' l' h' w' t' : List ℕ) (r : Replaced)
    (ri : ReplaceIs deck s rows names c l h w t x p a y (to_place at room) 0 n sc m c' l' h' w' t' r) (out : x.in_work ≡ false) (none : sc.running.left ≡ 16) where
  room_is : room_of s w x ≡ s
  unfolding room_of
  room_is = rw out

  text_is : text_of s w x ≡ part (x.to - x.from) x.from s
  unfolding text_of stretch_of
  text_is = rw room_is

  here_is : (k : World) → replacer_in sc n (text_of s w x) p a (activity_of y) (into_of (to_place at room)) 0 k ≡ D.replacer mixed call_out n (part (x.to - x.from) x.from s) p a (activity_of y) (D.to_text room) 0 k
  unfolding replacer_in into_of
  here_is k =
      ap (λ (z : List ℕ). D.replacer mixed (run_in sc) n z p a (activity_of y) (D.to_text room) 0 k) text_is
      ∙ ap (λ (z : Call). D.replacer mixed z n (part (x.to - x.from) x.from s) p a (activity_of y) (D.to_text room) 0 k) (run_out sc none)

  sourced : Within s x.from x.to → Sourced s w x 0
  sourced k = record { within = rw room_is k; below = λ f. never _ (let z : false ≡ true = sym out ∙ f in cc) }

  gone : (B : World) → Stage deck rows names c l h w 0 sc m t (to_place at room) B → Within s x.from x.to → a < sc.names → is_on y ≡ true
      → Gone B (to_place at room) 0 w t c' l' h' w' t' r (D.replacer mixed call_out n (part (x.to - x.from) x.from s) p a (activity_of y) (D.to_text room) 0 (world_in B c l h m.used))
  gone B g k lt on = rw (← here_is (world_in B c l h m.used)) (ri.is B g (sourced k) lt on)

  -- THE REPLACEMENT in program text is the definition's
  pub replaced_here : (B : World) → Stage deck rows names c l h w 0 sc m t (to_place at room) B → Within s x.from x.to → a < sc.names → is_on y ≡ true
      → WentAs B t c' l' h' t' at room r (D.replacer mixed call_out n (part (x.to - x.from) x.from s) p a (activity_of y) (D.to_text room) 0 (world_in B c l h m.used))
  replaced_here B g k lt on = went_as B 0 w t c' l' h' w' t' at room r _ (gone B g k lt on)

  -- and what it leaves as it was
  pub replaced_left : (B : World) → Stage deck rows names c l h w 0 sc m t (to_place at room) B → Within s x.from x.to → a < sc.names → is_on y ≡ true → Left B 0 w t c' l' h' w' t' (meter_in r)
  replaced_left B g k lt on = (gone B g k lt on).left
