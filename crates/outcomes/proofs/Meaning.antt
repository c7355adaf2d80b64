-- What is copied is the definition's outcome, read from the rooms where it went.
-- Assumes nothing.
use Rattle.std.proofs.Common.{Ok, Err}
use Rattle.outcomes.specs.Types.{Scanned}
use mathlib.Core.Path.{◌≡◌, refl, ap, ◌∙◌}
use mathlib.Core.Bool.{Bool, true, false, ◌&&◌}
use mathlib.Core.List.{List}
use Prim.Native.Nat.{ℕ, ◌+◌, ◌≤◌}
use native.Mathlib.Omega.{arith}
use borrow.Author.Tests.{leb-true}
use lib.Dec.{leb}
use lib.ListN.{length}
use Rattle.definition.specs.Limits.{unfinished_bytes}
use Rattle.definition.specs.Room.{over}
use Rattle.definition.specs.World.{World, Res, good, bad, copied_only}
use Rattle.definition.specs.Scan as D
use Rattle.definition.specs.declared.Why.{Why}
use Rattle.meter.specs.declared.Meter.{Meter}
use Rattle.operators.proofs.Room.{part_over}
use Rattle.outcomes.specs.declared.Dest.{Dest}
use Rattle.outcomes.specs.Places.{into_of, out_in}
use Rattle.outcomes.specs.Copies.{copied_value, work_copied, text_copied, CopiedValue}
use Rattle.outcomes.proofs.Naming.{never}

abbrev gave : World → List ℕ → Res Why (List ℕ)
gave B l = good l B

-- an answer in the world B, its outcome in the rooms w and t
abbrev pub scanned_for : World → Dest → ℕ → List ℕ → List ℕ → Scanned → Res Why (List ℕ)
scanned_for B d u w t (Ok (k, m)) = gave B (out_in d t w u k)
scanned_for B d u w t (Err (e, m)) = bad e m.used

both_second : (a b : Bool) → (a && b) ≡ true → b ≡ true
both_second true b e = e
both_second false b e = never _ (cc)

module _ (w t bs : List ℕ) (d : Dest) (u : ℕ) (m : Meter) (w' t' : List ℕ) (r : Scanned) (h : CopiedValue w t bs d u m w' t' r)
    (long : unfinished_bytes ≤ length w) (room : d.to_work ≡ false → d.at + d.room ≤ length t) where
  in_work : d.to_work ≡ true → D.fits (into_of d) u 0 (length bs) ≡ true → u + length bs ≤ length w
  unfolding into_of
  in_work e f =
      let k : (leb (0 + length bs) d.room && leb (u + (0 + length bs)) 65536) ≡ true = rw e at f in
      omega (arith, leb-true (u + (0 + length bs)) 65536 (both_second (leb (0 + length bs) d.room) (leb (u + (0 + length bs)) 65536) k))

  in_text : d.to_work ≡ false → D.fits (into_of d) u 0 (length bs) ≡ true → d.at + length bs ≤ length t
  unfolding into_of
  in_text e f =
      let k : leb (0 + length bs) d.room ≡ true = rw e at f in
      omega (arith, leb-true (0 + length bs) d.room k, room e)

  out_by : (b : Bool) → d.to_work ≡ b → D.fits (into_of d) u 0 (length bs) ≡ true → out_in d t' w' u (length bs) ≡ bs
  unfolding out_in work_copied text_copied
  out_by true e f =
      let k : w' ≡ over w u bs = h.work ∙ rw (f, e) in
      rw (e, k) (part_over bs w u (in_work e f))
  out_by false e f =
      let k : t' ≡ over t d.at bs = h.text ∙ rw (f, e) in
      rw (e, k) (part_over bs t d.at (in_text e f))

  -- where they fit, the bytes lie where the outcome goes
  pub copied_out : D.fits (into_of d) u 0 (length bs) ≡ true → out_in d t' w' u (length bs) ≡ bs
  copied_out f = out_by d.to_work refl f

  module _ (B : World) (g : B.used ≡ m.used) (scan : D.Scanner) where
    copied_by : (b : Bool) → D.fits (into_of d) u 0 (length bs) ≡ b → scanned_for B d u w' t' r ≡ D.outcome copied_only scan (into_of d) u bs B
    unfolding copied_value
    copied_by true e =
        let k : r ≡ Ok ((length bs), m) = h.is ∙ rw e in
        rw (k, e) (ap (gave B) (copied_out e))
    copied_by false e = let k : r ≡ Err ((D.full (into_of d)), m) = h.is ∙ rw e in rw (k, e, g)

    -- THE OUTCOME is the definition's
    pub copied_is : scanned_for B d u w' t' r ≡ D.outcome copied_only scan (into_of d) u bs B
    copied_is = copied_by (D.fits (into_of d) u 0 (length bs)) refl
