-- CONTROL COMES BACK from members that were included: the table only grew, so that the rows of the member that goes on are looked at
-- where they were, and the frames around its row stand.
-- Assumes nothing.
use mathlib.Core.Path.{◌≡◌, refl, sym, ap, subst, ◌∙◌}
use mathlib.Core.Bool.{Bool, true, false}
use mathlib.Core.List.{List}
use Prim.Native.Nat.{ℕ, ◌+◌, ◌*◌, ◌<◌, ◌≤◌}
use native.Mathlib.Omega.{arith}
use borrow.Author.Tests.{eqb-true, eqb-false}
use lib.Dec.{eqb}
use lib.ListN.{length, drop}
use Rattle.definition.specs.Flow as Flow
use Rattle.definition.specs.Program as P
use Rattle.definition.specs.World.{World, Denotation, rows_of}
use Rattle.rows.specs.Table.{row_in}
use Rattle.rows.specs.Parts.{start_in, StartsAt, part_in}
use Rattle.rows.specs.declared.Row.{Row}
use Rattle.rows.specs.declared.Starts.{Starts}
use Rattle.flow.specs.declared.Frame.{Frame}
use Rattle.flow.specs.declared.Frames.{Frames}
use Rattle.flow.specs.Walks.{frame_at, frame_in}
use Rattle.flow.specs.Shown.{Shown, FrameOf, Framed}
use Rattle.flow.proofs.Framing.{around_before}
use Rattle.showing.specs.Worlds.{Stored, Laid, Behind}
use Rattle.showing.specs.Later.{Grew}
use Rattle.showing.proofs.Laying.{part_kept, stored_kept}

-- ---- the table grew
pub grew_none : (rows : List ℕ) (used : ℕ) → Grew rows used rows
grew_none rows used = record { below = λ i l. refl; size = refl }

pub grew_on : (rows rows' rows'' : List ℕ) (used used' : ℕ) → used ≤ used' → Grew rows used rows' → Grew rows' used' rows'' → Grew rows used rows''
grew_on rows rows' rows'' used used' l h i = record { below = λ j k. i.below j (omega (arith, k, l)) ∙ h.below j k; size = i.size ∙ h.size }

-- by the member that was entered
pub grew_behind : (rows rows' t : List ℕ) (used : ℕ) → Behind rows used rows' t → length rows' ≡ length rows → Grew rows used rows'
grew_behind rows rows' t used h e = record { below = h.below; size = e }

behind_grew : (rows rows' : List ℕ) (used : ℕ) → Grew rows used rows' → Behind rows used rows' (drop (16 * used) rows')
behind_grew rows rows' used h = record { below = h.below; part = refl }

-- ---- the member m is looked at where it was; it may have been entered again, and lie elsewhere too
pub back_part : (deck rows rows' : List ℕ) (starts starts' starts'' : Starts) (used m : ℕ) (B : World) → Laid deck rows starts used B → Grew rows used rows' → StartsAt starts' m (start_in starts m) starts'' → m < 32
    → (n : ℕ) → n < length (rows_of m B) → row_in (part_in rows' starts'' m) n ≡ row_in (part_in rows starts m) n
back_part deck rows rows' starts starts' starts'' used m B was grew st low n l =
    part_kept deck rows rows' (drop (16 * used) rows') used (behind_grew rows rows' used grew) starts starts'' m (length (rows_of m B)) n (st.here low) (was.below m) l

pub back_laid : (deck rows rows' : List ℕ) (starts starts' starts'' : Starts) (used used' m : ℕ) (B B' : World) → Laid deck rows starts used B → Laid deck rows' starts' used' B' → Grew rows used rows' → used ≤ used'
    → rows_of m B' ≡ rows_of m B → StartsAt starts' m (start_in starts m) starts'' → m < 32 → Laid deck rows' starts'' used' B'
back_laid deck rows rows' starts starts' starts'' used used' m B B' was is grew more same st low = record { stored = λ n. stored n (eqb n m) refl; below = λ n. below n (eqb n m) refl }
  where
    here : Stored deck rows' starts'' m (rows_of m B')
    here =
        subst (λ (rs : List P.Row). Stored deck rows' starts'' m rs) (sym same)
        (stored_kept deck rows rows' (drop (16 * used) rows') used (behind_grew rows rows' used grew) starts starts'' m (rows_of m B) (st.here low) (was.below m) (was.stored m))

    -- the others are where they are now
    stored : (n : ℕ) (c : Bool) → eqb n m ≡ c → Stored deck rows' starts'' n (rows_of n B')
    stored n true e = subst (λ (k : ℕ). Stored deck rows' starts'' k (rows_of k B')) (sym (eqb-true n m e)) here
    stored n false e =
        stored_kept deck rows' rows' (drop (16 * used') rows') used' (behind_grew rows' rows' used' (grew_none rows' used')) starts' starts'' n (rows_of n B') (st.other n (eqb-false n m e)) (is.below n) (is.stored n)

    at : start_in starts'' m + length (rows_of m B') ≤ used'
    at = omega (arith, st.here low, ap (λ (rs : List P.Row). length rs) same, was.below m, more)

    below : (n : ℕ) (c : Bool) → eqb n m ≡ c → start_in starts'' n + length (rows_of n B') ≤ used'
    below n true e = subst (λ (k : ℕ). start_in starts'' k + length (rows_of k B') ≤ used') (sym (eqb-true n m e)) at
    below n false e = omega (arith, st.other n (eqb-false n m e), is.below n)

-- ---- the frames around a row: the table counts by the depths of groups that stand before it
frame_back : (t t' : List ℕ) (fs : Frames) (g : ℕ) → row_in t' g ≡ row_in t g → frame_in t' fs g ≡ frame_in t fs g
unfolding frame_in
frame_back t t' fs g e = ap (λ (r : Row). frame_at fs.items r.depth g) e

pub framed_back : {E : Type 0} (M : Flow.Machine E) (t t' : List ℕ) (ds : List Denotation) (fs : Frames) (F : List Flow.Frame) (n : ℕ) → Shown t M.rows → ((k : ℕ) → k < length M.rows → row_in t' k ≡ row_in t k)
    → n < length M.rows → Framed M t ds fs F n → Framed M t' ds fs F n
framed_back M t t' ds fs F n s e l f = record {
  whole = f.whole;
  frame = λ g a i. subst (λ (x : Frame). FrameOf ds x g F) (sym (frame_back t t' fs g (e g (omega (arith, around_before t M.rows s n g l a, l))))) (f.frame g a i);
}
