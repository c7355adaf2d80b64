use Rattle.std.proofs.Common.{◌≡◌, ℕ, ◌+◌, ◌≤◌, List, ◌++◌, rules, length, take, drop, sym, ap, ◌∙◌, subst, drop_at, length-take-le, le_refl}
use Rattle.std.proofs.lemmas.Slice.{take-put_mid_below}
use Rattle.std.specs.Io.KnownBytes.{Consumes}
use Rattle.std.proofs.KnownBytes.{Consumes-trans}
use borrow.Rule.Slice.PartMut.{put_mid, post_of}
use lib.Seq.{take-add, take-append-le}
use Rattle.writing.proofs.read_full.Goals as goal

-- n more bytes of a list whose middle was written are the first n that were written there
read_in_place : (at k n : ℕ) (xs ys : List ℕ) → at ≤ length xs → n ≤ length ys → take at xs ++ take n ys ≡ take (at + n) (put_mid at k xs ys)
read_in_place at k n xs ys within fits =
    let room : List ℕ = put_mid at k xs ys in
    let front : take at room ≡ take at xs = take-put_mid_below _ _ _ _ _ (le_refl _) within in
    let part : take n (drop at room) ≡ take n ys =
    ap (take n) (drop_at (take at xs) (ys ++ post_of at k xs) at (length-take-le at xs within)) ∙ take-append-le n ys (post_of at k xs) fits in
    ap (λ l. l ++ take n ys) (sym front) ∙ ap (λ l. take at room ++ l) (sym part) ∙ sym (take-add at n room)

pub loop-done-preserved : goal.loop-done-preserved
loop-done-preserved g c =
    (search rules, search rules, subst (Consumes _ _) (read_in_place c.loop-done.done _ c.in-Ok.n c.loop-done.room c.read.new.buf c.loop-done.invariant.1 c.in-Ok.ensures.bound.0) (Consumes-trans _ _ _ _ _ c.loop-done.invariant.2 c.in-Ok.ensures.bytes.0))
