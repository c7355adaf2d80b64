-- From low or from high.
use Rattle.std.proofs.Common.{◌≡◌, ◌∙◌, ap}
use Rattle.store.specs.Cells.{half}
use Rattle.store.proofs.Laws.{low_half, high_half}
use Rattle.store.proofs.copy_characters.Goals as goal
use Rattle.store.proofs.copy_characters.Goals.{then-a-lt128, else-a-lt128}

pub returns : goal.returns
returns c =
    let e : c.if-a-lt128.half.now ≡ half c.args.a c.args.low.now c.args.high.now =
    elim c.if-a-lt128.branch [ then-a-lt128 w ↦ ap (λ r. r.now) w.half-is ∙ low_half _ _ _ w.if-a-lt128.true | else-a-lt128 w ↦ ap (λ r. r.now) w.half-is ∙ high_half _ _ _ w.if-a-lt128.false ] in
    rw (c.slot_place.ensures, e) at c.copy.ensures
