-- The closure tests a byte of each side.
use Rattle.std.proofs.Common.{rules, ◌∙◌}
use borrow.Author.Tests.{tests}
use Rattle.rooms.proofs.Ranges.{all_is}
use Rattle.chars.proofs.Laws.{is_spelled, spelled_is}
use Rattle.chars.proofs.spells.Goals as goal

pub returns : goal.returns
returns c =
    all_is _ _ _ c.all.result (is_spelled c.args.a.now c.args.w.now c.args.i c.args.k)
    c.all.ensures.ran (λ x q k. search (rules, tests)) (λ x q k. search (rules, tests))
    ∙ spelled_is c.args.a.now c.args.w.now c.args.i c.args.k c.args.n
