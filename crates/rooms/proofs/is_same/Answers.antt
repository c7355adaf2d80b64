-- The closure tests a byte of each side.
use Rattle.std.proofs.Common.{rules, ◌+◌, get_or, ◌∙◌}
use borrow.Author.Tests.{tests}
use lib.Dec.{eqb}
use Rattle.rooms.proofs.Ranges.{all_is}
use Rattle.rooms.proofs.Laws.{same_is}
use Rattle.rooms.proofs.is_same.Goals as goal

pub returns : goal.returns
returns c =
    all_is _ _ _ c.all.result (λ j. eqb (get_or c.args.a.now (c.args.i + j) 0) (get_or c.args.b.now (c.args.k + j) 0))
    c.all.ensures.ran (λ x q k. search (rules, tests)) (λ x q k. search (rules, tests))
    ∙ same_is c.args.a.now c.args.b.now c.args.i c.args.k c.args.n
