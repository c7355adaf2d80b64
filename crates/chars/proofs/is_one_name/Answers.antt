-- The closure tests a byte of each side.
use Rattle.std.proofs.Common.{rules, ◌∙◌}
use borrow.Author.Tests.{tests}
use Rattle.rooms.proofs.Ranges.{all_is}
use Rattle.chars.proofs.Laws.{is_named, named_is}
use Rattle.chars.proofs.is_one_name.Goals as goal

pub returns : goal.returns
returns c =
    all_is _ _ _ c.all.result (is_named c.args.a.now c.args.b.now c.args.i c.args.k)
    c.all.ensures.ran (λ x q k. search (rules, tests)) (λ x q k. search (rules, tests))
    ∙ named_is c.args.a.now c.args.b.now c.args.i c.args.k c.args.n
