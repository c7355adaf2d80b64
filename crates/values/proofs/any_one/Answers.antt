-- The closure tests a byte.
use Rattle.std.proofs.Common.{rules, ◌+◌, ◌-◌, get_or, ap, ◌∙◌}
use borrow.Author.Tests.{tests}
use lib.Dec.{eqb}
use Rattle.definition.specs.Values.{any_one}
use Rattle.rooms.proofs.Ranges.{any_is}
use Rattle.values.proofs.Bytes.{any_part, from_first}
use Rattle.values.proofs.any_one.Goals as goal

pub returns : goal.returns
returns c =
    any_is _ _ _ c.any.result (λ j. eqb (get_or c.args.s.now (c.args.at + j) 0) 49)
    c.any.ensures.ran (λ x q k. search (rules, tests)) (λ x q k. search (rules, tests))
    ∙ any_part c.args.s.now c.args.at 0 (c.args.n - 0) ∙ ap any_one (from_first c.args.s.now c.args.at c.args.n)
