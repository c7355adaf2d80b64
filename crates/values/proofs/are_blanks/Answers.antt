-- The closure tests a byte.
use Rattle.std.proofs.Common.{rules, ◌+◌, ◌-◌, get_or, ◌∙◌}
use borrow.Author.Tests.{tests}
use Rattle.definition.specs.Bytes.{is_blank}
use Rattle.rooms.proofs.Ranges.{all_is}
use Rattle.values.proofs.Bytes.{all_part}
use Rattle.values.proofs.are_blanks.Goals as goal

pub returns : goal.returns
returns c =
    all_is _ _ _ c.all.result (λ j. is_blank (get_or c.args.s.now (c.args.at + j) 0))
    c.all.ensures.ran (λ x q k. search (rules, tests)) (λ x q k. search (rules, tests))
    ∙ all_part is_blank c.args.s.now c.args.at c.args.i (c.args.n - c.args.i)
