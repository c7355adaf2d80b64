-- The closure tests a byte.
use Rattle.std.proofs.Common.{rules, ◌+◌, ◌-◌, get_or, ap, ◌∙◌}
use borrow.Author.Tests.{tests}
use Rattle.definition.specs.Lists.{all}
use Rattle.definition.specs.Tokens.{is_bit}
use Rattle.rooms.proofs.Ranges.{all_is}
use Rattle.values.proofs.Bytes.{all_part, from_first}
use Rattle.values.proofs.are_bits.Goals as goal

pub returns : goal.returns
returns c =
    all_is _ _ _ c.all.result (λ j. is_bit (get_or c.args.s.now (c.args.at + j) 0))
    c.all.ensures.ran (λ x q k. search (rules, tests)) (λ x q k. search (rules, tests))
    ∙ all_part is_bit c.args.s.now c.args.at 0 (c.args.n - 0) ∙ ap (all is_bit) (from_first c.args.s.now c.args.at c.args.n)
