-- By the first that fails, if there is one.
use Rattle.std.proofs.Common.{rules, ◌≡◌, ◌+◌, get_or, true, false}
use borrow.Author.Tests.{tests}
use Rattle.std.proofs.lemmas.Iterator.{first_from_Range}
use Rattle.definition.specs.Bytes.{is_digit}
use Rattle.values.proofs.Bytes.{run_found}
use Rattle.values.proofs.past_digits.Goals as goal

pub returns : goal.returns
returns c =
    run_found is_digit c.args.s.now c.args.at c.args.i c.args.n c.find.result c.unwrap_or.result c.requires
    (first_from_Range _ _ _ c.find.result (λ j. is_digit (get_or c.args.s.now (c.args.at + j) 0) ≡ false) (λ j. is_digit (get_or c.args.s.now (c.args.at + j) 0) ≡ true)
    c.find.ensures.ran (λ x q k. search (rules, tests)) (λ x q k. search (rules, tests)))
    c.unwrap_or.ensures
