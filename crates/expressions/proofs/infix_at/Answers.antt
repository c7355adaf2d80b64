-- By the level.
use Rattle.expressions.proofs.Laws.{of_level, of_rest}
use Rattle.expressions.proofs.Reading.{of_join, of_and, of_or}
use Rattle.expressions.proofs.infix_at.Goals as goal

pub returns-in-0 : goal.returns-in-0
returns-in-0 c = of_level c.args.level 0 c.args.s.now c.args.at c.product_at.result c.in-0.is c.product_at.ensures

pub returns-in-1 : goal.returns-in-1
returns-in-1 c = of_level c.args.level 1 c.args.s.now c.args.at c.sum_at.result c.in-1.is c.sum_at.ensures

pub returns-in-2 : goal.returns-in-2
returns-in-2 c = search of_join

pub returns-in-3 : goal.returns-in-3
returns-in-3 c = of_level c.args.level 3 c.args.s.now c.args.at c.comparison_at.result c.in-3.is c.comparison_at.ensures

pub returns-in-4 : goal.returns-in-4
returns-in-4 c = search of_and

pub returns-in_default : goal.returns-in_default
returns-in_default c = search (of_rest, of_or)
