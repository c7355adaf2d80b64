-- The measure falls from a level to the one below, to an operand, to its arguments, and to an expression inside a parenthesis.
use Prim.Native.Nat.{◌+◌, ◌*◌}
use Rattle.expressions.specs.Check.{inside_of, levels_in}
use Rattle.expressions.proofs.Reading.{Chaining, Arguing}
use Rattle.expressions.proofs.+expression.Given as goal

abbrev pub decreases-arguments : goal.decreases-arguments
decreases-arguments l = 32 * l.left + 3

abbrev pub decreases-chain : goal.decreases-chain
decreases-chain l = 32 * l.left + 2 * l.level + 9

abbrev pub decreases-inside : goal.decreases-inside
decreases-inside l = 32 * l.left + 2

abbrev pub decreases-levels : goal.decreases-levels
decreases-levels l = 32 * l.left + 2 * l.n + 8

abbrev pub decreases-operand : goal.decreases-operand
decreases-operand l = 32 * l.left + 6

abbrev pub decreases-parenthesized : goal.decreases-parenthesized
decreases-parenthesized l = 32 * l.left + 4

abbrev pub decreases-primitive : goal.decreases-primitive
decreases-primitive l = 32 * l.left + 5

abbrev pub decreases-reference : goal.decreases-reference
decreases-reference l = 32 * l.left + 4

abbrev pub invariant-arguments-loop-turn : goal.invariant-arguments-loop-turn
invariant-arguments-loop-turn l = Arguing (inside_of l.left l.s l.p) l.s l.from l.turn l.at

abbrev pub invariant-chain-loop-turn : goal.invariant-chain-loop-turn
invariant-chain-loop-turn l = Chaining l.level (levels_in l.left l.s l.level) l.s l.from l.turn l.at
