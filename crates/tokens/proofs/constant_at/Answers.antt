-- A bit string, a string, or one that stays open.
use Rattle.std.proofs.Common.{arith}
use Rattle.tokens.proofs.Lexemes.{constant_open, constant_bits, constant_string, constant_plain, bits_inside}
use Rattle.tokens.proofs.constant_at.Goals as goal
use Rattle.tokens.proofs.constant_at.Goals.{else-bits-via-then-bits+else-capital-eq66, else-bits-via-else-bits}

pub overflow_add-q : goal.overflow_add-q
overflow_add-q c = omega (arith, bits_inside c.args.s.now c.in-Some.q c.byte.result c.capital.result c.byte.ensures c.capital.ensures c.if-capital-eq66.true)

pub returns-then-capital-eq66 : goal.returns-then-capital-eq66
returns-then-capital-eq66 c = search constant_bits

pub returns-else-bits : goal.returns-else-bits
returns-else-bits c =
    elim c.else-bits.branch [
      | else-bits-via-then-bits+else-capital-eq66 w ↦ constant_string _ _ _ _ _ _ _ _ _ c.constant_end.ensures c.in-Some.is w.byte.ensures w.capital.ensures w.if-capital-eq66.false c.lex-else-bits.ensures
      | else-bits-via-else-bits w ↦ constant_plain _ _ _ _ _ _ _ c.constant_end.ensures c.in-Some.is w.if-bits.false c.lex-else-bits.ensures
    ]

pub returns-in_default : goal.returns-in_default
returns-in_default c = search constant_open
