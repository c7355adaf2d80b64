-- In the block, or not.
use Rattle.std.proofs.Common.{rules, arith}
use Rattle.operands.proofs.Prefixing.{sign_set, sign_out}
use Rattle.operands.proofs.put_sign.Goals as goal
use Rattle.operands.proofs.put_sign.Goals.{else-first-i-via-then-first-i+else-i-first-lt-BLOCK, else-first-i-via-else-first-i}

pub returns-then-i-first-lt-BLOCK : goal.returns-then-i-first-lt-BLOCK
returns-then-i-first-lt-BLOCK c = search (rules, sign_set)

pub returns-else-first-i : goal.returns-else-first-i
returns-else-first-i c = elim c.else-first-i.branch [
  | else-first-i-via-then-first-i+else-i-first-lt-BLOCK w ↦ sign_out _ _ _ _ (search rules) (λ h. w.if-i-first-lt-BLOCK.false)
  | else-first-i-via-else-first-i w ↦ sign_out _ _ _ _ (search rules) (λ h. absurd (omega (arith, h, w.if-first-i.false)))
]
