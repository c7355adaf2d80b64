-- Eight digits, and what covers the zeros in front of them.
use Rattle.values.proofs.Written.{digits_in_lem, sign_in_lem, minus_put, plain_put}
use Rattle.values.proofs.put_fixed.Goals as goal

pub overflow_sub-first : goal.overflow_sub-first
overflow_sub-first c = search digits_in_lem

pub overflow_sub-first-then-is_negative : goal.overflow_sub-first-then-is_negative
overflow_sub-first-then-is_negative c = search sign_in_lem

pub returns-then-is_negative : goal.returns-then-is_negative
returns-then-is_negative c = search minus_put

pub returns-else-is_negative : goal.returns-else-is_negative
returns-else-is_negative c = search plain_put
