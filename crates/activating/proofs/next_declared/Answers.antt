-- A comma inside parentheses, or behind the attribute.
use Rattle.std.proofs.Common.{refl}
use Rattle.activating.proofs.Walks.{comma_inside, comma_behind}
use Rattle.activating.proofs.next_declared.Goals as goal

pub returns-then-is_sign : goal.returns-then-is_sign
returns-then-is_sign c = search comma_inside

pub returns : goal.returns
returns c = let p = c.past_sign.ensures ")" refl in search comma_behind
