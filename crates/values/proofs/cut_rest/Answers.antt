-- The sign, and then the places.
use Rattle.values.proofs.Substr.{rest_from, rest_is}
use Rattle.values.proofs.cut_rest.Goals as goal

pub returns-then-is_negative : goal.returns-then-is_negative
returns-then-is_negative c = search rest_from

pub returns : goal.returns
returns c = search rest_is
