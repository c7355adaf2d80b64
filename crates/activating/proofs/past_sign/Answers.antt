-- The sign is there, or not.
use Rattle.activating.proofs.Walks.{sign_there, sign_absent}
use Rattle.activating.proofs.past_sign.Goals as goal

pub returns-then-is_sign : goal.returns-then-is_sign
returns-then-is_sign c = λ w e. search sign_there

pub returns : goal.returns
returns c = λ w e. search sign_absent
