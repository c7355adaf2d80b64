use Rattle.std.proofs.Common.{refl}
use Rattle.activating.proofs.Walks.{none_if, setting_start, setting_done, setting_wrong, setting_end, setting_on}
use Rattle.activating.proofs.set_all.Goals as goal

pub loop-init : goal.loop-init
loop-init c = search setting_start

pub loop-preserved : goal.loop-preserved
loop-preserved c = let p = c.past_sign.ensures "(" refl in search setting_on

pub returns-in_default : goal.returns-in_default
returns-in_default c = let p = c.past_sign.ensures "(" refl in let u = none_if _ c.in_default.not-Some in search setting_end

pub returns-then-not-activate : goal.returns-then-not-activate
returns-then-not-activate c = let p = c.past_sign.ensures "(" refl in search setting_wrong

pub returns : goal.returns
returns c = search setting_done
