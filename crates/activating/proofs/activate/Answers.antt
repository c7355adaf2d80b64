-- One law for each kind of name.
use Rattle.activating.proofs.Tables.{name_unknown, name_wrong, name_right}
use Rattle.activating.proofs.activate.Goals as goal

pub returns-then-is_active_kind : goal.returns-then-is_active_kind
returns-then-is_active_kind c = search name_right

pub returns-in_default : goal.returns-in_default
returns-in_default c = search name_unknown

pub returns : goal.returns
returns c = search (name_unknown, name_wrong)
