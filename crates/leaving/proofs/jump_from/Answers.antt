-- One law for each kind of name.
use Rattle.leaving.proofs.Leaving.{from_unknown, from_label, from_variable, from_entry, from_builtin}
use mathlib.Core.Logic.{inl, inr}
use Rattle.leaving.proofs.jump_from.Goals as goal

pub returns-in_default : goal.returns-in_default
returns-in_default c = search from_unknown

pub returns-in-LabelName : goal.returns-in-LabelName
returns-in-LabelName c = search from_label

pub returns-in-Variable : goal.returns-in-Variable
returns-in-Variable c = elim c.in-Variable.is [
  | inl (v, e) ↦ search from_variable
  | inr (inl (v, e)) ↦ search from_entry
  | inr (inr e) ↦ search from_builtin
]
