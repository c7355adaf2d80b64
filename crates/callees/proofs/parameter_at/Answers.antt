-- By what the address stands for.
use Rattle.callees.proofs.Naming.{parameter_unknown, parameter_variable, parameter_entry, parameter_label, parameter_builtin}
use mathlib.Core.Logic.{inl, inr}
use Rattle.callees.proofs.parameter_at.Goals as goal

pub returns-in_err-a : goal.returns-in_err-a
returns-in_err-a c = let w = c.in_err-a.was in rw c.from_residual.ensures (search parameter_unknown)

pub returns-in-Variable : goal.returns-in-Variable
returns-in-Variable c = let w = c.in_ok-a.was in search parameter_variable

pub returns-in-EntryName : goal.returns-in-EntryName
returns-in-EntryName c = let w = c.in_ok-a.was in elim c.in-EntryName.is [
  | inl (y, e) ↦ search parameter_entry
  | inr (inl (y, e)) ↦ search parameter_label
  | inr (inr e) ↦ search parameter_builtin
]
