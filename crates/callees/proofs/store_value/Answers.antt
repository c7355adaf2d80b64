-- By the kind of the value.
use Rattle.callees.proofs.Storing.{stored_number, stored_text, stored_bits}
use mathlib.Core.Logic.{inl, inr}
use Rattle.callees.proofs.store_value.Goals as goal

pub returns-in-Number : goal.returns-in-Number
returns-in-Number c = search stored_number

pub returns-in-Characters : goal.returns-in-Characters
returns-in-Characters c = elim c.in-Characters.is [ inl e ↦ search stored_text | inr e ↦ search stored_bits ]
