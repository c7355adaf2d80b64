-- What answers of the code are, as the library has them.
use Rattle.std.specs.Prelude.{ℕ, Result}
use Rattle.definition.specs.declared.Why.{Why}
use Rattle.statements.specs.declared.Clause.{Clause}

abbrev pub Read : Type 0
Read = Result Clause (Why × ℕ)
