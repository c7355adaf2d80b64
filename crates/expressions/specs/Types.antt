-- What answers of the code are, as the library has them.
use Rattle.std.specs.Prelude.{ℕ, Result}
use Rattle.definition.specs.declared.Why.{Why}

abbrev pub Expected : Type 0
Expected = Result ℕ (Why × ℕ)

abbrev pub NamedAt : Type 0
NamedAt = Result (ℕ × ℕ) (Why × ℕ)
