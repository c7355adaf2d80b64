-- What answers of the code are, as the library has them.
use Rattle.std.specs.Prelude.{ℕ, Result}
use Rattle.texts.specs.declared.Progress.{Progress}
use Rattle.texts.specs.declared.Stop.{Stop}

abbrev pub Ran : Type 0
Ran = Result Progress (Stop × Progress)

abbrev pub Passed : Type 0
Passed = Result (ℕ × Progress) (Stop × Progress)
