-- What answers of the code are, as the library has them.
use Rattle.std.specs.Prelude.{Result}
use Rattle.flow.specs.declared.Next.{Next}
use Rattle.texts.specs.declared.Progress.{Progress}
use Rattle.texts.specs.declared.Stop.{Stop}

abbrev pub Onward : Type 0
Onward = Result (Next × Progress) (Stop × Progress)
