-- As many bytes, and the same but for case.
use Rattle.std.proofs.Common.{◌∙◌}
use borrow.Author.Tests.{ne_eqb}
use Rattle.tokens.proofs.Lexemes.{spelled_same, spelled_not}
use Rattle.tokens.proofs.is_spelled.Goals as goal

pub returns-then-width-w : goal.returns-then-width-w
returns-then-width-w c = search spelled_same

pub returns-else-width-w : goal.returns-else-width-w
returns-else-width-w c = ne_eqb _ _ c.if-width-w.false ∙ search spelled_not
