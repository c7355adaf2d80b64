use Rattle.printing.proofs.Laws.{digits_none, digits_one, digits_more}
use Rattle.printing.proofs.+put_digits.Goals as goal

pub returns-then-most-eq0 : goal.returns-then-most-eq0
returns-then-most-eq0 t c = search digits_none

pub returns-then-n-lt10 : goal.returns-then-n-lt10
returns-then-n-lt10 t c = search digits_one

pub returns : goal.returns
returns t c = search digits_more
