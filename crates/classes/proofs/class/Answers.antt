-- The table is the list of the classes of 0 to 255, which antt computes. `Letter` is what the rule of the look has for a place
-- outside of the table: the enum's first variant.
use Rattle.std.proofs.Common.{rules}
use Rattle.definition.specs.declared.Class.TheVariants.{Letter}
use Rattle.definition.specs.Bytes.{mixed, class_of, is_small, is_letter, is_digit, is_blank, is_mark}
use Rattle.classes.proofs.Laws.{tab_at}
use Rattle.classes.proofs.class.Goals as goal

pub returns : goal.returns
unfolding class_of is_letter is_small is_digit is_blank is_mark
returns c = tab_at (class_of mixed) Letter 256 c.args.b (search rules)
