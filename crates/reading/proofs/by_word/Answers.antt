-- One law for each keyword.
use Rattle.reading.proofs.Wording.{word_if, word_do, word_deep, word_alone, word_other, word_declare, word_procedure}
use Rattle.reading.proofs.by_word.Goals as goal

ruleset words = (word_if, word_do, word_deep, word_alone, word_other, word_declare, word_procedure)

pub returns-then-depth-lt-GROUPS : goal.returns-then-depth-lt-GROUPS
returns-then-depth-lt-GROUPS c = search words

pub returns-in-Declare : goal.returns-in-Declare
returns-in-Declare c = search words

pub returns-in-Procedure : goal.returns-in-Procedure
returns-in-Procedure c = search words

pub returns-in-Other : goal.returns-in-Other
returns-in-Other c = search words

pub returns-else-depth-lt-GROUPS : goal.returns-else-depth-lt-GROUPS
returns-else-depth-lt-GROUPS c = search words

pub returns-in-If : goal.returns-in-If
returns-in-If c = search words

pub returns-in-Goto : goal.returns-in-Goto
returns-in-Goto c = search word_alone
