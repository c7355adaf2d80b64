-- By the value, if there is one.
use Rattle.outcomes.proofs.Copying.{result_number, result_text, result_none}
use Rattle.outcomes.proofs.copied_result.Goals as goal

pub returns-in-Number : goal.returns-in-Number
returns-in-Number c = search result_number

pub returns-in-Characters : goal.returns-in-Characters
returns-in-Characters c = search result_text

pub returns-in-Err : goal.returns-in-Err
returns-in-Err c = search result_none
