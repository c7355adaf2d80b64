-- By its type.
use Rattle.callees.proofs.Storing.{value_number, value_text}
use Rattle.callees.proofs.held_value.Goals as goal

pub returns-in-FixedType : goal.returns-in-FixedType
returns-in-FixedType c = search value_number

pub returns-in-CharacterType : goal.returns-in-CharacterType
returns-in-CharacterType c = search value_text
