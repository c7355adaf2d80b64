-- Both names, or the one.
use Rattle.std.proofs.Common.{◌∙◌}
use Rattle.deck.proofs.Laws.{library_wrong, both_named, alone_named}
use Rattle.deck.proofs.is_named.Goals as goal

pub returns-then-is_member_name : goal.returns-then-is_member_name
returns-then-is_member_name c = search both_named

pub returns-else-is_member_name : goal.returns-else-is_member_name
returns-else-is_member_name c = c.if-is_member_name.false ∙ search library_wrong

pub returns-else-has_libraries : goal.returns-else-has_libraries
returns-else-has_libraries c = search alone_named
