-- Another length, which most identifiers have, or other bytes.
use Rattle.std.proofs.Common.{sym, refl, ◌∙◌, eqb-true}
use Rattle.names.specs.Table.{name_in}
use Rattle.names.proofs.Laws.{not_there, other_spelling}
use Rattle.names.proofs.is_at.Goals as goal
use Rattle.names.proofs.is_at.Goals.{then-has_length, else-has_length}

pub returns-else-is_one_name : goal.returns-else-is_one_name
returns-else-is_one_name c =
    c.if-is_one_name.false ∙ elim c.if-has_length.branch [
      | then-has_length w ↦ other_spelling _ (name_in c.args.names.now c.args.a.0) _ _ _ c.args.owner (name_in c.args.names.now c.args.a.0).identifier.1 _ _ refl (eqb-true _ _ (sym c.has_length.ensures ∙ w.if-has_length.true)) w.spelled_at.ensures w.is_one_name.ensures (sym w.value-is ∙ c.if-is_one_name.false)
      | else-has_length w ↦ not_there _ _ _ _ _ _ _ _ c.has_length.ensures w.if-has_length.false
    ]
