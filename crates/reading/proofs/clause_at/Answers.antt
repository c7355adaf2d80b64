-- END, one sentence too many, a label that is too long, or a statement.
use Rattle.reading.proofs.Clausing.{clause_ends_long, clause_ends, clause_overfull, clause_too_long, clause_statement}
use Rattle.reading.proofs.clause_at.Goals as goal

ruleset ways = (clause_ends_long, clause_ends, clause_overfull, clause_too_long, clause_statement)

pub returns-in-Some : goal.returns-in-Some
returns-in-Some c = search ways

pub returns-in-None : goal.returns-in-None
returns-in-None c = search ways

pub returns-then-is_full : goal.returns-then-is_full
returns-then-is_full c = search ways

pub returns-in-Some-long : goal.returns-in-Some-long
returns-in-Some-long c = clause_too_long _ _ _ _ _ _ _ _ c.labels_at-l.ensures _ c.token_at-t.ensures _ c.top_kind-kind.ensures _ c.is_end.ensures _ c.if-is_end.false _ c.is_full.ensures c.if-is_full.false c.keyword_here-k.result _ c.label_meaning.ensures _ _ c.declare_labels-named.ensures _ (search c.in-Some-long) c.stop-in-Some-long.ensures

pub returns-in-None-long : goal.returns-in-None-long
returns-in-None-long c = clause_statement _ _ _ _ _ _ _ _ c.labels_at-l.ensures _ c.token_at-t.ensures _ c.top_kind-kind.ensures _ c.is_end.ensures _ c.if-is_end.false _ c.is_full.ensures c.if-is_full.false c.keyword_here-k.result _ c.label_meaning.ensures _ _ c.declare_labels-named.ensures _ _ (search c.in-None-long) c.keyword_here-k.ensures c.by_token.ensures
