-- The line at its place, and the numbers, each by its function.
use Rattle.std.proofs.Common.{rules}
use Rattle.output.proofs.Laws.{line_written}
use Rattle.output.proofs.with_line.Goals as goal

pub returns : goal.returns
returns c = line_written _ _ _ _ _ _ _ _ _ _ _ _ (search rules) c.line_at.ensures c.put_line.ensures c.sum-lines.ensures c.sum.ensures c.less.ensures c.less-2.ensures c.less-3.ensures
