-- `mark_lines`: the rows below f pass, and the lines to their roots are marked.
use Rattle.inspect_laws.proofs.All.{passed_end, stopped_by}
use Rattle.inspect_lines_laws.specs.Lines.{is_rooted}
use Rattle.inspect_lines.specs.Columns.{field_table}
use Rattle.inspect_lines.specs.Marks.{lines_stop, lines_end}
use native.Mathlib.Omega.{arith}
use Rattle.inspect_lines.proofs.lines.mark_lines.Goals as goal

pub returns-then-not-mark_tree : goal.returns-then-not-mark_tree
returns-then-not-mark_tree c = lines_stop (field_table c.args.fields.now c.args.n) _ (stopped_by (is_rooted (field_table c.args.fields.now c.args.n)) c.args.n c.loop-f.f (omega arith) c.mark_tree.ensures.answer c.if-not-mark_tree.true-raw)

pub returns : goal.returns
returns c = lines_end c.loop-f.f (omega arith) (passed_end c.args.n c.loop-f.invariant.1.0 (omega arith)) c.loop-f.invariant.1.1
