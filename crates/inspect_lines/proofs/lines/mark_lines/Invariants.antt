-- `mark_lines`: the rows below f pass, and the lines to their roots are marked.
use Rattle.std.specs.Prelude.{◌≡◌, length}
use Rattle.inspect_laws.proofs.All.{Passed}
use Rattle.inspect_lines_laws.specs.Lines.{is_rooted}
use Rattle.inspect_lines.specs.Columns.{field_table}
use Rattle.inspect_lines.specs.Marks.{LinesTo}
use Rattle.inspect_lines.proofs.lines.mark_lines.Given as goal

abbrev pub invariant-loop-f : goal.invariant-loop-f
invariant-loop-f l = (length l.s ≡ length l.initial.s) × (Passed (is_rooted (field_table l.fields l.n)) l.f × LinesTo (field_table l.fields l.n) l.f l.s)
