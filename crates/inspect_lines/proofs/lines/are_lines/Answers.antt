-- `are_lines`: the roots, and the levels by the marks.
use mathlib.Core.Path.{◌≡◌, ◌∙◌}
use mathlib.Core.Bool.{true}
use borrow.Author.Tests.{not-false}
use Rattle.inspect_laws.proofs.All.{answer_no, answer_yes}
use Rattle.inspect_lines_laws.specs.Lines.{are_roots, are_lines}
use Rattle.inspect_lines.specs.Columns.{field_table}
use Rattle.inspect_lines.specs.LinesBy.{marked_levels}
use Rattle.std.proofs.Common.{rules}
use Rattle.inspect_lines.proofs.lines.are_lines.Goals as goal

pub returns-then-not-mark_lines : goal.returns-then-not-mark_lines
unfolding are_lines
returns-then-not-mark_lines c = rw (answer_no c.mark_lines.ensures.answer c.if-not-mark_lines.true-raw)

pub returns : goal.returns
unfolding are_lines
returns c =
    let marks = c.mark_lines.ensures in
    let yes = c.if-not-mark_lines.false-raw in
    let roots : are_roots (field_table c.args.fields.now c.args.n) ≡ true = answer_yes marks.answer yes in
    let lines = marks.lines (not-false c.mark_lines.result yes) in
    rw roots (c.are_levels.ensures ∙ marked_levels c.args.levels.now c.requires.stored roots (search rules) lines)
