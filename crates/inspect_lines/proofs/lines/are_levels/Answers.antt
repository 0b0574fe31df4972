-- `are_levels`: all rows pass.
use Rattle.std.proofs.Common.{rules}
use Rattle.inspect_lines.specs.Columns.{level_table}
use Rattle.inspect_lines.specs.Marks.{is_level_by_mark}
use Rattle.inspect_laws.proofs.AllRows.{all_rows}
use Rattle.inspect_lines.proofs.lines.are_levels.Goals as goal

pub returns : goal.returns
returns c = all_rows (is_level_by_mark (level_table c.args.fields.now c.args.levels.now 0) c.args.s.now) c.args.n _ c.all.ensures.ran (λ x b q k. search rules)
