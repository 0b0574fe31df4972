-- `are_bounded`: all rows pass.
use Rattle.std.specs.Prelude.{◌&&◌}
use Rattle.std.proofs.Common.{rules}
use Rattle.inspect_lines_laws.specs.Bounded.{is_within, is_root_zero, are_bounded}
use Rattle.inspect_lines.specs.Columns.{column, field_table}
use Rattle.inspect_laws.proofs.AllRows.{all_rows}
use Rattle.inspect_lines.proofs.bounded.are_bounded.Goals as goal

pub returns : goal.returns
unfolding are_bounded
returns c = all_rows (λ x. is_within (column c.args.fields.now c.args.place) c.args.limit x && is_root_zero (field_table c.args.fields.now 0) (column c.args.fields.now c.args.place) x) c.args.n _ c.all.ensures.ran (λ x b q k. search rules)
