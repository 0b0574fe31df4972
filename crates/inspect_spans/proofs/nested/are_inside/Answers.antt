-- `are_inside`: all rows pass.
use Rattle.std.specs.Prelude.{◌&&◌}
use Rattle.std.proofs.Common.{rules}
use Rattle.inspect_laws.specs.Nested.{is_inside, has_room}
use Rattle.inspect_laws.proofs.AllRows.{all_rows}
use Rattle.inspect_tree.specs.Columns.{span_layer}
use Rattle.inspect_spans.proofs.nested.are_inside.Goals as goal

pub returns : goal.returns
returns c = all_rows (λ x. is_inside (span_layer c.args.fields.now c.args.numbers.now 0) x && has_room (span_layer c.args.fields.now c.args.numbers.now 0) x) c.args.n _ c.all.ensures.ran (λ x b q k. search rules)
