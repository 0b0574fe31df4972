-- `are_linked`: all rows pass.
use Rattle.std.specs.Prelude.{◌&&◌}
use Rattle.std.proofs.Common.{rules}
use Rattle.inspect_laws.specs.Compressed.{is_path, is_upper}
use Rattle.inspect_laws.proofs.AllRows.{all_rows}
use Rattle.inspect_tree.specs.Columns.{field_layer}
use Rattle.inspect_tree.proofs.compressed.are_linked.Goals as goal

pub returns : goal.returns
returns c = all_rows (λ x. is_path (field_layer c.args.fields.now c.args.n) x && is_upper (field_layer c.args.fields.now c.args.n) x) c.args.n _ c.all.ensures.ran (λ x b q k. search rules)
