-- `are_parents`: all rows pass.
use Rattle.std.specs.Prelude.{◌&&◌}
use Rattle.std.proofs.Common.{rules}
use Rattle.inspect_laws.specs.Trees.{is_parent, is_depth}
use Rattle.inspect_laws.proofs.AllRows.{all_rows}
use Rattle.inspect_tree.specs.Columns.{field_layer}
use Rattle.inspect_tree.proofs.trees.are_parents.Goals as goal

pub returns : goal.returns
returns c = all_rows (λ x. is_parent (field_layer c.args.fields.now c.args.n) x && is_depth (field_layer c.args.fields.now c.args.n) x) c.args.n _ c.all.ensures.ran (λ x b q k. search rules)
