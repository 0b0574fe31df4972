-- `are_small_children`: all rows pass.
use Rattle.std.proofs.Common.{rules}
use Rattle.inspect_laws.specs.SetSizes.{are_small_children, is_small_child}
use Rattle.inspect_laws.proofs.AllRows.{all_rows}
use Rattle.inspect_tree.specs.Columns.{field_layer}
use Rattle.inspect_tree.proofs.set_sizes.are_small_children.Goals as goal

pub returns : goal.returns
unfolding are_small_children
returns c = all_rows (is_small_child (field_layer c.args.fields.now 0)) c.args.n _ c.all.ensures.ran (λ x b q k. search rules)
