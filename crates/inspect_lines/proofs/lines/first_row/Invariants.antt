-- `first_row`: from z on, the steps that are left lead to the first row.
use Rattle.std.specs.Prelude.{◌≡◌, ◌-◌}
use Rattle.tree_laws.specs.Top.{top_within}
use Rattle.layer.specs.StoredTree.{first}
use Rattle.inspect_tree.specs.Columns.{field_layer, parents}
use Rattle.inspect_lines.proofs.lines.first_row.Given as goal

abbrev pub invariant-loop : goal.invariant-loop
invariant-loop l = top_within (parents l.fields) (l.end - l.counter) l.z ≡ first (field_layer l.fields 0) l.x
