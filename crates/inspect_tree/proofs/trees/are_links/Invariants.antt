-- `are_links`: the chains of the rows below x end, and `rows` counts what they meet.
use Rattle.std.specs.Prelude.{◌≡◌, ◌*◌, ◌≤◌}
use Rattle.inspect_laws.proofs.All.{Passed}
use Rattle.inspect_laws.specs.Trees.{is_linked}
use Rattle.inspect_tree.specs.Columns.{field_layer}
use Rattle.inspect_tree.specs.Links.{rows_to}
use Rattle.inspect_tree.proofs.trees.are_links.Given as goal

abbrev pub invariant-loop-x : goal.invariant-loop-x
invariant-loop-x l = Passed (is_linked (field_layer l.fields l.n)) l.x × ((l.rows ≡ rows_to (field_layer l.fields l.n) l.x) × (l.rows ≤ l.x * 65536))
