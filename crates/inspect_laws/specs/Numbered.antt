-- Inspection of a layer: of rule 1 the trees, and rules 2 to 6, each by comparisons that code can make. The test says exactly that the trees are
-- numbered.
use Rattle.std.specs.Prelude.{Bool, ◌&&◌}
use Rattle.layer.specs.Layer.{Layer}
use Rattle.inspect_laws.specs.Trees.{are_trees}
use Rattle.inspect_laws.specs.Compressed.{is_compressed}
use Rattle.inspect_laws.specs.SetSizes.{are_set_sizes, are_small_children}
use Rattle.inspect_laws.specs.Nested.{are_nested}
use Rattle.inspect_laws.specs.Entries.{are_entries}

unfoldable pub is_numbered : Layer → Bool
is_numbered t = are_trees t && (is_compressed t && (are_set_sizes t && (are_small_children t && (are_nested t && are_entries t))))
