-- What the test of the trees tells the passes that follow.
use Rattle.std.specs.Prelude.{◌≡◌, true, List, ℕ, ◌≤◌}
use Rattle.std.proofs.Common.{arith}
use Rattle.laws.specs.Test.{says_get}
use Rattle.tree_laws.specs.Ancestor.{none, Forest}
use Rattle.tree_laws.specs.DepthLaws.{depth_forest}
use Rattle.inspect_laws.specs.Trees.{are_trees}
use Rattle.inspect_laws.proofs.TreesLaws.{trees_depths, says_trees}
use Rattle.inspect_laws.specs.Compressed.{are_linked}
use Rattle.inspect_laws.proofs.CompressedLaws.{linked_forest}
use Rattle.inspect_tree.specs.Columns.{field_layer, parents, depths, uppers}
use Rattle.inspect_tree.specs.Links.{InRange}

-- the trees are right, and n is a count of rows
pub record Stored (f : List ℕ) (n : ℕ) : Type 0 where
  pub small : n ≤ none
  pub trees : are_trees (field_layer f n) ≡ true

pub stored_forest : {f : List ℕ} {n : ℕ} → Stored f n → Forest (parents f) (depths f) n
stored_forest {f} {n} s = depth_forest (trees_depths s.small (says_get (says_trees n (field_layer f n) (omega arith) s.small) s.trees))

pub linked_range : {f : List ℕ} {n : ℕ} → Stored f n → are_linked (field_layer f n) ≡ true → InRange (uppers f) n n
linked_range {f} {n} s e = record { each = (linked_forest (field_layer f n) (stored_forest s) e).inside }
