-- The two trees of a numbered layer, and the rows of one of its trees. No labels, levels or roots.
use Rattle.std.specs.Prelude.{ℕ, ◌<◌}
use Rattle.tree_laws.specs.Top.{First}
use Rattle.layer.specs.Layer.{Layer, parent}

-- row x stands in the tree whose first row is f
pub record InTree (t : Layer) (f x : ℕ) : Type 0 where
  pub in_use : x < t.count
  pub is : First (parent t) f x
