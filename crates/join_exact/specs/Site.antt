-- Where a row joins: a layer t in which row z stands alone, and the lent parts that hold its other rows. For a new leaf t is the layer with one row more,
-- which the parts do not hold yet; for a linked tree's row the parts hold all of t.
use Rattle.std.specs.Prelude.{◌≡◌, ℕ, ◌+◌}
use Rattle.tree_laws.specs.Compressed.{Apex, PathChild}
use Rattle.layer.specs.Layer.{Layer, parent, depth, upper, path}

-- what is found for the row: its last sibling w, its upper row u and its depth
pub record LeafOf (t : Layer) (v w u deep : ℕ) : Type 0 where
  pub sibling : w ≡ (t.row v).last
  pub upper_apex : Apex (parent t) (path t) v → u ≡ v
  pub upper_along : PathChild (parent t) (path t) v → u ≡ upper t v
  pub below : deep ≡ depth t v + 1
