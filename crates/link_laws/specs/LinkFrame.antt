-- What a link leaves as it was (02, "Redraw only what moved"): outside the linked tree and the receiving one nothing changes.
use Rattle.std.specs.Prelude.{◌≢◌, ℕ, ◌≤◌, ◌<◌}
use Rattle.layer.specs.StoredTree.{first}
use Rattle.table.specs.Table.{Table}
use Rattle.growth_laws.specs.GrowthFrame.{Untouched}

-- row w stands in neither tree
pub record Elsewhere (t : Table) (x v w : ℕ) : Type 0 where
  pub in_use : w < t.layer.count
  pub not_linked : first t.layer w ≢ first t.layer x
  pub not_receiving : first t.layer w ≢ first t.layer v

-- table t, of capacity c, became table d by a link of the tree of x under v
pub record LinkFrame (c : ℕ) (t d : Table) (x v : ℕ) : Type 0 where
  pub elsewhere : (w : ℕ) → Elsewhere t x v w → Untouched t d w
  pub unused : (w : ℕ) → t.layer.count ≤ w → w < c → Untouched t d w
