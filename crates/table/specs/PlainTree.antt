-- The plain trees that a table records (01, "Images and plain tree"): each stored tree re-rooted at the root that its first row records.
use Rattle.std.specs.Prelude.{ℕ}
use Rattle.tree_laws.specs.Reroot.{plain_parent}
use Rattle.layer.specs.Layer.{parent, depth}
use Rattle.layer.specs.StoredTree.{first}
use Rattle.table.specs.Table.{Table}

-- the root of the tree of x
abbrev pub root : Table → ℕ → ℕ
root t x = t.root (first t.layer x)

-- the plain parent of a row: none for a root; on the line from the first row to the root, the next row towards it; elsewhere the stored parent
abbrev pub plain : Table → ℕ → ℕ
plain t x = plain_parent (parent t.layer) (depth t.layer) (root t x) x
