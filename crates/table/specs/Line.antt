-- The line of each tree, from its first row to its root, and the levels (01, "Images and plain tree" and inspection's rule 1; 02, "Coupled rooms").
use Rattle.std.specs.Prelude.{◌≡◌, ◌≢◌, ℕ, ◌<◌, pos, ◌+ℤ◌, ◌-ℤ◌}
use Rattle.tree_laws.specs.Ancestor.{none, Anc}
use Rattle.tree_laws.specs.Top.{First}
use Rattle.layer.specs.Layer.{parent}
use Rattle.table.specs.Table.{Table}

-- the root that the first row f of a tree records is a row of that tree
pub record Rooted (t : Table) (f : ℕ) : Type 0 where
  pub in_use : t.root f < t.layer.count
  pub over : Anc (parent t.layer) f (t.root f)

-- x lies on the line from the first row of its tree to the tree's root
pub record OnLine (t : Table) (x : ℕ) : Type 0 where
  pub first : ℕ
  pub is : First (parent t.layer) first x
  pub over : Anc (parent t.layer) x (t.root first)

-- the level of row x: 0 at the first row of a tree, one above its stored parent on the line to the root, one below it elsewhere
pub record Level (t : Table) (x : ℕ) : Type 0 where
  pub first : parent t.layer x ≡ none → t.level x ≡ pos 0
  pub on_line : parent t.layer x ≢ none → OnLine t x → t.level x ≡ t.level (parent t.layer x) -ℤ pos 1
  pub off_line : parent t.layer x ≢ none → (OnLine t x → ⊥) → t.level x ≡ t.level (parent t.layer x) +ℤ pos 1
