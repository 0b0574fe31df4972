-- The order in which the rows of a linked tree join (02: "level by level from the hung source, by rising number within a level").
use Rattle.std.specs.Prelude.{◌≡◌, Bool, ◌⊎◌, List, [], ◌∷◌, ℕ, ◌<◌, eqb}
use Rattle.laws.specs.Sum.{count_to}
use Rattle.tree_laws.specs.ChildLinks.{Member}
use Rattle.tree_laws.specs.Depth.{Steps}
use Rattle.layer.specs.Layer.{Layer}
use Rattle.layer.specs.StoredTree.{first}
use Rattle.table.specs.Table.{Table}
use Rattle.table.specs.PlainTree.{plain}

-- row w stands in the tree of x
abbrev pub is_of_tree : Layer → ℕ → ℕ → Bool
is_of_tree t x w = eqb (first t w) (first t x)

-- how many rows in use stand in the tree of x
abbrev pub tree_rows : Layer → ℕ → ℕ
tree_rows t x = count_to (is_of_tree t x) t.count

-- row w comes before row y: it lies fewer steps below x in the plain tree, or as many and has the smaller number
pub record Precedes (t : Table) (x w y : ℕ) : Type 0 where
  pub depth : ℕ
  pub under : Steps (plain t) x depth w
  pub depth_after : ℕ
  pub under_after : Steps (plain t) x depth_after y
  pub sooner : (depth < depth_after) ⊎ ((depth ≡ depth_after) × (w < y))

-- each row of the list stands in a relation to all that come after it
abbrev pub Rises : (ℕ → ℕ → Type 0) → List ℕ → Type 0
Rises P [] = Unit {0}
Rises P (w ∷ ws) = ((y : ℕ) → Member ws y → P w y) × Rises P ws

-- the list holds the rows of the tree of x, in their order
pub record Order (t : Table) (x : ℕ) (zs : List ℕ) : Type 0 where
  pub inside : (w : ℕ) → Member zs w → w < t.layer.count
  pub moved : (w : ℕ) → Member zs w → first t.layer w ≡ first t.layer x
  pub all : (w : ℕ) → w < t.layer.count → first t.layer w ≡ first t.layer x → Member zs w
  pub rises : Rises (Precedes t x) zs
