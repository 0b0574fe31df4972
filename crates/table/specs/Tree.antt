-- The tree of a row and its root as the code reads them, on any table: two reads, and none where a number read is no row in use.
use Rattle.std.specs.Prelude.{List, ℕ, ltb, eqb}
use Rattle.laws.specs.Test.{pick}
use Rattle.tree_laws.specs.Ancestor.{none}
use Rattle.table.specs.Layout.{root_place}
use Rattle.layer.specs.Layout.{tree_place}
use Rattle.layer.specs.Row.{entry_at, field_at}

-- y where it is a row in use, else none
abbrev pub in_use : ℕ → ℕ → ℕ
in_use n y = pick (ltb y n) y none

-- the first row of the tree of x
abbrev pub tree_at : List ℕ → ℕ → ℕ → ℕ
tree_at a n x = in_use n (entry_at a x tree_place)

-- the root that row f records
abbrev pub recorded_at : List ℕ → ℕ → ℕ → ℕ
recorded_at f n y = in_use n (field_at f y root_place)

-- the root that the first row recorded, where there is such a row
abbrev pub root_of : List ℕ → ℕ → ℕ → ℕ
root_of f n y = pick (eqb y none) none (recorded_at f n y)

-- the root of the tree of x
abbrev pub root_at : List ℕ → List ℕ → ℕ → ℕ → ℕ
root_at f a n x = root_of f n (tree_at a n x)
