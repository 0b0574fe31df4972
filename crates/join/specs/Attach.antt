-- A new leaf in the layer (01: child links in order of arrival; "A new leaf is a path by itself with σ = 0", s = 1), and the links as they will stand.
use Rattle.std.specs.Prelude.{List, ℕ, eqb}
use Rattle.laws.specs.Test.{pick}
use Rattle.tree_laws.specs.Ancestor.{none}
use Rattle.layer.specs.Layout.{parent_place, first_place, last_place, next_place, upper_place, path_place, size_place, set_size_place, depth_place}
use Rattle.layer.specs.Row.{field_at}
use Rattle.layer.specs.Write.{with_field}
use Rattle.join.specs.declared.attach.Leaf.{Leaf}
use Rattle.join.specs.Chain.{raised}

-- the links as they will stand ------------------------------------------------------

-- the first child of the leaf's parent, with the leaf
unfoldable pub first_of : List ℕ → Leaf → ℕ
first_of f leaf = pick (eqb leaf.prev none) leaf.row (field_at f leaf.parent first_place)

unfoldable pub first_after : List ℕ → Leaf → ℕ → ℕ
first_after f leaf v = pick (eqb v leaf.row) none (pick (eqb v leaf.parent) (first_of f leaf) (field_at f v first_place))

unfoldable pub next_after : List ℕ → Leaf → ℕ → ℕ
next_after f leaf v = pick (eqb v leaf.row) none (pick (eqb v leaf.prev) leaf.row (field_at f v next_place))

unfoldable pub parent_after : List ℕ → Leaf → ℕ → ℕ
parent_after f leaf v = pick (eqb v leaf.row) leaf.parent (field_at f v parent_place)

-- the stores --------------------------------------------------------------------------

-- the links of the new row
unfoldable pub new_links : List ℕ → ℕ → ℕ → ℕ → List ℕ
new_links f x parent upper =
    with_field
    (with_field
    (with_field (with_field (with_field (with_field f x parent_place parent) x first_place none) x last_place none) x next_place none)
    x upper_place upper)
    x path_place none

-- the numbers of the new row
unfoldable pub new_values : List ℕ → ℕ → ℕ → List ℕ
new_values f x depth = with_field (with_field (with_field f x size_place 1) x set_size_place 0) x depth_place depth

-- the links to the new row from its parent and its last sibling
unfoldable pub linked : List ℕ → Leaf → List ℕ
linked f leaf =
    with_field
    (with_field (with_field f leaf.parent first_place (first_of f leaf)) leaf.prev next_place leaf.row)
    leaf.parent last_place leaf.row

-- the row, linked, with one more in each size of its chain, of at most n rows
unfoldable pub attached : ℕ → List ℕ → Leaf → ℕ → ℕ → List ℕ
attached n f leaf upper depth =
    raised n (linked (new_values (new_links f leaf.row leaf.parent upper) leaf.row depth) leaf) upper
