-- A growth under a row (01, "Images and plain tree"; 02, "a top then names the source it goes over"): a leaf or a new root, and what it gives the new row and
-- the old root.
use Rattle.std.specs.Prelude.{◌≡◌, Bool, true, false, ◌&&◌, ℕ, ◌≤◌, ◌<◌, ℤ, pos, ◌+ℤ◌, ◌-ℤ◌, eqb}
use Rattle.laws.specs.Test.{pick}
use Rattle.tree_laws.specs.Ancestor.{none}
use Rattle.layer.specs.StoredTree.{first}
use Rattle.table.specs.Table.{Table}
use Rattle.table.specs.PlainTree.{root as root_in}
use Rattle.table.specs.Rules.{label_limit, face_limit}

-- a leaf with a parent, a label and a face, or a new root (the paper's top) over a root r, with whether it names an opening, and the opening
pub data Growth : Type 0 where
  leaf : (v f s : ℕ) → Growth
  root : (r : ℕ) (named : Bool) (opening : ℕ) → Growth

-- an opening, where one is named, is a label from 1 to 9,999
pub data Opens : Bool → ℕ → Type 0 where
  unnamed : {opening : ℕ} → Opens false opening
  opens : {opening : ℕ} → 1 ≤ opening → opening ≤ label_limit → Opens true opening

-- what a growth must name to be served: a row in use, a label from 1 to 9,999 and a face, or the root of a plain tree and, if any, an opening
pub data Named (t : Table) : Growth → Type 0 where
  named_leaf : {v f s : ℕ} → v < t.layer.count → 1 ≤ f → f ≤ label_limit → s ≤ face_limit → Named t (leaf v f s)
  named_root : {r : ℕ} {named : Bool} {opening : ℕ} → r < t.layer.count → root_in t r ≡ r → Opens named opening → Named t (root r named opening)

-- the row that the stored tree puts the new one under: a new root is stored as a leaf under the old one
abbrev pub parent_of : Growth → ℕ
parent_of (leaf v f s) = v
parent_of (root r named opening) = r

-- the label of the new row
abbrev pub label_of : Growth → ℕ
label_of (leaf v f s) = f
label_of (root r named opening) = 0

-- and its face
abbrev pub face_of : Growth → ℕ
face_of (leaf v f s) = s
face_of (root r named opening) = 0

-- the opening that may be named
abbrev pub opening_of : Growth → ℕ
opening_of (leaf v f s) = 0
opening_of (root r named opening) = opening

-- a column at an old row x after the growth, where an old root that is opened takes o
abbrev pub column_after : Growth → (ℕ → ℕ) → ℕ → ℕ → ℕ
column_after (leaf v f s) column o x = column x
column_after (root r named opening) column o x = pick (named && eqb x r) o (column x)

-- the labels (02: "the opening, which becomes the old source's panel")
abbrev pub label_after : Table → Growth → ℕ → ℕ
label_after t g x = column_after g t.label (opening_of g) x

-- the faces: an opening is front
abbrev pub face_after : Table → Growth → ℕ → ℕ
face_after t g x = column_after g t.face 0 x

-- the old root that takes an opening, or none
abbrev pub opened_by : Growth → ℕ
opened_by (leaf v f s) = none
opened_by (root r named opening) = pick named r none

-- one below its parent for a leaf, one above the old root for a new root
abbrev pub level_of : Table → Growth → ℤ
level_of t (leaf v f s) = t.level v +ℤ pos 1
level_of t (root r named opening) = t.level r -ℤ pos 1

-- the row whose root record changes, or none
abbrev pub tree_of : Table → Growth → ℕ
tree_of t (leaf v f s) = none
tree_of t (root r named opening) = first t.layer r

-- the root that row x records after the growth
abbrev pub root_after : Table → Growth → ℕ → ℕ
root_after t g x = pick (eqb x (tree_of t g)) t.layer.count (t.root x)
