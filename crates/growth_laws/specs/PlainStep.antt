-- What a growth does to the plain trees (01, "Images and plain tree"): a leaf is put under its parent, a new root over the old one, which takes the opening
-- if one is named, a first node is a tree by itself.
use Rattle.std.specs.Prelude.{◌≡◌, ℕ, suc, ◌<◌, eqb}
use Rattle.laws.specs.Test.{pick}
use Rattle.tree_laws.specs.Ancestor.{none}
use Rattle.table.specs.Table.{Table}
use Rattle.table.specs.PlainTree.{plain}
use Rattle.growth_laws.specs.Growth.{Growth, leaf, root, label_of, label_after, face_of, face_after}

-- the plain parent of the new row
abbrev pub plain_new : Growth → ℕ
plain_new (leaf v f s) = v
plain_new (root r named opening) = none

-- the plain parent of an old row after the growth: a new root becomes the parent of the old one
abbrev pub plain_old : Table → Growth → ℕ → ℕ
plain_old t (leaf v f s) x = plain t x
plain_old t (root r named opening) x = pick (eqb x r) t.layer.count (plain t x)

-- the plain trees, the labels and the faces of d are those of t after one step of the plain list
pub record PlainStep (t d : Table) (g : Growth) : Type 0 where
  pub count : d.layer.count ≡ suc t.layer.count
  pub parent_old : (x : ℕ) → x < t.layer.count → plain d x ≡ plain_old t g x
  pub parent_new : plain d t.layer.count ≡ plain_new g
  pub label_old : (x : ℕ) → x < t.layer.count → d.label x ≡ label_after t g x
  pub label_new : d.label t.layer.count ≡ label_of g
  pub face_old : (x : ℕ) → x < t.layer.count → d.face x ≡ face_after t g x
  pub face_new : d.face t.layer.count ≡ face_of g

-- and after a first node
pub record PlainStart (t d : Table) : Type 0 where
  pub count : d.layer.count ≡ suc t.layer.count
  pub parent_old : (x : ℕ) → x < t.layer.count → plain d x ≡ plain t x
  pub parent_new : plain d t.layer.count ≡ none
  pub label_old : (x : ℕ) → x < t.layer.count → d.label x ≡ t.label x
  pub label_new : d.label t.layer.count ≡ 0
  pub face_old : (x : ℕ) → x < t.layer.count → d.face x ≡ t.face x
  pub face_new : d.face t.layer.count ≡ 0
