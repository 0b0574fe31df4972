-- A whole tree is linked, by its root, under a row of another tree (02, "Coupled rooms").
use Rattle.std.specs.Prelude.{◌≡◌, ◌≢◌, List, ℕ, ◌≤◌, ◌<◌, eqb}
use Rattle.laws.specs.Test.{pick}
use Rattle.layer.specs.Layer.{parent}
use Rattle.layer.specs.StoredTree.{first}
use Rattle.table.specs.Table.{Table}
use Rattle.table.specs.PlainTree.{root, plain}
use Rattle.table.specs.Rules.{label_limit}
use Rattle.join_laws.specs.Lone.{Parted}
use Rattle.link_laws.specs.Joinings.{Joinings}
use Rattle.link_laws.specs.Order.{is_of_tree, Order}

-- the row that w comes under: its plain parent, and v for the linked root
abbrev pub target : Table → ℕ → ℕ → ℕ → ℕ
target t x v w = pick (eqb w x) v (plain t w)

-- a column after the link: the linked root x takes o, all others keep theirs
abbrev pub column_with : (ℕ → ℕ) → ℕ → ℕ → ℕ → ℕ
column_with column x o w = pick (eqb w x) o (column w)

-- x is the root of its tree, v a row of another one, and `door`, the label that a linked root takes, goes from 1 to 9,999
pub record Linkable (t : Table) (x v door : ℕ) : Type 0 where
  pub in_use : x < t.layer.count
  pub is_root : root t x ≡ x
  pub over : v < t.layer.count
  pub other : first t.layer v ≢ first t.layer x
  pub least : 1 ≤ door
  pub most : door ≤ label_limit

-- t becomes d: the rows of the tree of x are parted, and join in their order; k rows are renumbered, added up
pub record Linked (t d : Table) (x v door k : ℕ) : Type 0 where
  pub linkable : Linkable t x v door
  pub apart : Table
  pub count : apart.layer.count ≡ t.layer.count
  pub parted : Parted t.layer apart.layer (is_of_tree t.layer x)
  pub labels : (w : ℕ) → w < t.layer.count → apart.label w ≡ t.label w
  pub faces : (w : ℕ) → w < t.layer.count → apart.face w ≡ t.face w
  pub levels : (w : ℕ) → w < t.layer.count → first t.layer w ≢ first t.layer x → apart.level w ≡ t.level w
  pub order : List ℕ
  pub ordered : Order t x order
  -- the linked root has the label of the door, and is front
  pub joins : Joinings (target t x v) (column_with t.label x door) (column_with t.face x 0) apart d order k
  pub roots : (f : ℕ) → f < t.layer.count → first t.layer f ≢ first t.layer x → d.root f ≡ t.root f

-- the rows of the linked tree are stored under their targets, the others where they were
pub record StoredLink (t d : Table) (x v : ℕ) : Type 0 where
  pub moved : (w : ℕ) → w < t.layer.count → first t.layer w ≡ first t.layer x → parent d.layer w ≡ target t x v w
  pub rest : (w : ℕ) → w < t.layer.count → first t.layer w ≢ first t.layer x → parent d.layer w ≡ parent t.layer w

-- the plain trees of d are those of t, but that x comes under v, takes the door's label and is front
pub record PlainLink (t d : Table) (x v door : ℕ) : Type 0 where
  pub count : d.layer.count ≡ t.layer.count
  pub under : plain d x ≡ v
  pub parents : (w : ℕ) → w < t.layer.count → w ≢ x → plain d w ≡ plain t w
  pub labelled : d.label x ≡ door
  pub labels : (w : ℕ) → w < t.layer.count → w ≢ x → d.label w ≡ t.label w
  pub faced : d.face x ≡ 0
  pub faces : (w : ℕ) → w < t.layer.count → w ≢ x → d.face w ≡ t.face w
