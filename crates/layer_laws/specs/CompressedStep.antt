-- The compressed step finds the characteristic ancestors of two rows in the compressed tree (Gabow, lemma 2.1 and the ancestor tables).
use Rattle.std.specs.Prelude.{◌≡◌}
use Prim.Native.Nat.{ℕ, ◌≤◌, ◌<◌}
use Rattle.tree_laws.specs.Ancestor.{Anc}
use Rattle.tree_laws.specs.Nca.{Nca, Branch, Characteristic}
use Rattle.span.specs.Constants.{limit}
use Rattle.layer.specs.Layout.{entry_stride}
use Rattle.layer.specs.Layer.{Layer, upper}
use Rattle.layer.specs.Spans.{p, reach}
use Rattle.layer.specs.Sound.{Link}
use Rattle.layer_laws.specs.Step.{Side, step_at_entry, step_past, compressed_side, branch_of}

-- one side of the step meets rows in use only
pub record Met (t : Layer) (d i n z : ℕ) : Type 0 where
  pub entry : Link t.count (t.entry z i)
  pub at_entry : (step_at_entry t i z).row < t.count
  pub past : (step_past t d (step_at_entry t i z)).row < t.count
  pub hold : (compressed_side t d i n z).row < t.count

-- the step from x and y at distance d, of rank i: both sides end at one row, the nearest common ancestor, and know the branches
pub record Found (t : Layer) (x y d i : ℕ) : Type 0 where
  pub positive : 1 ≤ d
  pub within : d ≤ limit
  pub index : i < entry_stride
  pub met_x : Met t d i (p t y) x
  pub met_y : Met t d i (p t x) y
  pub same : (compressed_side t d i (p t y) x).row ≡ (compressed_side t d i (p t x) y).row
  pub characteristic : Characteristic (upper t) x y
      (compressed_side t d i (p t y) x).row (branch_of (compressed_side t d i (p t y) x)) (branch_of (compressed_side t d i (p t x) y))

-- a is the first compressed ancestor of x whose reach is at least n
pub record FirstReach (t : Layer) (n x a : ℕ) : Type 0 where
  pub over : Anc (upper t) a x
  pub reaches : n ≤ reach t a
  pub first : (b : ℕ) → Anc (upper t) b x → n ≤ reach t b → Anc (upper t) b a

-- a side of x stands at the first row of that reach and knows the branch towards x
pub record Stands (t : Layer) (n x : ℕ) (s : Side) : Type 0 where
  pub first : FirstReach t n x s.row
  pub branch : Branch (upper t) s.row x (branch_of s)

-- a side of x has come to the nearest common ancestor of x and y
pub record Ends (t : Layer) (x y : ℕ) (s : Side) : Type 0 where
  pub nca : Nca (upper t) x y s.row
  pub branch : Branch (upper t) s.row x (branch_of s)
