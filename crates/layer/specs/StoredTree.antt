-- The stored trees of a layer (01, "Stored tree, paths and spans" and inspection's rule 1; 02, "Coupled rooms").
use Rattle.std.specs.Prelude.{◌≡◌, ℕ, ◌+◌, ◌<◌, ◌≢◌, List}
use Rattle.tree_laws.specs.Ancestor.{none}
use Rattle.tree_laws.specs.ChildLinks.{Chain, Member}
use Rattle.tree_laws.specs.Chains.{last_of}
use Rattle.tree_laws.specs.Top.{top_of}
use Rattle.layer.specs.Layer.{Layer, parent, depth}

-- w is a stored child of v
pub record Child (t : Layer) (v w : ℕ) : Type 0 where
  pub in_use : w < t.count
  pub parent : parent t w ≡ v

-- the child links of row x: from the first on along the next links stand its stored children, each once, and the last of them is the last;
-- the first row of a tree has no siblings. They stand in the order in which they joined, which inspection does not ask for
pub record ChildLinks (t : Layer) (x : ℕ) : Type 0 where
  pub list : List ℕ
  pub chain : Chain (λ w. (t.row w).next) (t.row x).first list
  pub over : (w : ℕ) → Member list w → Child t x w
  pub all : (w : ℕ) → Child t x w → Member list w
  pub last : (t.row x).last ≡ last_of list
  pub alone : parent t x ≡ none → (t.row x).next ≡ none

-- the depth of row x in its stored tree
pub record Depth (t : Layer) (x : ℕ) : Type 0 where
  pub first : parent t x ≡ none → depth t x ≡ 0
  pub below : parent t x ≢ none → depth t x ≡ depth t (parent t x) + 1

-- the first row of the stored tree of x
abbrev pub first : Layer → ℕ → ℕ
first t = top_of (parent t) (depth t)
