-- The plain list (01, "Demand 3 and the plain list"; 02, "Coupled rooms"): each node's parent, label and face. A tree's root is its node without a parent.
use Rattle.std.specs.Prelude.{Bool, true, List, [], ◌∷◌, ◌++◌, ℕ, length, get_or, set}
use Rattle.laws.specs.Test.{pick}
use Rattle.tree_laws.specs.Ancestor.{none}

-- node x has the parent, the label and the face that stand at x; none is the parent of a root, and a face is 0, front, or 1, back
pub record PlainList : Type 0 where
  pub parents : List ℕ
  pub labels : List ℕ
  pub faces : List ℕ

-- at first: no node
abbrev pub empty_list : PlainList
empty_list = record { parents = []; labels = []; faces = [] }

-- how many nodes there are so far
abbrev pub count_of : PlainList → ℕ
count_of p = length p.parents

-- the parent of node x
abbrev pub parent_of : PlainList → ℕ → ℕ
parent_of p x = get_or p.parents x none

-- the label of node x
abbrev pub label_of : PlainList → ℕ → ℕ
label_of p x = get_or p.labels x 0

-- the face of node x
abbrev pub face_of : PlainList → ℕ → ℕ
face_of p x = get_or p.faces x 0

-- with one node more, of this parent, label and face
unfoldable pub with_node : PlainList → ℕ → ℕ → ℕ → PlainList
with_node p parent label face = record { parents = p.parents ++ (parent ∷ []); labels = p.labels ++ (label ∷ []); faces = p.faces ++ (face ∷ []) }

-- a first node: a tree by itself, of label 0, front
abbrev pub with_first : PlainList → PlainList
with_first p = with_node p none 0 0

-- a new leaf of this parent, label and face
abbrev pub with_leaf : PlainList → ℕ → ℕ → ℕ → PlainList
with_leaf p parent label face = with_node p parent label face

-- node x under node v; where an opening is named, x has its label and is front (02: "tag 1 means front, as do sources, openings and doors")
abbrev pub under : PlainList → ℕ → ℕ → Bool → ℕ → PlainList
under p x v named opening = record {
  parents = set p.parents x v;
  labels = pick named (set p.labels x opening) p.labels;
  faces = pick named (set p.faces x 0) p.faces;
}

-- a new root (the paper's "top") over the root r, which comes under it (02: "A top shall name the opening, which becomes the old source's panel; the new source
-- has 0"); where none is named, r keeps its label and face
abbrev pub with_root : PlainList → ℕ → Bool → ℕ → PlainList
with_root p r named opening = with_node (under p r (count_of p) named opening) none 0 0

-- the tree of root x under node v, seen through a door (the paper's word) as an old root is through an opening: x has its label and is front
unfoldable pub with_link : PlainList → ℕ → ℕ → ℕ → PlainList
with_link p x v door = under p x v true door
