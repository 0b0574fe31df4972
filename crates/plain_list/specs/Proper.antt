-- What holds of a plain list at every moment: its parents form trees, and each node has a label and a face.
use Rattle.std.specs.Prelude.{◌≡◌, ℕ, ◌≤◌, length}
use Rattle.tree_laws.specs.Depth.{Depth}
use Rattle.plain_list.specs.PlainList.{PlainList, count_of, parent_of}

-- count at most the capacity, a label and a face to each node, and a depth to each node: one more than its parent's, 0 at a root
pub record Proper (capacity : ℕ) (p : PlainList) : Type 0 where
  pub room : count_of p ≤ capacity
  pub labelled : length p.labels ≡ count_of p
  pub faced : length p.faces ≡ count_of p
  pub depth : ℕ → ℕ
  pub shape : Depth (parent_of p) depth (count_of p)
