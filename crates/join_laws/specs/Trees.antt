-- The two trees of a layer: the stored tree, and the compressed one that paths, compressed parents and sizes record over it.
use Rattle.std.specs.Prelude.{◌≡◌, ◌≢◌, ℕ, ◌<◌}
use Rattle.tree_laws.specs.Ancestor.{none}
use Rattle.tree_laws.specs.Depth.{Depth}
use Rattle.tree_laws.specs.Size.{size as size_in}
use Rattle.tree_laws.specs.Compressed.{Compressed}
use Rattle.layer.specs.Layer.{Layer, parent, depth, upper, path, size}

-- layer c holds paths, compressed parents and sizes that are true of the stored tree on the rows below n
pub record Trees (parent depth : ℕ → ℕ) (n : ℕ) (c : Layer) : Type 0 where
  pub shape : Depth parent depth n
  pub in_use : (v : ℕ) → v < n → path c v ≢ none → path c v < n
  pub link : (v : ℕ) → v < n → path c v ≢ none → parent (path c v) ≡ v
  pub compressed : Compressed parent (path c) (upper c) n
  pub sizes : (v : ℕ) → v < n → size c v ≡ size_in (upper c) depth n v

-- a layer over its own stored tree
abbrev pub OwnTrees : Layer → Type 0
OwnTrees c = Trees (parent c) (depth c) c.count c
