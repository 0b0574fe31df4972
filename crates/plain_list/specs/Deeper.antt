-- Depths after one node more, and after a whole tree comes under a node of another tree.
use Rattle.std.specs.Prelude.{◌≡◌, ◌≢◌, ℕ, ◌+◌, ◌<◌, eqb}
use Rattle.laws.specs.Test.{pick}
use Rattle.tree_laws.specs.Ancestor.{none}

-- the new node of parent v has depth k: none above it, or one below v
pub record NewDepth (depth : ℕ → ℕ) (n v k : ℕ) : Type 0 where
  pub alone : v ≡ none → k ≡ 0
  pub inside : v ≢ none → v < n
  pub below : v ≢ none → k ≡ depth v + 1

-- A tree under a node

-- the depths, where the tree of root x lies k lower
unfoldable pub depth_under : (ℕ → ℕ) → (ℕ → ℕ) → ℕ → ℕ → ℕ → ℕ
depth_under depth root x k w = pick (eqb (root w) x) (depth w + k) (depth w)
