-- The walk before the first store meets the rows below the head, each from its parent, and comes back up to the head.
use Rattle.std.specs.Prelude.{◌≡◌, List}
use Prim.Native.Nat.{ℕ, ◌<◌}
use Rattle.layer.specs.Layer.{Layer}
use Rattle.join.specs.declared.attach.Leaf.{Leaf}
use Rattle.join.specs.Attach.{first_after, next_after, parent_after}

-- the links as they will stand, of the rows below a count, are those of a layer
pub record Standing (m : Layer) (f : List ℕ) (leaf : Leaf) : Type 0 where
  pub first : (y : ℕ) → y < m.count → first_after f leaf y ≡ (m.row y).first
  pub next : (y : ℕ) → y < m.count → next_after f leaf y ≡ (m.row y).next
  pub parent : (y : ℕ) → y < m.count → parent_after f leaf y ≡ (m.row y).parent
