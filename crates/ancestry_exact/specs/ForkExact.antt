-- What it is for an answer to be exact, in whatever tree.
use Rattle.std.specs.Prelude.{◌≡◌, Option, Some, ℕ}
use Rattle.tree_laws.specs.Nca.{Characteristic}
use Rattle.layer.specs.Layer.{Layer, parent}
use Rattle.layer_laws.specs.Numbered.{InTree}
use Rattle.ancestry.specs.declared.stored.Fork.{Fork}

-- there is a fork, and it is the nearest common ancestor of x and y and both branches
pub record ForkExact (up : ℕ → ℕ) (x y : ℕ) (o : Option Fork) : Type 0 where
  pub fork : Fork
  pub sound : o ≡ Some fork
  pub characteristic : Characteristic up x y fork.nca fork.to_x fork.to_y

-- a stored answer that is exact for any two rows of one tree
abbrev pub StoredExact : Layer → (ℕ → ℕ → Option Fork) → Type 0
StoredExact t stored = (f x y : ℕ) → InTree t f x → InTree t f y → ForkExact (parent t) x y (stored x y)
