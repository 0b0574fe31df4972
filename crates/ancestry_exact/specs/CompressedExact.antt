-- On a numbered layer the compressed step meets sound rows only, and its two sides end at the compressed nearest common ancestor.
use Rattle.std.specs.Prelude.{◌≡◌, Option, Some, ℕ}
use Rattle.tree_laws.specs.Nca.{Characteristic}
use Rattle.layer.specs.Layer.{Layer, upper}
use Rattle.ancestry.specs.declared.compressed.Side.{Side}

-- a side that stands at row a, and came from row b
abbrev pub side_at : ℕ → ℕ → Side
side_at a b = record { row = a; below = b }

-- it is found, since it met sound rows only
abbrev pub sound_side : ℕ → ℕ → Option Side
sound_side a b = Some (side_at a b)

-- the sides c of x and k of y end at their compressed nearest common ancestor and came by the branches
pub record SidesExact (t : Layer) (x y : ℕ) (c k : Option Side) : Type 0 where
  pub nca : ℕ
  pub to_x : ℕ
  pub to_y : ℕ
  pub left : c ≡ sound_side nca to_x
  pub right : k ≡ sound_side nca to_y
  pub characteristic : Characteristic (upper t) x y nca to_x to_y
