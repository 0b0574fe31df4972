-- The compressed step (01, "takes the greatest i with entry i at or below the distance of their p, then the ancestor entry i of each and at
-- most three rows above it"), on any layer. Every row that a side meets is in use and sound, or there is no side.
use Rattle.std.specs.Prelude.{Bool, ℕ, Option, Some, None, option_and_then, eqb, ltb}
use Rattle.laws.specs.Test.{pick}
use Rattle.tree_laws.specs.Ancestor.{none}
use Rattle.span.specs.Numbers.{reach_of}
use Rattle.span.specs.Rank.{rank_of}
use Rattle.layer.specs.declared.row.Row.{Row}
use Rattle.layer.specs.Layer.{Layer}
use Rattle.layer.specs.Checked.{is_row}
use Rattle.ancestry.specs.declared.compressed.Side.{Side}
use Rattle.ancestry.specs.Reading.{covers}

-- from the entry on, n rows alone are read
module _ (n : ℕ) (row : ℕ → Row) where
  -- the side at row v, which it meets from row b
  unfoldable pub arrive : ℕ → ℕ → Option Side
  arrive v b = pick (is_row n row v) (Some record { row = v; below = b }) None

  -- one row up in the compressed tree, unless the side stays
  unfoldable pub climb : Bool → Side → Option Side
  climb stay s = pick stay (Some s) (arrive (row s.row).upper s.row)

  -- the side at the entry e of z, or at z where that is none
  unfoldable pub at_entry : ℕ → ℕ → Option Side
  at_entry e z = pick (eqb e none) (Some record { row = z; below = z }) (arrive e e)

  -- the first row past the entry e of z, or z where that is none
  unfoldable pub past_entry : ℕ → ℕ → Option Side
  past_entry e z = option_and_then (climb (eqb e none)) (at_entry e z)

  -- a side whose row reaches over the distance d, or the row above it
  unfoldable pub past_reach : ℕ → Side → Option Side
  past_reach d s = climb (ltb d (reach_of (row s.row).set_size)) s

  -- a side whose row covers the number o, or the row above it
  unfoldable pub past_span : ℕ → Side → Option Side
  past_span o s = climb (covers (row s.row) o) s

  -- the step from z, whose entry is e, over the distance d to a node of number o
  unfoldable pub side_from : ℕ → ℕ → ℕ → ℕ → Option Side
  side_from e d o z = option_and_then (past_span o) (option_and_then (past_reach d) (past_entry e z))

-- the compressed nearest common ancestor as z finds it, and the branch towards z
abbrev pub compressed_side : Layer → ℕ → ℕ → ℕ → Option Side
compressed_side t d o z = side_from t.count t.row (t.entry z (rank_of d)) d o z
