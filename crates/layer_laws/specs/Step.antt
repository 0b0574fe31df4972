-- The compressed step (01, "For unequal images the compressed step takes the greatest i ..."): from each of two rows by one ancestor entry and at
-- most three rows above it to their nearest common ancestor in the compressed tree.
use Rattle.std.specs.Prelude.{Bool, ◌&&◌, ℕ, ◌+◌, ◌-◌, leb, ltb, eqb}
use Rattle.laws.specs.Test.{pick}
use Rattle.tree_laws.specs.Ancestor.{none}
use Rattle.layer.specs.Layer.{Layer, upper}
use Rattle.layer.specs.Spans.{p, q, reach}

-- how far two numbers lie apart
abbrev pub gap : ℕ → ℕ → ℕ
gap a b = (a - b) + (b - a)

-- the distance of two rows: that of their p
abbrev pub distance : Layer → ℕ → ℕ → ℕ
distance t x y = gap (p t x) (p t y)

-- row a covers the number n: p(a) ≤ n < q(a)
abbrev pub covers : Layer → ℕ → ℕ → Bool
covers t a n = leb (p t a) n && ltb n (q t a)

-- where one side of the step stands: a row, and the row just below it from which it came, or none
pub record Side : Type 0 where
  pub row : ℕ
  pub below : ℕ

-- at the row z itself
abbrev pub side_at : ℕ → Side
side_at z = record { row = z; below = none }

-- one row above a
abbrev pub side_above : Layer → ℕ → Side
side_above t a = record { row = upper t a; below = a }

-- above ancestor entry i of z, or at z where the entry is none
unfoldable pub step_at_entry : Layer → ℕ → ℕ → Side
step_at_entry t i z = pick (eqb (t.entry z i) none) (side_at z) (side_above t (t.entry z i))

-- past a row whose reach is within the distance d
unfoldable pub step_past : Layer → ℕ → Side → Side
step_past t d s = pick (leb (reach t s.row) d) (side_above t s.row) s

-- past a row that does not cover the other number n
unfoldable pub step_hold : Layer → ℕ → Side → Side
step_hold t n s = pick (covers t s.row n) s (side_above t s.row)

-- the whole step from z: d is the distance, i its rank, n the p of the other row
unfoldable pub compressed_side : Layer → ℕ → ℕ → ℕ → ℕ → Side
compressed_side t d i n z = step_hold t n (step_past t d (step_at_entry t i z))

-- the branch towards the row from which a side came
unfoldable pub branch_of : Side → ℕ
branch_of s = pick (eqb s.below none) s.row s.below
