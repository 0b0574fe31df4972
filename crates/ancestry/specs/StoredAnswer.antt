-- The stored answer for two rows (01, "So a question takes three stored answers": how many are asked for is the question's matter), from the compressed
-- step on both sides, on any layer.
use Rattle.std.specs.Prelude.{Bool, ◌||◌, ◌&&◌, ℕ, ◌-◌, Option, Some, None, option_and_then, eqb, leb}
use Rattle.laws.specs.Test.{pick}
use Rattle.tree_laws.specs.Ancestor.{none}
use Rattle.tree_laws.specs.StoredFromCompressed.{path_row, higher, branch_at}
use Rattle.layer.specs.declared.row.Row.{Row}
use Rattle.layer.specs.Layer.{Layer}
use Rattle.layer.specs.Spans.{p}
use Rattle.layer.specs.Checked.{IsRow, is_row}
use Rattle.ancestry.specs.declared.compressed.Side.{Side}
use Rattle.ancestry.specs.declared.stored.Fork.{Fork}
use Rattle.ancestry.specs.CompressedStep.{compressed_side}

-- an answer whose branches must be rows (refusal 4, "finds no row where it seeks one")
unfoldable pub forked : ℕ → ℕ → ℕ → Option Fork
forked a u v = pick (eqb u none || eqb v none) None (Some record { nca = a; to_x = u; to_y = v })

-- a node with itself
abbrev pub alone : ℕ → Fork
alone x = record { nca = x; to_x = x; to_y = x }

-- three columns of the rows tell where the sides c and k meet
module _ (parent path depth : ℕ → ℕ) where
  -- the lowest row of the side's path at or above its branch
  abbrev pub path_row_of : Side → ℕ
  path_row_of s = path_row parent path s.row s.below

  -- where the paths of both sides meet
  unfoldable pub meeting : Side → Side → ℕ
  meeting c k = higher depth (path_row_of c) (path_row_of k)

  -- the branch from there towards a side
  unfoldable pub branch_of : Side → Side → Side → ℕ
  branch_of c k s = branch_at path (meeting c k) (path_row_of s) s.below

  -- the answer there
  abbrev pub met : Side → Side → Option Fork
  met c k = forked (meeting c k) (branch_of c k c) (branch_of c k k)

-- x and y are rows in use and sound
pub record Asked (n : ℕ) (row : ℕ → Row) (x y : ℕ) : Type 0 where
  pub left : IsRow n row x
  pub right : IsRow n row y

-- those columns of rows
abbrev pub parents : (ℕ → Row) → ℕ → ℕ
parents row v = (row v).parent

abbrev pub paths : (ℕ → Row) → ℕ → ℕ
paths row v = (row v).path

abbrev pub depths : (ℕ → Row) → ℕ → ℕ
depths row v = (row v).depth

module _ (n : ℕ) (row : ℕ → Row) where
  -- the row that a side's path row is read off, the branch's parent, is in use and sound
  unfoldable pub is_on_row : Side → Bool
  is_on_row s = eqb s.below s.row || is_row n row (row s.below).parent

  -- the stored answer from the sides c and k
  unfoldable pub join : Side → Side → Option Fork
  join c k = pick (is_on_row c && is_on_row k) (met (parents row) (paths row) (depths row) c k) None

  -- the same where both sides are found
  abbrev pub joined : Option Side → Option Side → Option Fork
  joined c k = option_and_then (λ s. option_and_then (join s) k) c

-- how far two numbers are apart
unfoldable pub between : ℕ → ℕ → ℕ
between a b = pick (leb a b) (b - a) (a - b)

-- the stored answer for x and y by their numbers; equal numbers of unequal nodes give none (refusal 4, "a question meets equal p for unequal images")
unfoldable pub stored_from : Layer → ℕ → ℕ → ℕ → ℕ → Option Fork
stored_from t m n x y =
    pick (eqb x y) (Some (alone x))
    (pick (eqb m n) None (joined t.count t.row (compressed_side t (between m n) n x) (compressed_side t (between m n) m y)))

abbrev pub stored_answer : Layer → ℕ → ℕ → Option Fork
stored_answer t x y = stored_from t (p t x) (p t y) x y
