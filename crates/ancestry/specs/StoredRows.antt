-- The rows that a stored answer draws on beside those of x and y, on any layer: ten, and so many decide it.
use Rattle.std.specs.Prelude.{◌≡◌, List, [], ◌∷◌, ◌++◌, ℕ, ◌<◌, option_and_then}
use Rattle.span.specs.Rank.{rank_of}
use Rattle.layer.specs.Layout.{entry_stride}
use Rattle.layer.specs.Layer.{Layer, parent, upper}
use Rattle.layer.specs.Spans.{p}
use Rattle.ancestry.specs.CompressedStep.{at_entry, past_entry, past_reach, side_from}
use Rattle.ancestry.specs.StoredAnswer.{between}
use Rattle.ancestry.specs.Agreement.{row_of_side, below_of_side}

-- the layers agree in row v
pub record Agree (t u : Layer) (v : ℕ) : Type 0 where
  pub row : t.row v ≡ u.row v
  pub entry : (i : ℕ) → i < entry_stride → t.entry v i ≡ u.entry v i

-- the rows that one side may meet: the entry's, one above each row that it comes to, and the parent of the branch
abbrev pub side_rows : Layer → ℕ → ℕ → ℕ → ℕ → List ℕ
side_rows t e d o z =
    e ∷ upper t (row_of_side (at_entry t.count t.row e z)) ∷ upper t (row_of_side (past_entry t.count t.row e z))
    ∷ upper t (row_of_side (option_and_then (past_reach t.count t.row d) (past_entry t.count t.row e z)))
    ∷ parent t (below_of_side (side_from t.count t.row e d o z)) ∷ []

-- the rows of both sides, whose numbers are d apart
abbrev pub sides_rows : Layer → ℕ → ℕ → ℕ → List ℕ
sides_rows t d x y = side_rows t (t.entry x (rank_of d)) d (p t y) x ++ side_rows t (t.entry y (rank_of d)) d (p t x) y

abbrev pub stored_rows : Layer → ℕ → ℕ → List ℕ
stored_rows t x y = sides_rows t (between (p t x) (p t y)) x y
