-- A node: a row whose level is in range (refusal 4, "a level outside −32,767 to 32,767"). A level is checked where a level is read.
use Rattle.std.specs.Prelude.{Bool, ◌&&◌, List, ℕ, ◌*◌, ◌≤◌, ◌<◌, ℤ, nat_abs, length}
use Rattle.layer.specs.declared.row.Row.{Row}
use Rattle.layer.specs.Layout.{entry_stride}
use Rattle.layer.specs.Checked.{Holds, IsRow, is_row}
use Rattle.table.specs.Level.{level_limit, is_level}
use Rattle.table.specs.Parts.{Parts, level_at}

-- v is one of n rows in use, holds nothing out of range, and its level is in range
pub record IsNode (n : ℕ) (rows : ℕ → Row) (levels : ℕ → ℤ) (v : ℕ) : Type 0 where
  pub row : IsRow n rows v
  pub level : nat_abs (levels v) ≤ level_limit

-- the same as a test
unfoldable pub is_node : ℕ → (ℕ → Row) → (ℕ → ℤ) → ℕ → Bool
is_node n rows levels v = is_row n rows v && is_level (levels v)

-- n rows lie within all parts
pub record Held (n : ℕ) (a : Parts) : Type 0 where
  pub rows : Holds n a.fields a.numbers
  pub levels : n ≤ length a.levels
  pub entries : n * entry_stride ≤ length a.ancestors

-- the level of row v stands in the levels, and is in range
pub record Levelled (l : List ℤ) (v : ℕ) : Type 0 where
  pub within : v < length l
  pub small : nat_abs (level_at l v) ≤ level_limit
