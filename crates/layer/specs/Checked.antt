-- A checked row (refusal 4, "a row read holds", "finds no row where it seeks one"): in use and sound. The same for the rows of a layer and for those that
-- lent parts hold.
use Rattle.std.specs.Prelude.{ℕ, ◌*◌, ◌<◌, ◌≤◌, Bool, ◌&&◌, List, length, nat_lt}
use Rattle.layer.specs.declared.row.Row.{Row}
use Rattle.layer.specs.Layout.{field_stride, number_stride}
use Rattle.layer.specs.Sound.{Sound, is_sound}

-- n rows lie within the fields and the numbers
pub record Holds (n : ℕ) (f m : List ℕ) : Type 0 where
  pub fields : n * field_stride ≤ length f
  pub numbers : n * number_stride ≤ length m

-- v is one of n rows in use, and holds nothing out of range
pub record IsRow (n : ℕ) (row : ℕ → Row) (v : ℕ) : Type 0 where
  pub in_use : v < n
  pub sound : Sound n (row v)

-- the same as a test
unfoldable pub is_row : ℕ → (ℕ → Row) → ℕ → Bool
is_row n row v = nat_lt v n && is_sound n (row v)
