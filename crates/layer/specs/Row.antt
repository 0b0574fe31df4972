-- The row that the lent parts hold at a number (01, "Each row holds"). The record `Row` is the struct of the code.
use Rattle.std.specs.Prelude.{ℕ, ◌+◌, ◌*◌, ◌≤◌, List, length, slice_index}
use Rattle.span.specs.declared.Span.{Span}
use Rattle.layer.specs.declared.row.Row.{Row}
use Rattle.layer.specs.Layout.{
  parent_place,
  first_place,
  last_place,
  next_place,
  upper_place,
  path_place,
  size_place,
  set_size_place,
  depth_place,
  field_stride,
  start_place,
  next_free_place,
  number_stride,
  entry_stride,
}

-- field k of row x; past the end of a part every number is 0
abbrev pub field_at : List ℕ → ℕ → ℕ → ℕ
field_at f x k = slice_index f (x * field_stride + k)

-- number k of row x
abbrev pub number_at : List ℕ → ℕ → ℕ → ℕ
number_at m x k = slice_index m (x * number_stride + k)

-- ancestor entry i of row x
abbrev pub entry_at : List ℕ → ℕ → ℕ → ℕ
entry_at a x i = slice_index a (x * entry_stride + i)

-- the span of row x, as the parts hold it
abbrev pub span_in : List ℕ → List ℕ → ℕ → Span
span_in f m x = record { start = number_at m x start_place; set_size = field_at f x set_size_place; next_free = number_at m x next_free_place }

-- row x of the parts
abbrev pub row_of : List ℕ → List ℕ → ℕ → Row
row_of f m x = record {
  parent = field_at f x parent_place;
  first = field_at f x first_place;
  last = field_at f x last_place;
  next = field_at f x next_place;
  upper = field_at f x upper_place;
  path = field_at f x path_place;
  size = field_at f x size_place;
  set_size = field_at f x set_size_place;
  depth = field_at f x depth_place;
  start = number_at m x start_place;
  next_free = number_at m x next_free_place;
}

-- row x lies within the parts
pub record Within (x : ℕ) (f m : List ℕ) : Type 0 where
  pub fields : x * field_stride + field_stride ≤ length f
  pub numbers : x * number_stride + number_stride ≤ length m
