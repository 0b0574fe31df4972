-- Rows of lent parts that are read with no test: what lies within the parts, and a number against a row's span.
use Rattle.std.specs.Prelude.{Bool, ◌&&◌, List, ℕ, ◌+◌, ◌*◌, ◌≤◌, leb, ltb, length}
use Rattle.span.specs.Constants.{limit}
use Rattle.span.specs.Numbers.{p_of, q_of, end_of}
use Rattle.layer.specs.declared.row.Row.{Row}
use Rattle.layer.specs.Layout.{field_stride}
use Rattle.layer.specs.Row.{field_at, row_of, Within}

-- row v lies within the fields
abbrev pub InFields : List ℕ → ℕ → Type 0
InFields f v = v * field_stride + field_stride ≤ length f

-- field k of every row
abbrev pub column_of : List ℕ → ℕ → ℕ → ℕ
column_of f k v = field_at f v k

-- row v lies within the parts, and its span within the limit
pub record Spanned (f m : List ℕ) (v : ℕ) : Type 0 where
  pub within : Within v f m
  pub end : end_of (row_of f m v).start (row_of f m v).set_size ≤ limit

-- the number n lies from p to q of a row, q excluded
unfoldable pub covers : Row → ℕ → Bool
covers r n = leb (p_of r.start r.set_size) n && ltb n (q_of r.start r.set_size)
