-- A part with one number of a row replaced; past the end of a part nothing is stored.
use Rattle.std.specs.Prelude.{ℕ, ◌+◌, ◌*◌, List, slice_set}
use Rattle.layer.specs.Layout.{field_stride, number_stride}

-- field k of row x becomes v
abbrev pub with_field : List ℕ → ℕ → ℕ → ℕ → List ℕ
with_field f x k v = slice_set f (x * field_stride + k) v

-- number k of row x becomes v
abbrev pub with_number : List ℕ → ℕ → ℕ → ℕ → List ℕ
with_number m x k v = slice_set m (x * number_stride + k) v
