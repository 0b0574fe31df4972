-- A layer of numbered rows by meaning: count, rows and ancestor entries. It knows no labels, levels or roots. The rules of a numbering and the theorems
-- about it speak of this and know no layout.
use Rattle.std.specs.Prelude.{ℕ, List}
use Rattle.layer.specs.declared.row.Row.{Row}
use Rattle.layer.specs.Row.{row_of, entry_at}

-- rows below the count are in use; several trees may stand in them
pub record Layer : Type 0 where
  pub count : ℕ
  pub row : ℕ → Row
  pub entry : ℕ → ℕ → ℕ

-- the layer that fields, numbers and ancestors stand for, n of their rows in use
abbrev pub layer_of : List ℕ → List ℕ → List ℕ → ℕ → Layer
layer_of f m a n = record { count = n; row = row_of f m; entry = entry_at a }

-- the columns of a layer, as functions of the row
abbrev pub parent : Layer → ℕ → ℕ
parent t x = (t.row x).parent

abbrev pub depth : Layer → ℕ → ℕ
depth t x = (t.row x).depth

abbrev pub upper : Layer → ℕ → ℕ
upper t x = (t.row x).upper

abbrev pub path : Layer → ℕ → ℕ
path t x = (t.row x).path

abbrev pub size : Layer → ℕ → ℕ
size t x = (t.row x).size

abbrev pub set_size : Layer → ℕ → ℕ
set_size t x = (t.row x).set_size

abbrev pub start : Layer → ℕ → ℕ
start t x = (t.row x).start

abbrev pub next_free : Layer → ℕ → ℕ
next_free t x = (t.row x).next_free
