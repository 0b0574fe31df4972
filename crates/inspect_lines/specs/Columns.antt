-- Tables of which code has some parts only: what is said of them says nothing of the parts that are left out.
use Rattle.std.specs.Prelude.{List, [], ℕ, ℤ}
use Rattle.layer.specs.Row.{field_at}
use Rattle.table.specs.Parts.{parts_of}
use Rattle.table.specs.Table.{Table, table_of}

-- a table of n rows of which the fields alone are known
abbrev pub field_table : List ℕ → ℕ → Table
field_table f n = table_of (parts_of f [] [] []) n

-- the fields and the levels
abbrev pub level_table : List ℕ → List ℤ → ℕ → Table
level_table f l n = table_of (parts_of f [] l []) n

-- the fields at a place
abbrev pub column : List ℕ → ℕ → ℕ → ℕ
column f place = λ x. field_at f x place
