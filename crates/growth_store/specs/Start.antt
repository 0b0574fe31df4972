-- The stores of a first node: a row that stands alone, of label 0, front and level 0, its own root.
use Rattle.std.specs.Prelude.{List, ℕ}
use Rattle.table.specs.Layout.{label_place, face_place, root_place}
use Rattle.layer.specs.Write.{with_field}
use Rattle.join.specs.Lone.{lone_fields}

-- the fields with it in row n
unfoldable pub started_fields : List ℕ → ℕ → List ℕ
started_fields f n = with_field (with_field (with_field (lone_fields f n) n label_place 0) n face_place 0) n root_place n
