-- A table by meaning: a layer, with the label, the face and the level of each row, and the root that the first row of each tree records, the root of its plain tree.
use Rattle.std.specs.Prelude.{ℕ, ℤ}
use Rattle.layer.specs.Row.{field_at}
use Rattle.layer.specs.Layer.{Layer, layer_of}
use Rattle.table.specs.Layout.{label_place, root_place, face_place}
use Rattle.table.specs.Parts.{Parts, level_at}

pub record Table : Type 0 where
  pub layer : Layer
  pub label : ℕ → ℕ
  pub face : ℕ → ℕ
  pub level : ℕ → ℤ
  pub root : ℕ → ℕ

-- the table that lent parts and a count stand for
abbrev pub table_of : Parts → ℕ → Table
table_of t n = record {
  layer = layer_of t.fields t.numbers t.ancestors n;
  label = λ x. field_at t.fields x label_place;
  face = λ x. field_at t.fields x face_place;
  level = level_at t.levels;
  root = λ x. field_at t.fields x root_place;
}
