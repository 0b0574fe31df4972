-- The places of what a table keeps in `fields` beside its layer: the label, the root and the face of a row.
use Rattle.std.specs.Prelude.{ℕ}

abbrev pub label_place : ℕ
label_place = 9

-- the root that the first row of a tree records; in other rows it says nothing
abbrev pub root_place : ℕ
root_place = 10

-- the face, 0 front or 1 back
abbrev pub face_place : ℕ
face_place = 11
