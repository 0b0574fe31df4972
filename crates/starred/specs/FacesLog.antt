-- A log of both faces (02, "Both faces of a baffle"), docs/samples/faces.log, prints the lines beside it: all of it is evaluated.
use Rattle.std.specs.Prelude.{List, [], ◌∷◌, ℕ}
use Rattle.lines.specs.Bytes.{bytes_of}

-- a root; leaf 0 7, front by tag 1; leaf 0 7 back and front by tag 5; alike 1 2, which differ in the face alone; alike 1 3; leaf 2 9 and leaf 3 9, both back, and
-- alike 4 5, which differ in the face above; a root through opening 12; leaf 6 12 back and front; alike 0 7; alike 0 8: the old root is front; question 4 5; a
-- face 2; a field of tag 5 of four bytes
abbrev pub faces_bytes : List ℕ
faces_bytes =
    2 ∷ 0 ∷ 0
    ∷ 1 ∷ 0 ∷ 4 ∷ 0 ∷ 0 ∷ 0 ∷ 7
    ∷ 5 ∷ 0 ∷ 5 ∷ 0 ∷ 0 ∷ 0 ∷ 7 ∷ 1
    ∷ 5 ∷ 0 ∷ 5 ∷ 0 ∷ 0 ∷ 0 ∷ 7 ∷ 0
    ∷ 4 ∷ 0 ∷ 4 ∷ 0 ∷ 1 ∷ 0 ∷ 2
    ∷ 4 ∷ 0 ∷ 4 ∷ 0 ∷ 1 ∷ 0 ∷ 3
    ∷ 5 ∷ 0 ∷ 5 ∷ 0 ∷ 2 ∷ 0 ∷ 9 ∷ 1
    ∷ 5 ∷ 0 ∷ 5 ∷ 0 ∷ 3 ∷ 0 ∷ 9 ∷ 1
    ∷ 4 ∷ 0 ∷ 4 ∷ 0 ∷ 4 ∷ 0 ∷ 5
    ∷ 2 ∷ 0 ∷ 2 ∷ 0 ∷ 12
    ∷ 5 ∷ 0 ∷ 5 ∷ 0 ∷ 6 ∷ 0 ∷ 12 ∷ 1
    ∷ 1 ∷ 0 ∷ 4 ∷ 0 ∷ 6 ∷ 0 ∷ 12
    ∷ 4 ∷ 0 ∷ 4 ∷ 0 ∷ 0 ∷ 0 ∷ 7
    ∷ 4 ∷ 0 ∷ 4 ∷ 0 ∷ 0 ∷ 0 ∷ 8
    ∷ 3 ∷ 0 ∷ 4 ∷ 0 ∷ 4 ∷ 0 ∷ 5
    ∷ 5 ∷ 0 ∷ 5 ∷ 0 ∷ 0 ∷ 0 ∷ 7 ∷ 2
    ∷ 5 ∷ 0 ∷ 4 ∷ 0 ∷ 0 ∷ 0 ∷ 7
    ∷ []

abbrev pub faces_lines : List ℕ
faces_lines = bytes_of "echo 128\n1 T 0 0 1 0\n2 L 1 1 2 0\n3 L 2 1 3 0\n4 L 3 1 4 0\n5 A 0\n6 A 1\n7 L 4 2 5 0\n8 L 5 2 6 0\n9 A 0\n10 T 6 -1 1 6\n11 L 7 0 8 0\n12 L 8 0 3 6\n13 A 0\n14 A 1\n15 Q 0 2 3 2 2 12\n16 R 13\n17 R 7\nend 9 33\n"
