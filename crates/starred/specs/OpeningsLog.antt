-- A log whose new roots name openings (02, "A top is seen through an opening"), docs/samples/openings.log, prints the lines beside it: all of it is evaluated.
use Rattle.std.specs.Prelude.{List, [], ◌∷◌, ℕ}
use Rattle.lines.specs.Bytes.{bytes_of}

-- a root; leaf 0 7; leaf 1 9; a root through opening 12; leaf 3 12, which is alike with the old root 0; alike 0 4; question 2 4; question 0 2, whose nearest
-- common ancestor is the old root; a root through 10,000, which is no label; a root field of one byte
abbrev pub openings_bytes : List ℕ
openings_bytes =
    2 ∷ 0 ∷ 0
    ∷ 1 ∷ 0 ∷ 4 ∷ 0 ∷ 0 ∷ 0 ∷ 7
    ∷ 1 ∷ 0 ∷ 4 ∷ 0 ∷ 1 ∷ 0 ∷ 9
    ∷ 2 ∷ 0 ∷ 2 ∷ 0 ∷ 12
    ∷ 1 ∷ 0 ∷ 4 ∷ 0 ∷ 3 ∷ 0 ∷ 12
    ∷ 4 ∷ 0 ∷ 4 ∷ 0 ∷ 0 ∷ 0 ∷ 4
    ∷ 3 ∷ 0 ∷ 4 ∷ 0 ∷ 2 ∷ 0 ∷ 4
    ∷ 3 ∷ 0 ∷ 4 ∷ 0 ∷ 0 ∷ 0 ∷ 2
    ∷ 2 ∷ 0 ∷ 2 ∷ 39 ∷ 16
    ∷ 2 ∷ 0 ∷ 1 ∷ 12
    ∷ []

abbrev pub openings_lines : List ℕ
openings_lines = bytes_of "echo 128\n1 T 0 0 1 0\n2 L 1 1 2 0\n3 L 2 2 3 0\n4 T 3 -1 4 0\n5 L 4 0 5 0\n6 A 1\n7 Q 3 0 4 3 1 0\n8 Q 0 0 1 0 2 12\n9 R 5\n10 R 7\nend 5 15\n"
