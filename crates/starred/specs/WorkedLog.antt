-- 01's log prints 01's nine lines, T and L with the head last (02), and an empty log header and end: all of it is evaluated.
use Rattle.std.specs.Prelude.{List, [], ◌∷◌, ℕ}
use Rattle.tree_laws.specs.Ancestor.{none}
use Rattle.lines.specs.Bytes.{bytes_of}
use Rattle.transcript_exact.specs.Listing.{Renumbering}

-- a root, leaf 0 7, leaf 1 9, question 1 2, leaf 5 7, a root, question 2 3
abbrev pub worked_bytes : List ℕ
worked_bytes =
    2 ∷ 0 ∷ 0
    ∷ 1 ∷ 0 ∷ 4 ∷ 0 ∷ 0 ∷ 0 ∷ 7
    ∷ 1 ∷ 0 ∷ 4 ∷ 0 ∷ 1 ∷ 0 ∷ 9
    ∷ 3 ∷ 0 ∷ 4 ∷ 0 ∷ 1 ∷ 0 ∷ 2
    ∷ 1 ∷ 0 ∷ 4 ∷ 0 ∷ 5 ∷ 0 ∷ 7
    ∷ 2 ∷ 0 ∷ 0
    ∷ 3 ∷ 0 ∷ 4 ∷ 0 ∷ 2 ∷ 0 ∷ 3
    ∷ []

abbrev pub nine_lines : List ℕ
nine_lines = bytes_of "echo 128\n1 T 0 0 1 0\n2 L 1 1 2 0\n3 L 2 2 3 0\n4 Q 1 1 2 0 1 7\n5 R 1\n6 T 3 -1 4 0\n7 Q 3 0 3 3 0 0\nend 4 10\n"

abbrev pub headed_by0 : ℕ → Renumbering
headed_by0 k = record { rows = k; head = 0 }

abbrev pub still : Renumbering
still = record { rows = 0; head = none }
