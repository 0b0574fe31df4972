-- The nine lines of document 01's log, with 02's head last in T and L, as the definitions print them.
use Rattle.std.specs.Prelude.{◌≡◌, refl, List, [], ◌∷◌, ◌++◌, ℕ, pos, negsuc}
use Prim.Native.Char.{code}
use Rattle.lines.specs.Bytes.{bytes_of}
use Rattle.lines.specs.Decimal.{digits, digits_up_to}
use Rattle.lines.specs.Line.{header_line, line_of, end_line, values_of}

-- header, seven fields and end
pub printed : List ℕ
printed =
    header_line 128
    ++ line_of 1 (code "T") (pos 0 ∷ pos 0 ∷ pos 1 ∷ pos 0 ∷ [])
    ++ line_of 2 (code "L") (pos 1 ∷ pos 1 ∷ pos 2 ∷ pos 0 ∷ [])
    ++ line_of 3 (code "L") (pos 2 ∷ pos 2 ∷ pos 3 ∷ pos 0 ∷ [])
    ++ line_of 4 (code "Q") (pos 1 ∷ pos 1 ∷ pos 2 ∷ pos 0 ∷ pos 1 ∷ pos 7 ∷ [])
    ++ line_of 5 (code "R") (pos 1 ∷ [])
    ++ line_of 6 (code "T") (pos 3 ∷ negsuc 0 ∷ pos 4 ∷ pos 0 ∷ [])
    ++ line_of 7 (code "Q") (pos 3 ∷ pos 0 ∷ pos 3 ∷ pos 3 ∷ pos 0 ∷ pos 0 ∷ [])
    ++ end_line 4 10

pub worked : printed ≡ bytes_of "echo 128\n1 T 0 0 1 0\n2 L 1 1 2 0\n3 L 2 2 3 0\n4 Q 1 1 2 0 1 7\n5 R 1\n6 T 3 -1 4 0\n7 Q 3 0 3 3 0 0\nend 4 10\n"
unfolding printed header_line line_of end_line values_of digits digits_up_to
worked = refl
