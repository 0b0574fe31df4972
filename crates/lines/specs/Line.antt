-- The lines that the log program prints (document 01, "Program and figures to check"): one space between the parts, a newline last.
use Rattle.std.specs.Prelude.{List, [], ◌∷◌, ◌++◌, ℕ, ℤ}
use Rattle.lines.specs.Bytes.{bytes_of}
use Rattle.lines.specs.Decimal.{digits, signed}

-- values, each with a space before it
unfoldable pub values_of : List ℤ → List ℕ
values_of [] = []
values_of (z ∷ zs) = bytes_of " " ++ signed z ++ values_of zs

-- the line of a field: its ordinal, a letter and values
unfoldable pub line_of : ℕ → ℕ → List ℤ → List ℕ
line_of ordinal letter values = digits ordinal ++ bytes_of " " ++ letter ∷ [] ++ values_of values ++ bytes_of "\n"

-- the first line, with the capacity
unfoldable pub header_line : ℕ → List ℕ
header_line capacity = bytes_of "echo " ++ digits capacity ++ bytes_of "\n"

-- the last line, with the count and the total renumbered
unfoldable pub end_line : ℕ → ℕ → List ℕ
end_line count total = bytes_of "end " ++ digits count ++ bytes_of " " ++ digits total ++ bytes_of "\n"
