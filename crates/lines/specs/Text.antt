-- A line in a buffer of 96 bytes, and how it is written byte by byte.
use Rattle.std.specs.Prelude.{List, [], ◌∷◌, ◌++◌, ℕ, ◌+◌, ◌-◌, ltb, length, set, replicate}
use Rattle.laws.specs.Test.{pick}
use Rattle.lines.specs.declared.Text.{Text}

-- the text of a line: its bytes, zeros after them, and how many they are
unfoldable pub text_of : List ℕ → Text
text_of line = record { bytes = line ++ replicate (96 - length line) 0; len = length line }

-- a text with one byte more, where there is room
unfoldable pub push : Text → ℕ → Text
push t b = pick (ltb t.len 96) (record { bytes = set t.bytes t.len b; len = t.len + 1 }) t

-- a text with bytes more, one after another
unfoldable pub append : Text → List ℕ → Text
append t [] = t
append t (b ∷ bytes) = append (push t b) bytes
