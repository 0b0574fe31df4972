-- The bytes of a text.
use Rattle.std.specs.Prelude.{List, ℕ}
use Prim.Native.Char.{code}
use Prim.Native.String.{String, [], ◌∷◌}

abbrev pub bytes_of : String → List ℕ
bytes_of [] = List.[]
bytes_of (c ∷ text) = List.◌∷◌ (code c) (bytes_of text)
