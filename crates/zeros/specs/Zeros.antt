-- Zeros in a run of bytes.
use Rattle.std.specs.Prelude.{List, [], ◌∷◌, Bool, true, ◌&&◌, ℕ, take, drop, eqb}

-- every byte is zero
abbrev pub all_zero : List ℕ → Bool
all_zero [] = true
all_zero (b ∷ bytes) = eqb b 0 && all_zero bytes

-- the w bytes at a place are zero
abbrev pub zeros_at : ℕ → List ℕ → ℕ → Bool
zeros_at w bytes place = all_zero (take w (drop place bytes))
