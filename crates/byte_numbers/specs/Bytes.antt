-- Numbers as bytes, low byte first, over any width (01: "16-bit numbers low byte first").
use Rattle.std.specs.Prelude.{List, [], ◌∷◌, ℕ, zero, suc, ◌+◌, ◌*◌, ◌/◌, ◌%◌, take, drop}

-- the number that bytes stand for
abbrev pub value : List ℕ → ℕ
value [] = 0
value (b ∷ bs) = b + 256 * value bs

-- a number in w bytes
abbrev pub bytes : ℕ → ℕ → List ℕ
bytes zero x = []
bytes (suc w) x = x % 256 ∷ bytes w (x / 256)

-- the number of w bytes at a place
abbrev pub value_at : ℕ → List ℕ → ℕ → ℕ
value_at w l place = value (take w (drop place l))
