-- A column: numbers of one width, one after another.
use Rattle.std.specs.Prelude.{List, [], ◌∷◌, ◌++◌, ℕ, ◌+◌, ◌*◌, ℤ}
use Rattle.laws.specs.Tabulate.{tabulate}
use Rattle.byte_numbers.specs.Bytes.{bytes, value_at}
use Rattle.byte_numbers.specs.Sign.{signed}

-- n numbers of w bytes each, from a place on
unfoldable pub numbers_at : ℕ → ℕ → List ℕ → ℕ → List ℕ
numbers_at w n l place = tabulate (λ i. value_at w l (place + i * w)) n

-- the same of 4 bytes, with a sign
unfoldable pub levels_at : ℕ → List ℕ → ℕ → List ℤ
levels_at n l place = tabulate (λ i. signed (value_at 4 l (place + i * 4))) n

-- numbers in w bytes each
abbrev pub column_of : ℕ → List ℕ → List ℕ
column_of w [] = []
column_of w (x ∷ xs) = bytes w x ++ column_of w xs

-- the bytes of numbers, one after another
abbrev pub joined : {A : Type 0} → (A → List ℕ) → List A → List ℕ
joined f [] = []
joined f (x ∷ xs) = f x ++ joined f xs
