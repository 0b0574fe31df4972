-- Numbers as they are printed (document 01, "Program and figures to check"): decimal digits as bytes, the most significant first.
use Rattle.std.specs.Prelude.{List, [], ◌∷◌, ◌++◌, ℕ, zero, suc, ◌+◌, ◌-◌, ◌*◌, ◌/◌, ◌%◌, ltb, eqb, ℤ, pos, negsuc, neg_ℤ, get_or, drop}
use Prim.Native.Char.{code}
use Rattle.laws.specs.Test.{pick}
use Rattle.lines.specs.Bytes.{bytes_of}

-- the byte of a digit, which for 0 is 48
abbrev pub digit : ℕ → ℕ
digit n = 48 + n

-- the digits of n, where n needs at most `most` of them: those of its tenth, and its last
unfoldable pub digits_up_to : ℕ → ℕ → List ℕ
digits_up_to zero n = []
digits_up_to (suc most) n = let more = digits_up_to most (n / 10) ++ digit (n % 10) ∷ [] in pick (ltb n 10) (digit n ∷ []) more

-- the digits of a number: no zero leads, and zero is one digit
unfoldable pub digits : ℕ → List ℕ
digits n = digits_up_to (suc n) n

-- a whole number, with a minus sign where it is below zero
abbrev pub signed : ℤ → List ℕ
signed (pos n) = digits n
signed (negsuc n) = bytes_of "-" ++ digits (suc n)

-- ---- reading back

-- the number that digits spell, after those of `n`
abbrev pub read_on : ℕ → List ℕ → ℕ
read_on n [] = n
read_on n (b ∷ bytes) = read_on (n * 10 + (b - 48)) bytes

-- the number that digits spell
abbrev pub value_of : List ℕ → ℕ
value_of bytes = read_on 0 bytes

-- the whole number that digits spell, with or without a minus sign
unfoldable pub signed_value_of : List ℕ → ℤ
signed_value_of bytes = pick (eqb (get_or bytes 0 0) (code "-")) (neg_ℤ (pos (value_of (drop 1 bytes)))) (pos (value_of bytes))
