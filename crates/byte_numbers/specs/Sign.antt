-- Levels as numbers of 32 bits, in two's complement.
use Rattle.std.specs.Prelude.{List, ℕ, ◌-◌, ◌<◌, ltb, ℤ, pos, negsuc, length, get_or}
use Rattle.std.specs.Int.{w32}
use Rattle.std.proofs.Common.{SFits}
use Rattle.laws.specs.Test.{pick}

-- negsuc n is −1 − n
unfoldable pub signed : ℕ → ℤ
signed x = pick (ltb x 2147483648) (pos x) (negsuc (4294967295 - x))

unfoldable pub unsigned : ℤ → ℕ
unsigned (pos n) = n
unsigned (negsuc n) = 4294967295 - n

-- levels that fit 32 bits
abbrev pub Levels32 : List ℤ → Type 0
Levels32 l = (i : ℕ) → i < length l → SFits w32 (get_or l i (pos 0))
