-- Numbers and zeros in a run of bytes (document 01, "The log").
use Rattle.std.specs.Prelude.{List, ℕ, ◌+◌, ◌*◌, get_or}
pub use Rattle.zeros.specs.Zeros.{all_zero}

-- the 16-bit number at a place, high byte first
abbrev pub number_at : List ℕ → ℕ → ℕ
number_at bytes i = 256 * get_or bytes i 0 + get_or bytes (i + 1) 0
