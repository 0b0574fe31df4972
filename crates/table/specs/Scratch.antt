-- The scratch that a growth is lent (02, "Less scratch": "Growth shall take a scratch of 32 numbers at any capacity; only a shorter one is misfit").
use Rattle.std.specs.Prelude.{Bool, ℕ, leb}

abbrev pub least_scratch : ℕ
least_scratch = 32

-- a scratch of so many numbers fits
abbrev pub fits_growth : ℕ → Bool
fits_growth scratch = leb least_scratch scratch
