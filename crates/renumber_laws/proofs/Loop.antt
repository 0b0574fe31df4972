-- What is proved of `Loop`.
use Rattle.std.specs.Prelude.{ℕ, zero, suc}

-- so many turns
abbrev pub turns : {Q : Type 0} → (Q → Q) → ℕ → Q → Q
turns turn zero q = q
turns turn (suc m) q = turns turn m (turn q)
