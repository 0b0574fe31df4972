-- A column of a layer as a function of the row, and a store at one row of it.
use Rattle.std.specs.Prelude.{ℕ, eqb}
use Rattle.laws.specs.Test.{pick}

-- column f with v at row x
unfoldable pub put : {A : Type 0} → (ℕ → A) → ℕ → A → ℕ → A
put f x v y = pick (eqb y x) v (f y)
