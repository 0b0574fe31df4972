-- One more in each size of a chain: the rows from u up get it, and nothing else changes.
use Rattle.std.specs.Prelude.{◌≡◌, ℕ, ◌<◌}
use Rattle.tree_laws.specs.Ancestor.{none}

-- u is a row whose chain is no longer than the fuel, or none
pub data Reaches (rank : ℕ → ℕ) (In : ℕ → Type 0) (fuel : ℕ) (u : ℕ) : Type 0 where
  ended : u ≡ none → Reaches rank In fuel u
  going : In u → rank u < fuel → Reaches rank In fuel u
