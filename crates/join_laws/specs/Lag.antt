-- What joining costs (01, demand on the total; 02, "counts joinings in a tree"): how far set sizes lag behind sizes pays for rows renumbered later.
use Rattle.std.specs.Prelude.{ℕ, ◌+◌, ◌-◌, ◌*◌, ◌≤◌}
use Rattle.laws.specs.Sum.{sum_to}
use Rattle.layer.specs.Layer.{Layer, size, set_size}

-- how far the set sizes of all rows lag behind their sizes
unfoldable pub lag : Layer → ℕ
lag t = sum_to (λ x. size t x - set_size t x) t.count

-- a row of lag is worth six renumbered rows
abbrev pub worth : ℕ
worth = 6

-- at most so many rows are renumbered for each joining of a row to a tree
abbrev pub per_join : ℕ
per_join = 120

-- the rows renumbered so far and those that the lag will pay for are within the bound of so many joinings
abbrev pub Paid : Layer → ℕ → ℕ → Type 0
Paid t total joinings = total + worth * lag t ≤ per_join * joinings
