-- What is looked at before any question on two nodes (01, the order of refusals 3, 1, 4; 02, refusal 12), on any parts, count, x and y.
-- What 01 and 02 leave open is decided so: the count is looked at before any row, then the tree that x and y share is sought.
use Rattle.std.specs.Prelude.{◌&&◌, Result, Err, ℕ, ltb}
use Rattle.laws.specs.Test.{pick}
use Rattle.table.specs.declared.refusal.Refusal.{Refusal}
use Rattle.table.specs.declared.refusal.Refusal.TheVariants.{UnknownNode, Misfit, Corrupt}
use Rattle.table.specs.declared.state.State.{State}
use Rattle.table.specs.Parts.{Parts}
use Rattle.table.specs.Capacity.{capacity_of, on_fit}
use Rattle.table.specs.State.{is_standing}
use Rattle.query.specs.Sought.{sought_in}

-- the root of the tree that x and y share, or the refusal
unfoldable pub asked : Parts → State → ℕ → ℕ → Result ℕ Refusal
asked a s x y =
    on_fit (capacity_of a)
    (λ c. pick (ltb x s.count && ltb y s.count)
    (pick (is_standing c s) (sought_in a.fields a.ancestors s.count x y) (Err Corrupt)) (Err UnknownNode))
    (Err Misfit)
