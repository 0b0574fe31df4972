-- In a table of count 0 nothing lags, and nothing has been renumbered.
use Rattle.std.specs.Prelude.{◌≡◌}
use Rattle.std.proofs.Common.{arith}
use Rattle.table.specs.Table.{Table}
use Rattle.join_laws.specs.Lag.{lag, Paid}

pub total_empty : (t : Table) → t.layer.count ≡ 0 → Paid t.layer 0 0
unfolding lag
total_empty t empty = rw empty (omega arith)
