-- The count (01, refusal 4: "count above capacity"). Roots stand in the rows: each tree's own, at its first row.
use Rattle.std.specs.Prelude.{Bool, ℕ, leb}
use Rattle.table.specs.declared.state.State.{State}

-- the count is one that a table of this capacity may have
unfoldable pub is_standing : ℕ → State → Bool
is_standing capacity s = leb s.count capacity
