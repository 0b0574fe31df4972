-- The test of the count says that it is at most the capacity.
use Rattle.std.specs.Prelude.{ℕ, ◌≤◌}
use Rattle.laws.specs.Test.{Says, says_leb}
use Rattle.table.specs.declared.state.State.{State}
use Rattle.table.specs.State.{is_standing}

pub says_standing : (capacity : ℕ) (s : State) → Says (s.count ≤ capacity) (is_standing capacity s)
unfolding is_standing
says_standing capacity s = says_leb s.count capacity
