-- `is_standing` is the test of the count.
use mathlib.Core.Path.{refl}
use Rattle.table.specs.State.{is_standing}
use Rattle.table.proofs.state.is_standing.Goals as goal

pub returns : goal.returns
unfolding is_standing
returns c = refl
