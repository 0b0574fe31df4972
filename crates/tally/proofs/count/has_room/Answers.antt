-- `has_room` is its test.
use lib.Dec.{ltb}
use Prim.Native.Nat.{ℕ}
use mathlib.Core.Path.{ap}
use Rattle.tally.specs.Count.{has_room}
use Rattle.tally.proofs.count.has_room.Goals as goal

pub returns : goal.returns
unfolding has_room
returns c = ap (λ (n : ℕ). ltb n c.args.capacity) c.cell.ensures
