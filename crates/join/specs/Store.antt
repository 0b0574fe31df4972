-- The stores of a row that joins at its seat.
use Rattle.std.specs.Prelude.{ℕ}
use Rattle.renumber.specs.NumberWalk.{Written, written, Walked}
use Rattle.renumber.specs.Renumber.{renumbered}
use Rattle.join.specs.declared.seat.Seat.{Seat}
use Rattle.join.specs.Attach.{attached}

-- the leaf attached and its head renumbered, in a layer of n rows, and how many rows were given a start
unfoldable pub joined_at : Written → ℕ → Seat → Walked
joined_at w n s = renumbered (written (attached n w.fields s.leaf s.upper s.depth) w.numbers w.ancestors) s.head
