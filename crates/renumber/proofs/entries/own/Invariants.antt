-- `own`: after so many turns the entries so far are as they should be.
use Rattle.std.specs.Prelude.{◌≡◌, length, take}
use Rattle.renumber.specs.Entries.{owned}
use Rattle.renumber.proofs.entries.own.Given as goal

abbrev pub invariant-loop-i : goal.invariant-loop-i
invariant-loop-i l = (length l.row ≡ length l.above) × (take l.i l.row ≡ take l.i (owned l.x l.above))
