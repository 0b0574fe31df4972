-- `first_of`: the first label below k.
use mathlib.Core.Path.{◌≡◌}
use Prim.Native.Nat.{◌-◌}
use Rattle.tally.specs.Layout.{label_count}
use Rattle.tally.specs.Most.{first_to}
use Rattle.tally.proofs.most.first_of.Given as goal

abbrev pub invariant-loop-k : goal.invariant-loop-k
invariant-loop-k l = l.first ≡ first_to l.tally l.sought l.k
