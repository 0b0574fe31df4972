-- `greatest`: the greatest entry below k.
use mathlib.Core.Path.{◌≡◌}
use Prim.Native.Nat.{◌-◌}
use Rattle.tally.specs.Layout.{label_count}
use Rattle.tally.specs.Most.{greatest_to}
use Rattle.tally.proofs.most.greatest.Given as goal

abbrev pub invariant-loop-k : goal.invariant-loop-k
invariant-loop-k l = l.most ≡ greatest_to l.tally l.k
