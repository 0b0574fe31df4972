-- `count_labels`: the rows below x are counted.
use Rattle.std.specs.Prelude.{◌≡◌, length}
use Rattle.inspect_tally.specs.Counts.{labels, Counts}
use Rattle.inspect_tally.proofs.count_labels.Given as goal

abbrev pub invariant-loop-x : goal.invariant-loop-x
invariant-loop-x l = (length l.counts ≡ length l.initial.counts) × Counts (labels l.fields) l.x l.counts
