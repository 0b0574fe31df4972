-- `count_labels`: the rows below x are counted.
use native.Mathlib.Omega.{arith}
use Rattle.inspect_tally.specs.Counts.{counts_most, counts_more}
use Rattle.std.proofs.Common.{rules}
use Rattle.inspect_tally.proofs.count_labels.Goals as goal

pub raise-requires : goal.raise-requires
raise-requires c = let most = counts_most c.loop-x.invariant.1 c.field.result in omega (arith, most)

pub loop-x-preserved : goal.loop-x-preserved
loop-x-preserved c = (search rules, rw (c.raise.ensures, c.field.ensures) (counts_more c.loop-x.invariant.1))
