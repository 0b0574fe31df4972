-- `greatest`: the greatest entry below k.
use Rattle.tally.specs.MostLaws.{greatest_none, greatest_more}
use Rattle.tally.proofs.most.greatest.Goals as goal

pub loop-k-init : goal.loop-k-init
loop-k-init c = greatest_none c.args.tally.now

pub loop-k-preserved : goal.loop-k-preserved
loop-k-preserved c = greatest_more c.args.tally.now c.loop-k.k c.loop-k.invariant c.larger_of-most.ensures
