-- `first_of`: the first label below k.
use Rattle.tally.specs.MostLaws.{first_none, first_more}
use Rattle.tally.proofs.most.first_of.Goals as goal

pub loop-k-init : goal.loop-k-init
loop-k-init c = first_none c.args.tally.now c.args.sought

pub loop-k-preserved : goal.loop-k-preserved
loop-k-preserved c = first_more c.args.tally.now c.args.sought c.loop-k.k c.loop-k.invariant c.label_of.ensures c.smaller_of-first.ensures
