-- `are_counts`: the entries below k were compared.
use Rattle.std.specs.Prelude.{get_or}
use Rattle.inspect_tally.specs.Counts.{compared_none, compared_more}
use Rattle.inspect_tally.proofs.are_counts.Goals as goal

pub loop-k-init : goal.loop-k-init
loop-k-init c = compared_none c.args.tally.now (λ j. get_or c.args.counts.now j 0)

pub loop-k-preserved : goal.loop-k-preserved
loop-k-preserved c = compared_more c.args.tally.now (λ j. get_or c.args.counts.now j 0) c.loop-k.k c.loop-k.invariant
