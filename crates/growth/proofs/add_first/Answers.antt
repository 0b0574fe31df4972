-- `add_first` does what is planned.
use Rattle.growth.specs.Growth.{add_first}
use Rattle.growth.proofs.add_first.Goals as goal

pub returns-clause-grown : goal.returns-clause-grown
unfolding add_first
returns-clause-grown c = rw (c.plan_first-planned.ensures, c.read.ensures) at c.grow.ensures.grown
