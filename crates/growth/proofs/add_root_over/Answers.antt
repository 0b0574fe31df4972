-- `add_root_over` does what is planned.
use Rattle.growth.specs.Growth.{add_over}
use Rattle.growth.proofs.add_root_over.Goals as goal

pub returns-clause-grown : goal.returns-clause-grown
unfolding add_over
returns-clause-grown c = rw (c.plan_over-planned.ensures, c.read.ensures) at c.grow.ensures.grown
