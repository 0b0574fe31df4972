-- `add_root` does what is planned.
use Rattle.growth.specs.Growth.{add_root}
use Rattle.growth.proofs.add_root.Goals as goal

pub returns-clause-grown : goal.returns-clause-grown
unfolding add_root
returns-clause-grown c = rw (c.plan_root-planned.ensures, c.read.ensures) at c.grow.ensures.grown
