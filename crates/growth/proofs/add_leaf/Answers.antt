-- `add_leaf` does what is planned.
use Rattle.growth.specs.Growth.{add_leaf}
use Rattle.growth.proofs.add_leaf.Goals as goal

pub returns-clause-grown : goal.returns-clause-grown
unfolding add_leaf
returns-clause-grown c = rw (c.plan_leaf-planned.ensures, c.read.ensures) at c.grow.ensures.grown
