-- `enter`, by cases.
use Rattle.std.proofs.Common.{eq-eqb, ne_eqb}
use Rattle.tree_laws.specs.Ancestor.{none}
use Rattle.join.specs.CheckWalk.{entered}
use Rattle.join.proofs.check_walk.enter.Goals as goal

pub returns-then-c-eq-NONE : goal.returns-then-c-eq-NONE
unfolding entered
returns-then-c-eq-NONE c = rw (eq-eqb c.args.c none c.if-c-eq-NONE.true)

pub returns-then-readable-child : goal.returns-then-readable-child
unfolding entered
returns-then-readable-child c =
    let e = rw (c.parent_after.ensures, c.is_readable-readable.ensures) at c.if-readable-child.true in rw (ne_eqb c.args.c none c.if-c-eq-NONE.false, e)

pub returns : goal.returns
unfolding entered
returns c =
    let e = rw (c.parent_after.ensures, c.is_readable-readable.ensures) at c.if-readable-child.false in rw (ne_eqb c.args.c none c.if-c-eq-NONE.false, e)
