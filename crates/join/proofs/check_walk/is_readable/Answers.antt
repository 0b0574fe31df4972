-- `is_readable`, by cases.
use Rattle.join.specs.CheckWalk.{is_readable}
use Rattle.std.proofs.Common.{eq-eqb, ne_eqb}
use Rattle.join.proofs.check_walk.is_readable.Goals as goal

pub returns-then-c-leaf : goal.returns-then-c-leaf
unfolding is_readable
returns-then-c-leaf c = let a = c.args in rw (eq-eqb a.c a.leaf.row c.if-c-leaf.true)

pub returns : goal.returns
unfolding is_readable
returns c = let a = c.args in rw (c.is_row.ensures, ne_eqb a.c a.leaf.row c.if-c-leaf.false)
