-- `is_whole`, by cases.
use Rattle.join.specs.Seat.{is_whole}
use Rattle.std.proofs.Common.{eq-eqb, ne_eqb}
use Rattle.join.proofs.seat.is_whole.Goals as goal

pub returns-then-head-leaf : goal.returns-then-head-leaf
unfolding is_whole
returns-then-head-leaf c = let a = c.args in rw (eq-eqb a.head.row a.leaf.row c.if-head-leaf.true)

pub returns : goal.returns
unfolding is_whole
returns c = let a = c.args in rw (c.check_walk.ensures, c.steps_of.ensures, ne_eqb a.head.row a.leaf.row c.if-head-leaf.false)
