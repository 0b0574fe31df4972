-- `is_first`, by cases.
use Rattle.join.specs.Seat.{is_first}
use borrow.Author.Tests.{eq-eqb, ne_eqb}
use Rattle.join.proofs.seat.is_first.Goals as goal

pub returns-then-head-leaf : goal.returns-then-head-leaf
unfolding is_first
returns-then-head-leaf c = let a = c.args in rw (eq-eqb a.head a.leaf c.if-head-leaf.true)

pub returns : goal.returns
unfolding is_first
returns c = let a = c.args in rw (c.field.ensures, ne_eqb a.head a.leaf c.if-head-leaf.false)
