-- `check_turn`, by cases.
use Rattle.std.proofs.Common.{eq-eqb, ne_eqb}
use Rattle.join.specs.CheckWalk.{left_row, check_turn}
use Rattle.join.proofs.check_walk.check_turn.Goals as goal

pub returns-then-t : goal.returns-then-t
unfolding check_turn
returns-then-t c = rw (c.enter.ensures, c.first_after-first.ensures, c.if-t.true)

pub returns-then-v-head : goal.returns-then-v-head
unfolding check_turn left_row
returns-then-v-head c = let a = c.args in rw (c.if-t.false, eq-eqb a.t.row a.head c.if-v-head.true)

pub returns : goal.returns
unfolding check_turn left_row
returns c = let a = c.args in rw (c.enter-2.ensures, c.next_after.ensures, c.parent_after-parent.ensures, c.if-t.false, ne_eqb a.t.row a.head c.if-v-head.false)
