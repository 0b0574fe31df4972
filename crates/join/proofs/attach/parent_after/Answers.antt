-- `parent_after`, by cases.
use Rattle.join.specs.Attach.{parent_after}
use borrow.Author.Tests.{eq-eqb, ne_eqb}
use Rattle.join.proofs.attach.parent_after.Goals as goal

pub returns-then-v-leaf : goal.returns-then-v-leaf
unfolding parent_after
returns-then-v-leaf c = let a = c.args in rw (eq-eqb a.v a.leaf.row c.if-v-leaf.true)

pub returns : goal.returns
unfolding parent_after
returns c = let a = c.args in rw (c.field.ensures, ne_eqb a.v a.leaf.row c.if-v-leaf.false)
