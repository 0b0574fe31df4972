-- `first_after`, by cases.
use Rattle.join.specs.Attach.{first_after}
use borrow.Author.Tests.{eq-eqb, ne_eqb}
use Rattle.join.proofs.attach.first_after.Goals as goal

pub returns-then-v-leaf : goal.returns-then-v-leaf
unfolding first_after
returns-then-v-leaf c = let a = c.args in rw (eq-eqb a.v a.leaf.row c.if-v-leaf.true)

pub returns-then-v-leaf-2 : goal.returns-then-v-leaf-2
unfolding first_after
returns-then-v-leaf-2 c = let a = c.args in rw (c.first_of.ensures, ne_eqb a.v a.leaf.row c.if-v-leaf.false, eq-eqb a.v a.leaf.parent c.if-v-leaf-2.true)

pub returns : goal.returns
unfolding first_after
returns c = let a = c.args in rw (c.field.ensures, ne_eqb a.v a.leaf.row c.if-v-leaf.false, ne_eqb a.v a.leaf.parent c.if-v-leaf-2.false)
