-- `first_of`, by cases.
use Rattle.join.specs.Attach.{first_of}
use Rattle.tree_laws.specs.Ancestor.{none}
use borrow.Author.Tests.{eq-eqb, ne_eqb}
use Rattle.join.proofs.attach.first_of.Goals as goal

pub returns-then-leaf-eq-NONE : goal.returns-then-leaf-eq-NONE
unfolding first_of
returns-then-leaf-eq-NONE c = rw (eq-eqb c.args.leaf.prev none c.if-leaf-eq-NONE.true)

pub returns : goal.returns
unfolding first_of
returns c = rw (c.field.ensures, ne_eqb c.args.leaf.prev none c.if-leaf-eq-NONE.false)
