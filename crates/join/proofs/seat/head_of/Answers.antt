-- `head_of`, by cases.
use Rattle.join.specs.Seat.{head_of}
use Rattle.tree_laws.specs.Ancestor.{none}
use borrow.Author.Tests.{eq-eqb, ne_eqb}
use Rattle.join.proofs.seat.head_of.Goals as goal

pub returns-then-top-eq-NONE : goal.returns-then-top-eq-NONE
unfolding head_of
returns-then-top-eq-NONE c = rw (eq-eqb c.args.top none c.if-top-eq-NONE.true)

pub returns : goal.returns
unfolding head_of
returns c = rw (c.old_head.ensures, ne_eqb c.args.top none c.if-top-eq-NONE.false)
