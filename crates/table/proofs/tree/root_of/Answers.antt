-- `root_of`, by cases.
use borrow.Author.Tests.{eq-eqb, ne_eqb}
use Rattle.table.proofs.tree.root_of.Goals as goal

pub returns-then-f-eq-NONE : goal.returns-then-f-eq-NONE
returns-then-f-eq-NONE c = rw (eq-eqb c.args.f 65535 c.if-f-eq-NONE.true)

pub returns : goal.returns
returns c = rw (ne_eqb c.args.f 65535 c.if-f-eq-NONE.false) (rw c.field.ensures at c.in_use.ensures)
