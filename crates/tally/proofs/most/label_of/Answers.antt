-- `label_of` by its test.
use borrow.Author.Tests.{eq-eqb, ne_eqb}
use Rattle.tally.proofs.most.label_of.Goals as goal

pub returns-then-entry-sought : goal.returns-then-entry-sought
returns-then-entry-sought c = let a = c.args in rw (eq-eqb a.entry a.sought c.if-entry-sought.true)

pub returns-else-entry-sought : goal.returns-else-entry-sought
returns-else-entry-sought c = let a = c.args in rw (ne_eqb a.entry a.sought c.if-entry-sought.false)
