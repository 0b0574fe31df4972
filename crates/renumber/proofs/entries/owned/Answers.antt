-- `owned` puts x in place of none.
use borrow.Author.Tests.{eq-eqb, ne_eqb}
use Rattle.renumber.proofs.entries.owned.Goals as goal

pub returns-then-e-eq-NONE : goal.returns-then-e-eq-NONE
returns-then-e-eq-NONE c = rw (eq-eqb c.args.e 65535 c.if-e-eq-NONE.true)

pub returns : goal.returns
returns c = rw (ne_eqb c.args.e 65535 c.if-e-eq-NONE.false)
