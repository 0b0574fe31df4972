-- `turn` tells none from a row.
use Rattle.renumber.specs.Place.{turn}
use borrow.Author.Tests.{eq-eqb, ne_eqb}
use Rattle.renumber.proofs.place.turn.Goals as goal

pub returns-then-c-eq-NONE : goal.returns-then-c-eq-NONE
unfolding turn
returns-then-c-eq-NONE c = rw (eq-eqb c.args.c 65535 c.if-c-eq-NONE.true)

pub returns : goal.returns
unfolding turn
returns c = rw (ne_eqb c.args.c 65535 c.if-c-eq-NONE.false)
