-- `arrival` reads the links of the row.
use Rattle.renumber.specs.Place.{arrival}
use Rattle.renumber.proofs.place.arrival.Goals as goal

pub returns-then-down : goal.returns-then-down
unfolding arrival
returns-then-down c = rw (c.turn.ensures, c.field.ensures, c.if-down.true)

pub returns : goal.returns
unfolding arrival
returns c = rw (c.turn-2.ensures, c.field-3.ensures, c.field-2.ensures, c.if-down.false)
