-- `put_sizes` stores three fields.
use Rattle.renumber.specs.NumberWalk.{placed_row}
use Rattle.renumber.proofs.number_walk.put_sizes.Goals as goal

pub returns : goal.returns
unfolding placed_row
returns c = rw (c.put_field-3.ensures, c.put_field-2.ensures, c.put_field.ensures)
