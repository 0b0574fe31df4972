-- `put_start` stores three numbers.
use Rattle.renumber.specs.NumberWalk.{started}
use Rattle.renumber.proofs.number_walk.put_start.Goals as goal

pub returns : goal.returns
unfolding started
returns c = rw (c.put_number-3.ensures, c.put_number-2.ensures, c.put_number.ensures, c.place.ensures, c.new-child.ensures)
