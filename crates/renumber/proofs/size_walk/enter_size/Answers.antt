-- `enter_size` stores twice.
use Rattle.renumber.specs.SizeWalk.{size_entered}
use Rattle.renumber.proofs.size_walk.enter_size.Goals as goal

pub returns : goal.returns
unfolding size_entered
returns c = rw (c.put_field-2.ensures, c.put_field.ensures)
