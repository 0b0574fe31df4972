-- `leave_size` stores the size, then looks at the heavy child.
use Rattle.renumber.specs.SizeWalk.{size_left}
use Rattle.renumber.proofs.size_walk.leave_size.Goals as goal

pub returns : goal.returns
unfolding size_left
returns c = rw (c.keep_heavy.ensures, c.put_field.ensures, c.above-size.ensures, c.field.ensures)
