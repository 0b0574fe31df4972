-- `old_head` reads the upper row and the size.
use Rattle.join.specs.Seat.{old_head}
use Rattle.join.proofs.seat.old_head.Goals as goal

pub returns : goal.returns
unfolding old_head
returns c = rw (c.one_more.ensures, c.field-2.ensures, c.field.ensures)
