-- `span_of`: the three numbers are read.
use Rattle.ancestry.proofs.row.span_of.Goals as goal

pub returns : goal.returns
returns c = rw (c.number_of-start.ensures, c.field_of-set_size.ensures, c.number_of-next_free.ensures)
