-- `above`: the upper row is met.
use Rattle.ancestry.proofs.compressed.above.Goals as goal

pub returns : goal.returns
returns c = rw (c.arrive.ensures, c.field_of-w.ensures)
