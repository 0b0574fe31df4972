-- `is_next`: the path link is read.
use Rattle.ancestry.proofs.stored.is_next.Goals as goal

pub returns : goal.returns
returns c = rw c.field_of.ensures
