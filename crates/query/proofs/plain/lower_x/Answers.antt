-- `lower_x`: the definition.
use Rattle.query.specs.PlainAnswer.{lower_x}
use Rattle.query.proofs.plain.lower_x.Goals as goal

pub returns : goal.returns
unfolding lower_x
returns c = rw (c.forked.ensures, c.field.ensures)
