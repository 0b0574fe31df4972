-- `lower_y`: the definition.
use Rattle.query.specs.PlainAnswer.{lower_y}
use Rattle.query.proofs.plain.lower_y.Goals as goal

pub returns : goal.returns
unfolding lower_y
returns c = rw (c.forked.ensures, c.field.ensures)
