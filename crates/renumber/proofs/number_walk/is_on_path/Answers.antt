-- `is_on_path` compares the parent's path link.
use Rattle.renumber.specs.NumberWalk.{is_on_path}
use Rattle.renumber.proofs.number_walk.is_on_path.Goals as goal

pub returns : goal.returns
unfolding is_on_path
returns c = rw (c.field-2.ensures, c.field.ensures)
