-- `size_of`, by cases.
use Rattle.renumber.specs.NumberWalk.{size_of}
use Rattle.renumber.proofs.number_walk.size_of.Goals as goal

pub returns-then-on_path : goal.returns-then-on_path
unfolding size_of
returns-then-on_path c = rw c.if-on_path.true

pub returns : goal.returns
unfolding size_of
returns c = rw (c.field.ensures, c.if-on_path.false)
