-- `upper_of`, by cases.
use Rattle.renumber.specs.NumberWalk.{upper_of}
use Rattle.renumber.proofs.number_walk.upper_of.Goals as goal

pub returns-then-t : goal.returns-then-t
unfolding upper_of
returns-then-t c = rw c.if-t.true

pub returns : goal.returns
unfolding upper_of
returns c = rw (c.field.ensures, c.if-t.false)
