-- `forked`: the definition, by its two tests.
use Rattle.ancestry.specs.StoredAnswer.{forked}
use Rattle.ancestry.proofs.stored.forked.Goals as goal

pub returns-then-to_x-to_y : goal.returns-then-to_x-to_y
unfolding forked
returns-then-to_x-to_y c = rw c.if-to_x-to_y.true

pub returns : goal.returns
unfolding forked
returns c = rw c.if-to_x-to_y.false
