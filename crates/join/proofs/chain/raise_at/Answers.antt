-- `raise_at` stores one more than the size.
use Rattle.join.specs.Chain.{raised_at}
use Rattle.join.proofs.chain.raise_at.Goals as goal

pub returns : goal.returns
unfolding raised_at
returns c = rw (c.put_field.ensures, c.one_more-s.ensures, c.field.ensures)
