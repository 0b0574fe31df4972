-- `is_outgrown` reads size and set size.
use Rattle.join.specs.Chain.{outgrown_at}
use Rattle.join.proofs.chain.is_outgrown.Goals as goal

pub returns : goal.returns
unfolding outgrown_at
returns c = rw (c.outgrown.ensures, c.one_more.ensures, c.field.ensures, c.field-2.ensures)
