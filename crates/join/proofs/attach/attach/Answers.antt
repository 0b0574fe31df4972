-- `attach` writes the row, links it and raises its chain.
use Rattle.join.specs.Attach.{attached}
use Rattle.join.proofs.attach.attach.Goals as goal

pub returns : goal.returns
unfolding attached
returns c = rw (c.raise.ensures, c.link.ensures, c.put_values.ensures, c.put_links.ensures)
