-- `fill` by its two calls.
use Rattle.renumber.proofs.entries.fill.Goals as goal

pub returns : goal.returns
returns c = rw (c.copy.ensures, c.own.ensures)
