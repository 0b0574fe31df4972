-- `higher` chooses by the test.
use mathlib.Core.Path.{sym}
use Rattle.join.proofs.chain.higher.Goals as goal

pub returns-then-is_outgrown : goal.returns-then-is_outgrown
returns-then-is_outgrown c = rw (sym c.is_outgrown.ensures, c.if-is_outgrown.true)

pub returns : goal.returns
returns c = rw (sym c.is_outgrown.ensures, c.if-is_outgrown.false)
