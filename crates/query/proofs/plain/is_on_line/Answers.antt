-- `is_on_line`: the row is the other one, or its level decides.
use borrow.Author.Tests.{eq-eqb, ne_eqb}
use Rattle.query.proofs.plain.is_on_line.Goals as goal

pub returns-then-z-v : goal.returns-then-z-v
returns-then-z-v c = let a = c.args in rw (eq-eqb a.z a.v c.if-z-v.true)

pub returns : goal.returns
returns c = let a = c.args in rw (ne_eqb a.z a.v c.if-z-v.false) c.is_line_level.ensures
