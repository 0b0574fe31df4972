-- `smaller_of` by its test.
use borrow.Author.Tests.{lt-ltb, le-ltb}
use Rattle.tally.proofs.most.smaller_of.Goals as goal

pub returns-then-b-a : goal.returns-then-b-a
returns-then-b-a c = let a = c.args in rw (lt-ltb a.b a.a c.if-b-a.true)

pub returns-else-b-a : goal.returns-else-b-a
returns-else-b-a c = let a = c.args in rw (le-ltb a.b a.a c.if-b-a.false)
