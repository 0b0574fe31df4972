-- `in_use`, by cases.
use borrow.Author.Tests.{lt-ltb, le-ltb}
use Rattle.table.proofs.tree.in_use.Goals as goal

pub returns-then-y-count : goal.returns-then-y-count
returns-then-y-count c = rw (lt-ltb c.args.y c.args.count c.if-y-count.true)

pub returns-else-y-count : goal.returns-else-y-count
returns-else-y-count c = rw (le-ltb c.args.y c.args.count c.if-y-count.false)
