-- `branch_at`: by whether the path row is the meeting.
use borrow.Author.Tests.{eq-eqb, ne_eqb}
use Rattle.tree_laws.specs.StoredFromCompressed.{branch_at}
use Rattle.ancestry.proofs.stored.branch_at.Goals as goal

pub returns-then-a-b : goal.returns-then-a-b
unfolding branch_at
returns-then-a-b c = let a = c.args in rw (eq-eqb a.a a.b c.if-a-b.true)

pub returns : goal.returns
unfolding branch_at
returns c = let a = c.args in rw (ne_eqb a.a a.b c.if-a-b.false) c.field_of.ensures
