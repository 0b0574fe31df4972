-- `higher`: by the depths.
use borrow.Author.Tests.{le-leb, lt-leb}
use Rattle.tree_laws.specs.StoredFromCompressed.{higher}
use Rattle.ancestry.proofs.stored.higher.Goals as goal

pub returns-then-depth_a-depth_b : goal.returns-then-depth_a-depth_b
unfolding higher
returns-then-depth_a-depth_b c = rw (← c.field_of-depth_a.ensures, ← c.field_of-depth_b.ensures, le-leb _ _ c.if-depth_a-depth_b.true)

pub returns : goal.returns
unfolding higher
returns c = rw (← c.field_of-depth_a.ensures, ← c.field_of-depth_b.ensures, lt-leb _ _ c.if-depth_a-depth_b.false)
