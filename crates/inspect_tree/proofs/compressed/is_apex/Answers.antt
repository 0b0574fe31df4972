-- `is_apex` by whether the row has a parent.
use borrow.Author.Tests.{eq-eqb, ne_eqb}
use Rattle.tree_laws.specs.Compressed.{is_apex}
use Rattle.inspect_tree.proofs.compressed.is_apex.Goals as goal

pub returns-then-p : goal.returns-then-p
unfolding is_apex
returns-then-p c = simp (← c.field-p.ensures, eq-eqb _ _ c.if-p.true)

pub returns : goal.returns
unfolding is_apex
returns c = simp (← c.field-p.ensures, ne_eqb _ _ c.if-p.false, ← c.field.ensures)
