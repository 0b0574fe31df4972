-- `offer` stores where x is larger.
use Rattle.renumber.specs.SizeWalk.{offered_to}
use borrow.Author.Tests.{lt-ltb, le-ltb}
use Rattle.renumber.proofs.size_walk.offer.Goals as goal

pub returns-then-largest-field : goal.returns-then-largest-field
unfolding offered_to
returns-then-largest-field c = let t = rw (c.field-2.ensures, c.field-largest.ensures, c.field.ensures, c.field-p.ensures) at (lt-ltb _ _ c.if-largest-field.true) in rw (c.put_field.ensures, c.field-p.ensures, t)

pub returns-else-largest-field : goal.returns-else-largest-field
unfolding offered_to
returns-else-largest-field c = let t = rw (c.field-2.ensures, c.field-largest.ensures, c.field.ensures, c.field-p.ensures) at (le-ltb _ _ c.if-largest-field.false) in rw t
