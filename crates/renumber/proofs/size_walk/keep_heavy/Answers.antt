-- `keep_heavy` stores where the child is light.
use Rattle.renumber.specs.SizeWalk.{heavy_kept}
use Rattle.renumber.proofs.size_walk.keep_heavy.Goals as goal

pub returns-then-is_heavy : goal.returns-then-is_heavy
unfolding heavy_kept
returns-then-is_heavy c = let t = rw (c.field-2.ensures, c.field-child.ensures, c.field.ensures) at c.is_heavy.ensures in rw (← t, c.if-is_heavy.true)

pub returns : goal.returns
unfolding heavy_kept
returns c = let t = rw (c.field-2.ensures, c.field-child.ensures, c.field.ensures) at c.is_heavy.ensures in rw (c.put_field.ensures, ← t, c.if-is_heavy.false)
