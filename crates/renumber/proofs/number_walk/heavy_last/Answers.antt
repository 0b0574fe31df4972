-- `heavy_last` reads the links of the row and of its parent.
use Rattle.renumber.specs.NumberWalk.{heavy_last, sibling_or_up}
use borrow.Author.Tests.{eq-eqb, ne_eqb}
use Rattle.renumber.proofs.number_walk.heavy_last.Goals as goal

pub returns-then-down : goal.returns-then-down
unfolding heavy_last
returns-then-down c = rw (c.turn.ensures, c.light_or_last.ensures, c.field-then-down.ensures, c.field.ensures, c.if-down.true)

pub returns-then-v-heavy : goal.returns-then-v-heavy
unfolding heavy_last sibling_or_up
returns-then-v-heavy c = let t = rw (c.field-heavy.ensures, c.field-p.ensures) at (eq-eqb _ _ c.if-v-heavy.true) in rw (c.if-down.false, c.field-p.ensures, t)

pub returns : goal.returns
unfolding heavy_last sibling_or_up
returns c = let t = rw (c.field-heavy.ensures, c.field-p.ensures) at (ne_eqb _ _ c.if-v-heavy.false) in
    rw (c.turn-2.ensures, c.light_or_last-2.ensures, c.field-2.ensures, c.field-heavy.ensures, c.field-p.ensures, c.if-down.false, t)
