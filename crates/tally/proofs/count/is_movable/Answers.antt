-- `is_movable` by both tests.
use lib.ListN.{get_or}
use mathlib.Core.Path.{sym, ◌∙◌}
use borrow.Author.Tests.{eq-eqb, ne_eqb}
use Rattle.tally.specs.Count.{is_movable}
use Rattle.tally.proofs.count.is_movable.Goals as goal

pub returns-then-cell-eq0 : goal.returns-then-cell-eq0
unfolding is_movable
returns-then-cell-eq0 c = let a = c.args in rw (eq-eqb (get_or a.tally.now a.from 0) 0 (sym c.cell.ensures ∙ c.if-cell-eq0.true))

pub returns : goal.returns
unfolding is_movable
returns c = let a = c.args in rw (ne_eqb (get_or a.tally.now a.from 0) 0 (λ e. c.if-cell-eq0.false (c.cell.ensures ∙ e))) c.has_room.ensures
