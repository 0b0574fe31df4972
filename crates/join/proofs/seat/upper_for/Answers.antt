-- `upper_for`, by cases.
use Rattle.join.specs.Seat.{upper_for, upper_under}
use Rattle.std.proofs.Common.{eq-eqb, ne_eqb, sym}
use Rattle.join.proofs.seat.upper_for.Goals as goal

pub returns-then-q : goal.returns-then-q
unfolding upper_for
returns-then-q c = let e = rw c.field-q.ensures at (eq-eqb _ _ c.if-q.true) in rw e

pub returns-then-not-is_row : goal.returns-then-not-is_row
unfolding upper_for upper_under
returns-then-not-is_row c = let n = rw c.field-q.ensures at (ne_eqb _ _ c.if-q.false) in
    let g = rw c.field-q.ensures at (sym c.if-not-is_row.ensures) in
    rw (n, g)

pub returns-then-field-p : goal.returns-then-field-p
unfolding upper_for upper_under
returns-then-field-p c = let n = rw c.field-q.ensures at (ne_eqb _ _ c.if-q.false) in
    let g = rw c.field-q.ensures at (sym c.if-not-is_row.ensures) in
    let e = rw (c.field.ensures, c.field-q.ensures) at (eq-eqb _ _ c.if-field-p.true) in
    rw (c.field-then-field-p.ensures, n, g, e)

pub returns : goal.returns
unfolding upper_for upper_under
returns c = let n = rw c.field-q.ensures at (ne_eqb _ _ c.if-q.false) in
    let g = rw c.field-q.ensures at (sym c.if-not-is_row.ensures) in
    let e = rw (c.field.ensures, c.field-q.ensures) at (ne_eqb _ _ c.if-field-p.false) in
    rw (n, g, e)
