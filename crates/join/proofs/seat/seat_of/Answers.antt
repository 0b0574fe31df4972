-- `seat_of`: the parent is good, and its chain has a top.
use Rattle.join.specs.SeatLaws.{not_row, no_top, on_top}
use Rattle.std.proofs.Common.{◌∙◌, sym}
use Rattle.join.proofs.seat.seat_of.Goals as goal

pub returns-then-not-is_row : goal.returns-then-not-is_row
returns-then-not-is_row c = not_row _ _ _ _ _ _ (sym c.if-not-is_row.ensures)

pub returns-in_err-top : goal.returns-in_err-top
returns-in_err-top c =
    c.from_residual.ensures ∙
    no_top _ _ _ _ _ _ (sym c.if-not-is_row.ensures)
    (rw c.upper_for-upper.ensures at c.in_err-top.ensures)

pub returns : goal.returns
returns c =
    rw (c.one_more-depth.ensures, c.field.ensures, c.upper_for-upper.ensures) at c.seat_at.ensures ∙
    on_top _ _ _ _ _ _ _ (sym c.if-not-is_row.ensures)
    (rw c.upper_for-upper.ensures at c.in_ok-top.ensures)
