-- `seat_at`: the head is seated, the walk below it is whole, and the entries that it copies are links.
use Rattle.join.specs.SeatLaws.{not_seated, not_whole, not_links, seated}
use Rattle.std.proofs.Common.{sym}
use Rattle.join.proofs.seat.seat_at.Goals as goal

pub returns-then-not-is_seated : goal.returns-then-not-is_seated
returns-then-not-is_seated c =
    not_seated _ _ _ _ _ _ _ _ _ (rw c.head_of-head.ensures at (sym c.if-not-is_seated.ensures))

pub returns-then-not-is_whole : goal.returns-then-not-is_whole
returns-then-not-is_whole c =
    not_whole _ _ _ _ _ _ _ _ _
    (rw c.head_of-head.ensures at (sym c.if-not-is_seated.ensures))
    (rw (c.field.ensures, c.head_of-head.ensures) at (sym c.if-not-is_whole.ensures))

pub returns-then-not-copies_links : goal.returns-then-not-copies_links
returns-then-not-copies_links c =
    not_links _ _ _ _ _ _ _ _ _
    (rw c.head_of-head.ensures at (sym c.if-not-is_seated.ensures))
    (rw (c.field.ensures, c.head_of-head.ensures) at (sym c.if-not-is_whole.ensures))
    (rw c.head_of-head.ensures at (sym c.if-not-copies_links.ensures))

pub returns : goal.returns
returns c =
    rw (c.field.ensures, c.head_of-head.ensures)
    (seated _ _ _ _ _ _ _ _ _
    (rw c.head_of-head.ensures at (sym c.if-not-is_seated.ensures))
    (rw (c.field.ensures, c.head_of-head.ensures) at (sym c.if-not-is_whole.ensures))
    (rw c.head_of-head.ensures at (sym c.if-not-copies_links.ensures)))
