-- `is_seated`: the head is a first row or has an upper row, and its span lies within the limit.
use Rattle.join.specs.Seat.{is_seated}
use Rattle.join.proofs.seat.is_seated.Goals as goal

pub returns : goal.returns
unfolding is_seated
returns c = rw (c.is_first-first.ensures, c.within_limit-inside.ensures, c.new.ensures, c.number.ensures)
