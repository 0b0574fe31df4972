-- The plan of a row that is to join, by its seat.
use Rattle.std.specs.Prelude.{◌≡◌, List, ℕ, Ok, Err, Some, None}
use Rattle.table.specs.declared.refusal.Refusal.TheVariants.{Corrupt}
use Rattle.join.specs.declared.seat.Seat.{Seat}
use Rattle.join.specs.Seat.{seat_of}
use Rattle.growth_plan.specs.declared.row.Marks.{Marks}
use Rattle.growth_plan.specs.declared.row.Planned.TheVariants.{Grow}
use Rattle.growth_plan.specs.PlannedRow.{planned_row}

module _ (f m a : List ℕ) (n z p : ℕ) (marks : Marks) where
  pub no_seat : None ≡ seat_of f m a n z p → Err Corrupt ≡ planned_row f m a n z p marks
  unfolding planned_row
  no_seat e = rw (← e)

  pub on_seat : (s : Seat) → Some s ≡ seat_of f m a n z p → Ok (Grow (record { seat = s; marks = marks })) ≡ planned_row f m a n z p marks
  unfolding planned_row
  on_seat s e = rw (← e)
