-- The plan of a row that is to join: its seat in the layer, or refusal 4, with what the table keeps of it.
use Rattle.std.specs.Prelude.{List, ℕ, ℤ, Result, Ok, Err}
use Rattle.table.specs.declared.refusal.Refusal.{Refusal}
use Rattle.table.specs.declared.refusal.Refusal.TheVariants.{Corrupt}
use Rattle.join.specs.Seat.{seat_of, on_seat}
use Rattle.growth_plan.specs.declared.row.Marks.{Marks}
use Rattle.growth_plan.specs.declared.row.Planned.{Planned}
use Rattle.growth_plan.specs.declared.row.Planned.TheVariants.{Grow}

-- the marks of a row of this level; the row `labelled` will take the label and the face, and `tree` will record the new row as a root, if it is a row
abbrev pub marks_of : ℤ → ℕ → ℕ → ℕ → ℕ → Marks
marks_of level labelled label face tree = record { level = level; labelled = labelled; label = label; face = face; tree = tree }

-- of the row z as a leaf under p, with these marks
unfoldable pub planned_row : List ℕ → List ℕ → List ℕ → ℕ → ℕ → ℕ → Marks → Result Planned Refusal
planned_row f m a n z p marks = on_seat (seat_of f m a n z p) (λ s. Ok (Grow (record { seat = s; marks = marks }))) (Err Corrupt)
