-- `plan_row`: the row has a seat, or the table is refused.
use mathlib.Core.Path.{◌∙◌, sym}
use Rattle.growth_plan.specs.PlannedRowLaws.{no_seat, on_seat}
use Rattle.growth_plan.proofs.row.plan_row.Goals as goal

pub returns-in_default : goal.returns-in_default
returns-in_default c = let a = c.args in
    no_seat a.fields.now a.numbers.now a.ancestors.now a.count a.z a.p a.marks (sym c.in_default.is ∙ c.seat_of.ensures)

pub returns : goal.returns
returns c = let a = c.args in
    on_seat a.fields.now a.numbers.now a.ancestors.now a.count a.z a.p a.marks _ (c.in-Some.ensures)
