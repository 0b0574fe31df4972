-- `plan_first`: the refusals in their order.
use Rattle.growth_plan.specs.PlanLaws.{first_misfit, first_full, first_fallen, first_row}
use Rattle.table.specs.Lent.{parts_in}
use mathlib.Core.Path.{◌∙◌, sym}
use Rattle.growth_plan.proofs.root.plan_first.Goals as goal

pub returns-in_default : goal.returns-in_default
returns-in_default c = let a = c.args in first_misfit (parts_in a.parts.now) a.state (sym c.in_default.is ∙ c.capacity.ensures)

pub returns-then-state-cap : goal.returns-then-state-cap
returns-then-state-cap c = let a = c.args in first_full (parts_in a.parts.now) a.state _ (c.in-Some.ensures) c.if-state-cap.true

pub returns-then-not-is_standing : goal.returns-then-not-is_standing
returns-then-not-is_standing c = let a = c.args in first_fallen (parts_in a.parts.now) a.state _ (c.in-Some.ensures) c.if-state-cap.false (sym c.if-not-is_standing.ensures)

pub returns : goal.returns
returns c = let a = c.args in first_row (parts_in a.parts.now) a.state _ (c.in-Some.ensures) c.if-state-cap.false (sym c.if-not-is_standing.ensures)
