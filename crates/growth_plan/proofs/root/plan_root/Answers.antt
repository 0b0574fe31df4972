-- `plan_root`: the refusals in their order.
use Rattle.growth_plan.specs.PlanLaws.{holds, root_read, root_misfit, root_label, root_full, root_fallen, root_first, root_lost, root_row}
use Rattle.std.specs.Option.{is_some, unwrap_or}
use Rattle.table.specs.Lent.{parts_in}
use mathlib.Core.Path.{◌∙◌, sym}
use Rattle.growth_plan.proofs.root.plan_root.Goals as goal

pub returns-in_default : goal.returns-in_default
returns-in_default c = let a = c.args in root_misfit (parts_in a.parts.now) a.state (is_some a.opening) (unwrap_or a.opening 0) (sym c.in_default.is ∙ c.capacity.ensures)

pub returns-then-not-is_opening : goal.returns-then-not-is_opening
returns-then-not-is_opening c = let a = c.args in root_label (parts_in a.parts.now) a.state (is_some a.opening) (unwrap_or a.opening 0) _ (c.in-Some.ensures) (sym c.if-not-is_opening.ensures)

pub returns-then-state-cap : goal.returns-then-state-cap
returns-then-state-cap c = let a = c.args in root_full (parts_in a.parts.now) a.state (is_some a.opening) (unwrap_or a.opening 0) _ (c.in-Some.ensures) (sym c.if-not-is_opening.ensures) c.if-state-cap.true

pub returns-then-not-is_standing : goal.returns-then-not-is_standing
returns-then-not-is_standing c = let a = c.args in root_fallen (parts_in a.parts.now) a.state (is_some a.opening) (unwrap_or a.opening 0) _ (c.in-Some.ensures) (sym c.if-not-is_opening.ensures) c.if-state-cap.false (sym c.if-not-is_standing.ensures)

pub returns-then-state-eq0 : goal.returns-then-state-eq0
returns-then-state-eq0 c = let a = c.args in root_first (parts_in a.parts.now) a.state (is_some a.opening) (unwrap_or a.opening 0) _ (c.in-Some.ensures) (sym c.if-not-is_opening.ensures) c.if-state-cap.false (sym c.if-not-is_standing.ensures) c.if-state-eq0.true

pub returns-then-root : goal.returns-then-root
returns-then-root c = let a = c.args in
    let r = root_read a.parts.now.fields.now a.parts.now.ancestors.now a.state.count 0 c.tree_of-tree.ensures c.root_of-root.ensures in
    root_lost (parts_in a.parts.now) a.state (is_some a.opening) (unwrap_or a.opening 0) _ (c.in-Some.ensures) (sym c.if-not-is_opening.ensures) c.if-state-cap.false (sym c.if-not-is_standing.ensures) c.if-state-eq0.false (sym r ∙ c.if-root.true)

pub plan_above-requires : goal.plan_above-requires
plan_above-requires c = let a = c.args in holds (parts_in a.parts.now) _ a.state (c.in-Some.ensures) (sym c.if-not-is_standing.ensures)

pub returns : goal.returns
returns c = let a = c.args in
    let r = root_read a.parts.now.fields.now a.parts.now.ancestors.now a.state.count 0 c.tree_of-tree.ensures c.root_of-root.ensures in
    rw (r, c.tree_of-tree.ensures) at c.plan_above.ensures ∙
    root_row (parts_in a.parts.now) a.state (is_some a.opening) (unwrap_or a.opening 0) _ (c.in-Some.ensures) (sym c.if-not-is_opening.ensures) c.if-state-cap.false (sym c.if-not-is_standing.ensures) c.if-state-eq0.false (λ z. c.if-root.false (r ∙ z))
