-- `plan_over`: the refusals in their order.
use Rattle.growth_plan.specs.PlanLaws.{holds, root_read, over_misfit, over_unknown, over_label, over_fallen, over_lost, over_other, over_full, over_row}
use Rattle.std.specs.Option.{is_some, unwrap_or}
use Rattle.table.specs.Lent.{parts_in}
use mathlib.Core.Path.{◌∙◌, sym}
use Rattle.growth_plan.proofs.root.plan_over.Goals as goal

pub returns-in_default : goal.returns-in_default
returns-in_default c = let a = c.args in over_misfit (parts_in a.parts.now) a.state a.x (is_some a.opening) (unwrap_or a.opening 0) (sym c.in_default.is ∙ c.capacity.ensures)

pub returns-then-state-x : goal.returns-then-state-x
returns-then-state-x c = let a = c.args in over_unknown (parts_in a.parts.now) a.state a.x (is_some a.opening) (unwrap_or a.opening 0) _ (c.in-Some.ensures) c.if-state-x.true

pub returns-then-not-is_opening : goal.returns-then-not-is_opening
returns-then-not-is_opening c = let a = c.args in over_label (parts_in a.parts.now) a.state a.x (is_some a.opening) (unwrap_or a.opening 0) _ (c.in-Some.ensures) c.if-state-x.false (sym c.if-not-is_opening.ensures)

pub returns-then-not-is_standing : goal.returns-then-not-is_standing
returns-then-not-is_standing c = let a = c.args in over_fallen (parts_in a.parts.now) a.state a.x (is_some a.opening) (unwrap_or a.opening 0) _ (c.in-Some.ensures) c.if-state-x.false (sym c.if-not-is_opening.ensures) (sym c.if-not-is_standing.ensures)

pub returns-then-root : goal.returns-then-root
returns-then-root c = let a = c.args in
    let r = root_read a.parts.now.fields.now a.parts.now.ancestors.now a.state.count a.x c.tree_of-tree.ensures c.root_of-root.ensures in
    over_lost (parts_in a.parts.now) a.state a.x (is_some a.opening) (unwrap_or a.opening 0) _ (c.in-Some.ensures) c.if-state-x.false (sym c.if-not-is_opening.ensures) (sym c.if-not-is_standing.ensures) (sym r ∙ c.if-root.true)

pub returns-then-root-x : goal.returns-then-root-x
returns-then-root-x c = let a = c.args in
    let r = root_read a.parts.now.fields.now a.parts.now.ancestors.now a.state.count a.x c.tree_of-tree.ensures c.root_of-root.ensures in
    over_other (parts_in a.parts.now) a.state a.x (is_some a.opening) (unwrap_or a.opening 0) _ (c.in-Some.ensures) c.if-state-x.false (sym c.if-not-is_opening.ensures) (sym c.if-not-is_standing.ensures) (λ z. c.if-root.false (r ∙ z)) (λ z. c.if-root-x.true (r ∙ z))

pub returns-then-state-cap : goal.returns-then-state-cap
returns-then-state-cap c = let a = c.args in
    let r = root_read a.parts.now.fields.now a.parts.now.ancestors.now a.state.count a.x c.tree_of-tree.ensures c.root_of-root.ensures in
    over_full (parts_in a.parts.now) a.state a.x (is_some a.opening) (unwrap_or a.opening 0) _ (c.in-Some.ensures) c.if-state-x.false (sym c.if-not-is_opening.ensures) (sym c.if-not-is_standing.ensures) (λ z. c.if-root.false (r ∙ z)) (sym r ∙ c.if-root-x.false) c.if-state-cap.true

pub plan_above-requires : goal.plan_above-requires
plan_above-requires c = let a = c.args in holds (parts_in a.parts.now) _ a.state (c.in-Some.ensures) (sym c.if-not-is_standing.ensures)

pub returns : goal.returns
returns c = let a = c.args in
    let r = root_read a.parts.now.fields.now a.parts.now.ancestors.now a.state.count a.x c.tree_of-tree.ensures c.root_of-root.ensures in
    rw c.tree_of-tree.ensures at c.plan_above.ensures ∙
    over_row (parts_in a.parts.now) a.state a.x (is_some a.opening) (unwrap_or a.opening 0) _ (c.in-Some.ensures) c.if-state-x.false (sym c.if-not-is_opening.ensures) (sym c.if-not-is_standing.ensures) (λ z. c.if-root.false (r ∙ z)) (sym r ∙ c.if-root-x.false) c.if-state-cap.false
