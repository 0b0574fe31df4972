-- `check_link`: the refusals in their order.
use mathlib.Core.Path.{ap, ◌∙◌, sym}
use borrow.Author.Tests.{not-true, not-false}
use Rattle.std.specs.Prelude.{Ok}
use Rattle.table.specs.Lent.{parts_in}
use Rattle.growth_plan.specs.PlanLaws.{root_read}
use Rattle.inspect.specs.InspectionLaws.{told_capacity, told_tally}
use Rattle.link_plan.specs.CheckLaws.{check_misfit, check_scratch, check_x, check_v, check_label, check_count, check_lost, check_not_root, check_other_lost, check_same, check_inspect, check_tally, trees_are, check_serve}
use Rattle.link_plan.proofs.check_link.Goals as goal

pub returns-in_default : goal.returns-in_default
returns-in_default c = let a = c.args in check_misfit (parts_in a.parts.now) a.tally.now _ a.state a.x a.v a.door (sym c.in_default.is ∙ c.capacity_with.ensures)

pub returns-then-scratch-cap : goal.returns-then-scratch-cap
returns-then-scratch-cap c = let a = c.args in check_scratch (parts_in a.parts.now) a.tally.now _ a.state a.x a.v a.door _ (sym c.in-Some.is ∙ c.capacity_with.ensures) c.if-scratch-cap.true

pub returns-then-state-x : goal.returns-then-state-x
returns-then-state-x c = let a = c.args in check_x (parts_in a.parts.now) a.tally.now _ a.state a.x a.v a.door _ (sym c.in-Some.is ∙ c.capacity_with.ensures) c.if-scratch-cap.false c.if-state-x.true

pub returns-then-state-v : goal.returns-then-state-v
returns-then-state-v c = let a = c.args in check_v (parts_in a.parts.now) a.tally.now _ a.state a.x a.v a.door _ (sym c.in-Some.is ∙ c.capacity_with.ensures) c.if-scratch-cap.false c.if-state-x.false c.if-state-v.true

pub returns-then-not-is_label : goal.returns-then-not-is_label
returns-then-not-is_label c = let a = c.args in check_label (parts_in a.parts.now) a.tally.now _ a.state a.x a.v a.door _ (sym c.in-Some.is ∙ c.capacity_with.ensures) c.if-scratch-cap.false c.if-state-x.false c.if-state-v.false (sym c.is_label.ensures ∙ not-true _ c.if-not-is_label.true-raw)

pub returns-then-not-is_standing : goal.returns-then-not-is_standing
returns-then-not-is_standing c = let a = c.args in check_count (parts_in a.parts.now) a.tally.now _ a.state a.x a.v a.door _ (sym c.in-Some.is ∙ c.capacity_with.ensures) c.if-scratch-cap.false c.if-state-x.false c.if-state-v.false (sym c.is_label.ensures ∙ not-false _ c.if-not-is_label.false-raw) (sym c.is_standing.ensures ∙ not-true _ c.if-not-is_standing.true-raw)

pub returns-then-root : goal.returns-then-root
returns-then-root c = let a = c.args in let r = root_read a.parts.now.fields.now a.parts.now.ancestors.now a.state.count a.x c.tree_of-tree.ensures c.root_of-root.ensures in check_lost (parts_in a.parts.now) a.tally.now _ a.state a.x a.v a.door _ (sym c.in-Some.is ∙ c.capacity_with.ensures) c.if-scratch-cap.false c.if-state-x.false c.if-state-v.false (sym c.is_label.ensures ∙ not-false _ c.if-not-is_label.false-raw) (sym c.is_standing.ensures ∙ not-false _ c.if-not-is_standing.false-raw) (sym r ∙ c.if-root.true)

pub returns-then-root-x : goal.returns-then-root-x
returns-then-root-x c = let a = c.args in let r = root_read a.parts.now.fields.now a.parts.now.ancestors.now a.state.count a.x c.tree_of-tree.ensures c.root_of-root.ensures in check_not_root (parts_in a.parts.now) a.tally.now _ a.state a.x a.v a.door _ (sym c.in-Some.is ∙ c.capacity_with.ensures) c.if-scratch-cap.false c.if-state-x.false c.if-state-v.false (sym c.is_label.ensures ∙ not-false _ c.if-not-is_label.false-raw) (sym c.is_standing.ensures ∙ not-false _ c.if-not-is_standing.false-raw) (λ z. c.if-root.false (r ∙ z)) (λ z. c.if-root-x.true (r ∙ z))

pub returns-then-receiving : goal.returns-then-receiving
returns-then-receiving c = let a = c.args in let r = root_read a.parts.now.fields.now a.parts.now.ancestors.now a.state.count a.x c.tree_of-tree.ensures c.root_of-root.ensures in check_other_lost (parts_in a.parts.now) a.tally.now _ a.state a.x a.v a.door _ (sym c.in-Some.is ∙ c.capacity_with.ensures) c.if-scratch-cap.false c.if-state-x.false c.if-state-v.false (sym c.is_label.ensures ∙ not-false _ c.if-not-is_label.false-raw) (sym c.is_standing.ensures ∙ not-false _ c.if-not-is_standing.false-raw) (λ z. c.if-root.false (r ∙ z)) (sym r ∙ c.if-root-x.false) (sym c.tree_of-receiving.ensures ∙ c.if-receiving.true)

pub returns-then-receiving-tree : goal.returns-then-receiving-tree
returns-then-receiving-tree c = let a = c.args in let r = root_read a.parts.now.fields.now a.parts.now.ancestors.now a.state.count a.x c.tree_of-tree.ensures c.root_of-root.ensures in check_same (parts_in a.parts.now) a.tally.now _ a.state a.x a.v a.door _ (sym c.in-Some.is ∙ c.capacity_with.ensures) c.if-scratch-cap.false c.if-state-x.false c.if-state-v.false (sym c.is_label.ensures ∙ not-false _ c.if-not-is_label.false-raw) (sym c.is_standing.ensures ∙ not-false _ c.if-not-is_standing.false-raw) (λ z. c.if-root.false (r ∙ z)) (sym r ∙ c.if-root-x.false) (λ z. c.if-receiving.false (c.tree_of-receiving.ensures ∙ z)) (sym c.tree_of-receiving.ensures ∙ c.if-receiving-tree.true ∙ c.tree_of-tree.ensures)

pub is_ours-requires : goal.is_ours-requires
is_ours-requires c = let a = c.args in let p = parts_in a.parts.now in (told_capacity p a.tally.now c.capacity_with.ensures c.in-Some.is, told_tally p a.tally.now c.capacity_with.ensures c.in-Some.is)

pub returns-then-not-is_ours : goal.returns-then-not-is_ours
returns-then-not-is_ours c = let a = c.args in let r = root_read a.parts.now.fields.now a.parts.now.ancestors.now a.state.count a.x c.tree_of-tree.ensures c.root_of-root.ensures in check_inspect (parts_in a.parts.now) a.tally.now _ a.state a.x a.v a.door _ (sym c.in-Some.is ∙ c.capacity_with.ensures) c.if-scratch-cap.false c.if-state-x.false c.if-state-v.false (sym c.is_label.ensures ∙ not-false _ c.if-not-is_label.false-raw) (sym c.is_standing.ensures ∙ not-false _ c.if-not-is_standing.false-raw) (λ z. c.if-root.false (r ∙ z)) (sym r ∙ c.if-root-x.false) (λ z. c.if-receiving.false (c.tree_of-receiving.ensures ∙ z)) (λ z. c.if-receiving-tree.false (c.tree_of-receiving.ensures ∙ z ∙ sym c.tree_of-tree.ensures)) (sym c.is_ours.ensures ∙ not-true _ c.if-not-is_ours.true-raw)

pub returns-then-not-is_movable : goal.returns-then-not-is_movable
returns-then-not-is_movable c = let a = c.args in let r = root_read a.parts.now.fields.now a.parts.now.ancestors.now a.state.count a.x c.tree_of-tree.ensures c.root_of-root.ensures in check_tally (parts_in a.parts.now) a.tally.now _ a.state a.x a.v a.door _ (sym c.in-Some.is ∙ c.capacity_with.ensures) c.if-scratch-cap.false c.if-state-x.false c.if-state-v.false (sym c.is_label.ensures ∙ not-false _ c.if-not-is_label.false-raw) (sym c.is_standing.ensures ∙ not-false _ c.if-not-is_standing.false-raw) (λ z. c.if-root.false (r ∙ z)) (sym r ∙ c.if-root-x.false) (λ z. c.if-receiving.false (c.tree_of-receiving.ensures ∙ z)) (λ z. c.if-receiving-tree.false (c.tree_of-receiving.ensures ∙ z ∙ sym c.tree_of-tree.ensures)) (sym c.is_ours.ensures ∙ not-false _ c.if-not-is_ours.false-raw) (sym c.is_movable.ensures ∙ not-true _ c.if-not-is_movable.true-raw)

pub returns : goal.returns
returns c = let a = c.args in let r = root_read a.parts.now.fields.now a.parts.now.ancestors.now a.state.count a.x c.tree_of-tree.ensures c.root_of-root.ensures in ap Ok (trees_are c.tree_of-tree.ensures c.tree_of-receiving.ensures) ∙ check_serve (parts_in a.parts.now) a.tally.now _ a.state a.x a.v a.door _ (sym c.in-Some.is ∙ c.capacity_with.ensures) c.if-scratch-cap.false c.if-state-x.false c.if-state-v.false (sym c.is_label.ensures ∙ not-false _ c.if-not-is_label.false-raw) (sym c.is_standing.ensures ∙ not-false _ c.if-not-is_standing.false-raw) (λ z. c.if-root.false (r ∙ z)) (sym r ∙ c.if-root-x.false) (λ z. c.if-receiving.false (c.tree_of-receiving.ensures ∙ z)) (λ z. c.if-receiving-tree.false (c.tree_of-receiving.ensures ∙ z ∙ sym c.tree_of-tree.ensures)) (sym c.is_ours.ensures ∙ not-false _ c.if-not-is_ours.false-raw) (sym c.is_movable.ensures ∙ not-false _ c.if-not-is_movable.false-raw)
