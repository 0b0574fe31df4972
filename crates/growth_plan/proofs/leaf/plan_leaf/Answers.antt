-- `plan_leaf`: the refusals in their order.
use mir.Val.{to_z, of_z}
use mir.ValLaws.{to_z-of_z}
use mir.Syntax.{w32}
use Rattle.growth_plan.specs.PlanLaws.{holds, root_read, leaf_misfit, leaf_unknown, leaf_label, leaf_face, leaf_full, leaf_fallen, leaf_lost, leaf_out, leaf_row}
use Rattle.table.specs.Lent.{parts_in}
use mathlib.Core.Path.{◌≡◌, ◌∙◌, sym}
use Rattle.std.proofs.Common.{rules}
use Rattle.growth_plan.proofs.leaf.plan_leaf.Goals as goal

pub returns-in_default : goal.returns-in_default
returns-in_default c = let a = c.args in leaf_misfit (parts_in a.parts.now) a.state a.parent a.label a.face (sym c.in_default.is ∙ c.capacity.ensures)

pub returns-then-state-parent : goal.returns-then-state-parent
returns-then-state-parent c = let a = c.args in leaf_unknown (parts_in a.parts.now) a.state a.parent a.label a.face _ (c.in-Some.ensures) c.if-state-parent.true

pub returns-then-not-is_label : goal.returns-then-not-is_label
returns-then-not-is_label c = let a = c.args in leaf_label (parts_in a.parts.now) a.state a.parent a.label a.face _ (c.in-Some.ensures) c.if-state-parent.false (sym c.if-not-is_label.ensures)

pub returns-then-not-is_face : goal.returns-then-not-is_face
returns-then-not-is_face c = let a = c.args in leaf_face (parts_in a.parts.now) a.state a.parent a.label a.face _ (c.in-Some.ensures) c.if-state-parent.false (sym c.if-not-is_label.ensures) (sym c.if-not-is_face.ensures)

pub returns-then-state-cap : goal.returns-then-state-cap
returns-then-state-cap c = let a = c.args in leaf_full (parts_in a.parts.now) a.state a.parent a.label a.face _ (c.in-Some.ensures) c.if-state-parent.false (sym c.if-not-is_label.ensures) (sym c.if-not-is_face.ensures) c.if-state-cap.true

pub returns-then-not-is_standing : goal.returns-then-not-is_standing
returns-then-not-is_standing c = let a = c.args in leaf_fallen (parts_in a.parts.now) a.state a.parent a.label a.face _ (c.in-Some.ensures) c.if-state-parent.false (sym c.if-not-is_label.ensures) (sym c.if-not-is_face.ensures) c.if-state-cap.false (sym c.if-not-is_standing.ensures)

pub returns-then-root_of : goal.returns-then-root_of
returns-then-root_of c = let a = c.args in
    let r = root_read a.parts.now.fields.now a.parts.now.ancestors.now a.state.count a.parent c.tree_of-tree.ensures c.root_of.ensures in
    leaf_lost (parts_in a.parts.now) a.state a.parent a.label a.face _ (c.in-Some.ensures) c.if-state-parent.false (sym c.if-not-is_label.ensures) (sym c.if-not-is_face.ensures) c.if-state-cap.false (sym c.if-not-is_standing.ensures) (sym r ∙ c.if-root_of.true)

pub returns-in_default-leaf_level : goal.returns-in_default-leaf_level
returns-in_default-leaf_level c = let a = c.args in
    let r = root_read a.parts.now.fields.now a.parts.now.ancestors.now a.state.count a.parent c.tree_of-tree.ensures c.root_of.ensures in
    let read : to_z w32 (of_z w32 c.level.result) ≡ c.level.result = to_z-of_z w32 _ (record { sfits = c.level.type_inv }) in
    leaf_out (parts_in a.parts.now) a.state a.parent a.label a.face _ (c.in-Some.ensures) c.if-state-parent.false (sym c.if-not-is_label.ensures) (sym c.if-not-is_face.ensures) c.if-state-cap.false (sym c.if-not-is_standing.ensures) (λ z. c.if-root_of.false (r ∙ z))
    (rw (read, c.level.ensures) at (sym c.in_default-leaf_level.is ∙ c.leaf_level.ensures))

pub plan_row-requires : goal.plan_row-requires
plan_row-requires c = let a = c.args in holds (parts_in a.parts.now) _ a.state (c.in-Some.ensures) (sym c.if-not-is_standing.ensures)

pub returns : goal.returns
returns c = let a = c.args in
    let r = root_read a.parts.now.fields.now a.parts.now.ancestors.now a.state.count a.parent c.tree_of-tree.ensures c.root_of.ensures in
    let read : to_z w32 (of_z w32 c.level.result) ≡ c.level.result = to_z-of_z w32 _ (record { sfits = c.level.type_inv }) in
    let kept : to_z w32 (of_z w32 c.in-Some-leaf_level.at) ≡ c.in-Some-leaf_level.at = search rules in
    rw kept at c.plan_row.ensures ∙
    leaf_row (parts_in a.parts.now) a.state a.parent a.label a.face _ (c.in-Some.ensures) c.if-state-parent.false (sym c.if-not-is_label.ensures) (sym c.if-not-is_face.ensures) c.if-state-cap.false (sym c.if-not-is_standing.ensures) (λ z. c.if-root_of.false (r ∙ z))
    c.in-Some-leaf_level.at (rw (read, c.level.ensures) at (c.in-Some-leaf_level.ensures))
