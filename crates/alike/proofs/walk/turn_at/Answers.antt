-- `turn_at`: its tests are those of the definition, in the same order.
use mathlib.Core.Path.{sym, ◌∙◌}
use borrow.Author.Tests.{eq-eqb, ne_eqb}
use Rattle.query.specs.NodeLaws.{is_node_lem}
use Rattle.alike.specs.Walk.{turn_at}
use Rattle.alike.proofs.walk.turn_at.Goals as goal

pub returns-then-not-is_node : goal.returns-then-not-is_node
unfolding turn_at
returns-then-not-is_node c = rw (sym c.is_node.ensures ∙ c.if-not-is_node.true)

pub returns-then-not-is_node-2 : goal.returns-then-not-is_node-2
unfolding turn_at
returns-then-not-is_node-2 c = rw (
  sym c.is_node.ensures ∙ c.if-not-is_node.false,
  sym c.is_node-2.ensures ∙ c.if-not-is_node-2.true,
)

pub returns-then-not-is_level_with : goal.returns-then-not-is_level_with
unfolding turn_at
returns-then-not-is_level_with c = rw (
  sym c.is_node.ensures ∙ c.if-not-is_node.false,
  sym c.is_node-2.ensures ∙ c.if-not-is_node-2.false,
  sym c.is_level_with.ensures ∙ c.if-not-is_level_with.true,
)

pub returns-then-x-y : goal.returns-then-x-y
unfolding turn_at
returns-then-x-y c = let a = c.args in
    rw (
      sym c.is_node.ensures ∙ c.if-not-is_node.false,
      sym c.is_node-2.ensures ∙ c.if-not-is_node-2.false,
      sym c.is_level_with.ensures ∙ c.if-not-is_level_with.false,
      eq-eqb a.x a.y c.if-x-y.true,
    )

pub returns-then-not-are_marked_alike : goal.returns-then-not-are_marked_alike
unfolding turn_at
returns-then-not-are_marked_alike c = let a = c.args in
    rw (
      sym c.is_node.ensures ∙ c.if-not-is_node.false,
      sym c.is_node-2.ensures ∙ c.if-not-is_node-2.false,
      sym c.is_level_with.ensures ∙ c.if-not-is_level_with.false,
      ne_eqb a.x a.y c.if-x-y.false,
      sym c.are_marked_alike.ensures ∙ c.if-not-are_marked_alike.true,
    )

pub plain_parent-requires : goal.plain_parent-requires
plain_parent-requires c = let x = is_node_lem _ _ _ _ (sym c.is_node.ensures ∙ c.if-not-is_node.false) in record { row = c.requires; row_2 = x.row }

pub plain_parent-requires-2 : goal.plain_parent-requires-2
plain_parent-requires-2 c = let y = is_node_lem _ _ _ _ (sym c.is_node-2.ensures ∙ c.if-not-is_node-2.false) in record { row = c.requires; row_2 = y.row }

pub returns : goal.returns
unfolding turn_at
returns c = let a = c.args in
    rw (
      sym c.is_node.ensures ∙ c.if-not-is_node.false,
      sym c.is_node-2.ensures ∙ c.if-not-is_node-2.false,
      sym c.is_level_with.ensures ∙ c.if-not-is_level_with.false,
      ne_eqb a.x a.y c.if-x-y.false,
      sym c.are_marked_alike.ensures ∙ c.if-not-are_marked_alike.false,
      c.plain_parent.ensures,
      c.plain_parent-2.ensures,
    )
