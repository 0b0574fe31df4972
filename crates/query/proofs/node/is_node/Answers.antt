-- `is_node`: the row, then its level, which stands within the levels.
use mathlib.Core.Path.{sym, ◌∙◌}
use native.Mathlib.Omega.{arith}
use Rattle.layer.specs.CheckedLaws.{is_row_lem}
use Rattle.query.specs.NodeLaws.{node_row, node_none}
use Rattle.query.proofs.node.is_node.Goals as goal

pub returns-then-not-is_row : goal.returns-then-not-is_row
returns-then-not-is_row c = node_none _ _ _ _ (sym c.is_row.ensures ∙ c.if-not-is_row.true)

pub has_level-requires : goal.has_level-requires
has_level-requires c = let row = is_row_lem _ _ _ (sym c.is_row.ensures ∙ c.if-not-is_row.false) in
    omega (arith, row.in_use, c.requires.count_in_bounds)

pub returns : goal.returns
returns c = node_row _ _ _ _ (sym c.is_row.ensures ∙ c.if-not-is_row.false) c.has_level.ensures
