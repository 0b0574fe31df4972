-- `is_read`: each test in turn.
use mathlib.Core.Path.{sym, ◌∙◌}
use Rattle.query.specs.PlainAnswer.{is_read}
use Rattle.query.proofs.plain.is_read.Goals as goal

pub returns-then-not-has_level : goal.returns-then-not-has_level
unfolding is_read
returns-then-not-has_level c = rw (sym c.has_level.ensures ∙ c.if-not-has_level.true)

pub returns-then-not-is_row : goal.returns-then-not-is_row
unfolding is_read
returns-then-not-is_row c = let level = sym c.has_level.ensures ∙ c.if-not-has_level.false in
    let root = sym c.is_row.ensures ∙ c.if-not-is_row.true in
    rw (level, root)

pub returns-then-not-is_node : goal.returns-then-not-is_node
unfolding is_read
returns-then-not-is_node c = let level = sym c.has_level.ensures ∙ c.if-not-has_level.false in
    let root = sym c.is_row.ensures ∙ c.if-not-is_row.false in
    let left = sym c.is_node.ensures ∙ c.if-not-is_node.true in
    rw (level, root, left)

pub returns : goal.returns
unfolding is_read
returns c = let level = sym c.has_level.ensures ∙ c.if-not-has_level.false in
    let root = sym c.is_row.ensures ∙ c.if-not-is_row.false in
    let left = sym c.is_node.ensures ∙ c.if-not-is_node.false in
    rw (level, root, left) c.is_node-2.ensures
