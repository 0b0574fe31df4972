-- `plain_parent`: the root, a row on the line, any other row.
use mathlib.Core.Path.{sym, ◌∙◌}
use borrow.Author.Tests.{eq-eqb, ne_eqb}
use Rattle.alike.specs.PlainParent.{plain_up}
use Rattle.alike.proofs.parent.plain_parent.Goals as goal

pub returns-then-z-root : goal.returns-then-z-root
unfolding plain_up
returns-then-z-root c = let a = c.args in rw (eq-eqb a.z a.root c.if-z-root.true)

pub returns-then-is_line_level : goal.returns-then-is_line_level
unfolding plain_up
returns-then-is_line_level c = let a = c.args in
    rw (ne_eqb a.z a.root c.if-z-root.false, sym c.is_line_level.ensures ∙ c.if-is_line_level.true)
    c.toward_root.ensures

pub returns : goal.returns
unfolding plain_up
returns c = let a = c.args in
    rw (ne_eqb a.z a.root c.if-z-root.false, sym c.is_line_level.ensures ∙ c.if-is_line_level.false)
    c.field.ensures
