-- `is_row`: below the count the row is within the parts, and its check decides.
use mathlib.Core.Path.{ap, ◌∙◌}
use borrow.Author.Tests.{le-ltb, lt-ltb}
use Rattle.layer.specs.declared.row.Row.{Row}
use Rattle.layer.specs.Sound.{is_sound}
use Rattle.layer.specs.Checked.{is_row}
use Rattle.layer.specs.CheckedLaws.{within}
use Rattle.row_check.proofs.is_row.Goals as goal

pub returns-then-count-v : goal.returns-then-count-v
unfolding is_row
returns-then-count-v c = let a = c.args in rw (le-ltb a.v a.count c.if-count-v.true)

pub row_at-requires : goal.row_at-requires
row_at-requires c = within c.requires c.if-count-v.false

pub returns : goal.returns
unfolding is_row
returns c = let a = c.args in
    rw (lt-ltb a.v a.count c.if-count-v.false) (c.is_sound.ensures ∙ ap (λ (r : Row). is_sound a.count r) c.row_at.ensures)
