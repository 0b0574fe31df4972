-- `served`: the root's row, then the walk.
use mathlib.Core.Path.{sym, ◌∙◌}
use Rattle.layer.specs.CheckedLaws.{is_row_lem}
use Rattle.alike.specs.Alike.{served}
use Rattle.alike.proofs.served.Goals as goal

pub returns-then-not-is_row : goal.returns-then-not-is_row
unfolding served
returns-then-not-is_row c = rw (sym c.is_row.ensures ∙ c.if-not-is_row.true)

pub walked-requires : goal.walked-requires
walked-requires c = is_row_lem _ _ _ (sym c.is_row.ensures ∙ c.if-not-is_row.false)

pub returns : goal.returns
unfolding served
returns c = rw (sym c.is_row.ensures ∙ c.if-not-is_row.false) c.walked.ensures
