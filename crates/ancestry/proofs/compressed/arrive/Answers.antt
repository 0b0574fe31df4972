-- `arrive`: the row is known, or its check decides.
use Rattle.std.proofs.Common.{sym, ◌∙◌}
use Rattle.layer.specs.CheckedLaws.{known_row}
use Rattle.ancestry.specs.CompressedStepLaws.{arrive_met, arrive_lost}
use Rattle.ancestry.proofs.compressed.arrive.Goals as goal

pub returns-then-v-known : goal.returns-then-v-known
returns-then-v-known c = arrive_met _ _ _ _ (sym (known_row _ _ c.requires.row c.if-v-known.true))

pub returns-then-is_row : goal.returns-then-is_row
returns-then-is_row c = arrive_met _ _ _ _ (sym c.is_row.ensures ∙ c.if-is_row.true)

pub returns : goal.returns
returns c = arrive_lost _ _ _ _ (sym c.is_row.ensures ∙ c.if-is_row.false)
