-- `past_entry`: no entry, an entry that is not sound, or the row above it.
use Rattle.std.proofs.Common.{sym, ◌∙◌}
use Rattle.ancestry.specs.AnswerRows.{arrive_row}
use Rattle.ancestry.specs.CompressedStepLaws.{entry_none, entry_lost, entry_up}
use Rattle.ancestry.proofs.compressed.past_entry.Goals as goal

pub returns-then-e-eq-NONE : goal.returns-then-e-eq-NONE
returns-then-e-eq-NONE c = entry_none _ _ _ _ c.if-e-eq-NONE.true

pub returns-in_err-arrive : goal.returns-in_err-arrive
returns-in_err-arrive c = rw c.from_residual.ensures (entry_lost _ _ _ _ c.if-e-eq-NONE.false (sym c.in_err-arrive.ensures))

pub above-requires-clause-row_2 : goal.above-requires-clause-row_2
above-requires-clause-row_2 c = arrive_row _ _ _ c.in_ok-arrive.ensures

pub returns : goal.returns
returns c = c.above.ensures ∙ entry_up _ _ _ _ c.if-e-eq-NONE.false (arrive_row _ _ _ c.in_ok-arrive.ensures)
