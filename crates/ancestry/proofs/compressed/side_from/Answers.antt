-- `side_from`: its steps are the definition's, and where one is lost, so is the side.
use Rattle.std.proofs.Common.{◌∙◌}
use Rattle.ancestry.specs.AnswerRows.{if_some, past_entry_rows, past_reach_rows}
use Rattle.ancestry.specs.CompressedStepLaws.{side_lost, side_lost_later, side_found}
use Rattle.ancestry.proofs.compressed.side_from.Goals as goal

pub returns-in_err-first : goal.returns-in_err-first
returns-in_err-first c = rw c.from_residual.ensures (side_lost _ _ _ _ _ _ c.in_err-first.ensures)

pub past_reach-requires-clause-row_2 : goal.past_reach-requires-clause-row_2
past_reach-requires-clause-row_2 c = (if_some _ c.in_ok-first.ensures (past_entry_rows _ _ _ _ c.requires.row_2)).row

pub returns-in_err-second : goal.returns-in_err-second
returns-in_err-second c = rw c.from_residual-in_err-second.ensures (side_lost_later _ _ _ _ _ _ c.in_ok-first.ensures c.in_err-second.ensures)

pub past_span-requires-clause-row_2 : goal.past_span-requires-clause-row_2
past_span-requires-clause-row_2 c = let first = if_some _ c.in_ok-first.ensures (past_entry_rows _ _ _ _ c.requires.row_2) in
    (if_some _ c.in_ok-second.ensures (past_reach_rows _ _ _ _ first)).row

pub returns : goal.returns
returns c = c.past_span.ensures ∙ side_found _ _ _ _ _ _ c.in_ok-first.ensures c.in_ok-second.ensures
