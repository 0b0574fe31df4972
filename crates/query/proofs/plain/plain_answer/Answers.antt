-- `plain_answer`: the stored answer, whose row is sound where there is one, and the plain one from it.
use Rattle.ancestry.specs.AnswerRows.{if_some, answer_row}
use Rattle.query.specs.PlainAnswer.{plain_answer}
use Rattle.query.proofs.plain.plain_answer.Goals as goal

pub returns-in_err-f : goal.returns-in_err-f
unfolding plain_answer
returns-in_err-f c = rw (c.from_residual.ensures, ← c.in_err-f.ensures)

pub plain_from-requires-clause-row : goal.plain_from-requires-clause-row
plain_from-requires-clause-row c = if_some _ c.in_ok-f.ensures (answer_row _ _ _ c.requires)

pub returns : goal.returns
unfolding plain_answer
returns c = rw (c.plain_from.ensures, ← c.in_ok-f.ensures)
