-- `plain_from`: the stored answer is kept, what is read is not sound, or the line goes on below it.
use Rattle.std.proofs.Common.{sym, ◌∙◌}
use Rattle.query.specs.PlainAnswer.{plain_from}
use Rattle.query.specs.PlainAnswerRows.{is_read_lem}
use Rattle.query.specs.PlainAnswerLaws.{plain_lowered, plain_kept}
use Rattle.query.proofs.plain.plain_from.Goals as goal

pub returns-then-not-is_on_line : goal.returns-then-not-is_on_line
returns-then-not-is_on_line c = sym (plain_kept _ _ _ _ _ _ (sym c.is_on_line.ensures ∙ c.if-not-is_on_line.true))

pub returns-then-not-is_read : goal.returns-then-not-is_read
unfolding plain_from
returns-then-not-is_read c = let line = sym c.is_on_line.ensures ∙ c.if-not-is_on_line.false in
    let read = sym c.is_read.ensures ∙ c.if-not-is_read.true in
    rw (read, line)

pub lowered-requires-clause-read : goal.lowered-requires-clause-read
lowered-requires-clause-read c = is_read_lem _ _ _ _ _ (sym c.is_read.ensures ∙ c.if-not-is_read.false)

pub returns : goal.returns
returns c = let line = sym c.is_on_line.ensures ∙ c.if-not-is_on_line.false in
    let read = sym c.is_read.ensures ∙ c.if-not-is_read.false in
    c.lowered.ensures ∙ plain_lowered _ _ _ _ _ _ line read
