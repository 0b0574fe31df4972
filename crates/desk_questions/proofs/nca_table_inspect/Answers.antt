-- `nca_table_inspect`: the inspection, then its reply.
use Rattle.table.specs.Parts.{parts_of}
use Rattle.replies.specs.Reply.{state_of}
use Rattle.desk_questions.specs.QuestionCallsLaws.{inspection_misfit, inspection_served}
use Rattle.desk_questions.proofs.nca_table_inspect.Goals as goal

pub returns-then-out-ne-INSPECTED_OUT : goal.returns-then-out-ne-INSPECTED_OUT
returns-then-out-ne-INSPECTED_OUT c = let a = c.args in inspection_misfit (parts_of a.fields.now a.numbers.now a.levels.now a.ancestors.now) (state_of a.count) a.tally.now a.out.now a.scratch.now c.from.ensures c.if-out-ne-INSPECTED_OUT.true

pub returns : goal.returns
returns c = let a = c.args in inspection_served (parts_of a.fields.now a.numbers.now a.levels.now a.ancestors.now) (state_of a.count) a.tally.now a.out.now a.scratch.now _ _ _ c.if-out-ne-INSPECTED_OUT.false c.inspect-inspected.ensures c.reply_inspected.ensures
