-- `nca_table_query`: the question, then its reply.
use Rattle.table.specs.Parts.{parts_of}
use Rattle.replies.specs.Reply.{state_of}
use Rattle.desk_questions.specs.QuestionCallsLaws.{question_misfit, question_served}
use Rattle.desk_questions.proofs.nca_table_query.Goals as goal

pub returns-then-out-ne-ANSWERED_OUT : goal.returns-then-out-ne-ANSWERED_OUT
returns-then-out-ne-ANSWERED_OUT c = let a = c.args in question_misfit (parts_of a.fields.now a.numbers.now a.levels.now a.ancestors.now) (state_of a.count) a.out.now a.x a.y c.from.ensures c.if-out-ne-ANSWERED_OUT.true

pub returns : goal.returns
returns c = let a = c.args in question_served (parts_of a.fields.now a.numbers.now a.levels.now a.ancestors.now) (state_of a.count) a.out.now a.x a.y _ _ c.if-out-ne-ANSWERED_OUT.false c.characteristic_ancestors-answered.ensures c.reply_answered.ensures
