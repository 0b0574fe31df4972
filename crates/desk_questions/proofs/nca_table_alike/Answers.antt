-- `nca_table_alike`: the comparison, then its reply.
use Rattle.table.specs.Parts.{parts_of}
use Rattle.replies.specs.Reply.{state_of}
use Rattle.desk_questions.specs.QuestionCallsLaws.{alike_misfit, alike_served}
use Rattle.desk_questions.proofs.nca_table_alike.Goals as goal

pub returns-then-out-ne-COMPARED_OUT : goal.returns-then-out-ne-COMPARED_OUT
returns-then-out-ne-COMPARED_OUT c = let a = c.args in alike_misfit (parts_of a.fields.now a.numbers.now a.levels.now a.ancestors.now) (state_of a.count) a.out.now a.x a.y c.from.ensures c.if-out-ne-COMPARED_OUT.true

pub returns : goal.returns
returns c = let a = c.args in alike_served (parts_of a.fields.now a.numbers.now a.levels.now a.ancestors.now) (state_of a.count) a.out.now a.x a.y _ _ c.if-out-ne-COMPARED_OUT.false c.are_alike-compared.ensures c.reply_compared.ensures
