-- `serve_question` is the report of a question.
use Rattle.report.specs.ReportLaws.{question_report}
use Rattle.report.proofs.serve.serve_question.Goals as goal

pub returns : goal.returns
returns c w =
    let a = c.args in
    question_report _ w a.state a.x a.y c.answered.result _ c.characteristic_ancestors-a.ensures c.answered.ensures
