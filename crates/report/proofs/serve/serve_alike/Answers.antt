-- `serve_alike` is the report of alike.
use Rattle.report.specs.ReportLaws.{alike_report}
use Rattle.report.proofs.serve.serve_alike.Goals as goal

pub returns : goal.returns
returns c w = let a = c.args in alike_report _ w a.state a.x a.y c.compared.result _ c.are_alike-c.ensures c.compared.ensures
