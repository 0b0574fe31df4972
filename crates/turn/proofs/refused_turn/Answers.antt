-- `refused_turn` prints the line of the refusal.
use Rattle.std.proofs.Common.{ap, ◌∙◌, ◌≡◌}
use Rattle.log_fields.specs.Fault.{number_of}
use Rattle.report.specs.Printed.{printed_of, printed_refusal}
use Rattle.turn.specs.SessionLaws.{refused_step}
use Rattle.turn.proofs.refused_turn.Goals as goal

pub returns-clause-step : goal.returns-clause-step
returns-clause-step c t w =
    let a = c.args in
    let shown : printed_of c.refused-shown.result ≡ printed_refusal (number_of a.fault) = c.refused-shown.ensures ∙ ap printed_refusal c.from.ensures in
    rw c.goes_on.ensures (refused_step t w c.line.result a.reading a.next (number_of a.fault) c.refused-shown.result shown c.line.ensures.text)
