-- `served_turn` prints the line of what was served.
use Rattle.turn.specs.SessionLaws.{served_step}
use Rattle.turn.proofs.served_turn.Goals as goal

pub returns-clause-step : goal.returns-clause-step
returns-clause-step c t w = let a = c.args in served_step t w c.line.result a.reading a.next a.served c.line.ensures.text
