-- `transcribe`: set-up is never refused, and header, fields and last line are the transcript.
use Rattle.transcript.specs.WholeLaws.{set_up_not_refused, set_up_state, opens, transcribed}
use Rattle.transcript.proofs.transcribe.Goals as goal

pub returns-in_default-clause-text : goal.returns-in_default-clause-text
returns-in_default-clause-text c = absurd (set_up_not_refused c.set_up.result _ c.set_up.ensures.outcome c.in_default.is)

pub returns-clause-text : goal.returns-clause-text
returns-clause-text c =
    let state = set_up_state c.set_up.result _ c.set_up.ensures.outcome c.in-Ok.is in
    transcribed c.args.log.now _ _ _ c.read_fields-page.result.reading c.header.result c.end_line.result
    (opens _ _ _ c.set_up.ensures.after c.set_up.ensures.counts state) c.header.ensures.text c.put_text-filled.ensures.text c.read_fields-page.ensures.text c.read_fields-page.ensures.last
    c.end_line.ensures.text c.put_text.ensures.text
