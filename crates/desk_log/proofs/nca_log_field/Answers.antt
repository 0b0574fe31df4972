-- `nca_log_field`: the field, then its reply.
use Rattle.desk_log.specs.LogCallsLaws.{field_misfit, field_read}
use Rattle.desk_log.proofs.nca_log_field.Goals as goal

pub returns-then-out-ne-FIELD_OUT : goal.returns-then-out-ne-FIELD_OUT
returns-then-out-ne-FIELD_OUT c = let a = c.args in field_misfit a.log.now a.at a.out.now c.from.ensures c.if-out-ne-FIELD_OUT.true

pub returns : goal.returns
returns c = let a = c.args in field_read a.log.now a.at a.out.now _ _ c.if-out-ne-FIELD_OUT.false c.read_at.ensures c.reply_field.ensures
