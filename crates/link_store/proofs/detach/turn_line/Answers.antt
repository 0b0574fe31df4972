-- `turn_line` goes up from row to row.
use Rattle.std.specs.Prelude.{◌+◌, ◌-◌}
use Rattle.std.proofs.Common.{◌∙◌, sym, arith}
use Rattle.link_store.specs.DetachLaws.{turn_top, turn_on, turn_end}
use Rattle.link_store.proofs.detach.turn_line.Goals as goal

pub returns-then-above : goal.returns-then-above
returns-then-above c = let l = c.loop in let a = c.args in sym (l.invariant ∙ turn_top (a.n - l.counter) (a.n - (l.counter + 1)) l.fields _ l.z l.under (omega arith) c.field-above.ensures c.if-above.true c.put_field.ensures)

pub loop-preserved : goal.loop-preserved
loop-preserved c = let l = c.loop in let a = c.args in l.invariant ∙ turn_on (a.n - l.counter) (a.n - (l.counter + 1)) l.fields _ l.z l.under (omega arith) c.field-above.ensures c.if-above.false c.put_field.ensures

pub returns : goal.returns
returns c = let l = c.loop in let a = c.args in sym (l.invariant ∙ turn_end (a.n - l.counter) l.fields _ l.z l.under (omega arith) c.put_field-2.ensures)
