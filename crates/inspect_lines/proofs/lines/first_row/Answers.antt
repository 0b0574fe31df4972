-- `first_row`: from z on, the steps that are left lead to the first row.
use Rattle.std.specs.Prelude.{◌≡◌, ◌+◌, ◌-◌}
use Rattle.std.proofs.Common.{sym, ◌∙◌, arith}
use Rattle.inspect_tree.specs.Columns.{parents, depths}
use Rattle.inspect_lines.specs.Marks.{top_start, top_on}
use Rattle.inspect_lines.proofs.lines.first_row.Goals as goal

pub loop-init : goal.loop-init
loop-init c = let all : c.field-end.result - 0 ≡ c.field-end.result = omega arith in
    rw (all, c.field-end.ensures) (top_start (parents c.args.fields.now) (depths c.args.fields.now) c.args.x)

pub loop-preserved : goal.loop-preserved
loop-preserved c = let one : c.field-end.result - (c.loop.counter + 1) ≡ c.field-end.result - c.loop.counter - 1 = omega arith in
    rw (one, c.field-p.ensures) (sym (top_on (parents c.args.fields.now) (c.field-end.result - c.loop.counter) c.loop.z (λ e. omega arith) (λ e. c.if-p.false (c.field-p.ensures ∙ e))) ∙ c.loop.invariant)
