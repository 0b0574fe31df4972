-- `mark_line`: what is marked so far, and what is met from z on, is what was marked before and what is met from the root.
use Rattle.std.specs.Prelude.{◌≡◌, ◌+◌, ◌-◌}
use Rattle.std.proofs.Common.{arith}
use Rattle.inspect_tree.specs.Columns.{parents, depths}
use Rattle.inspect_lines.specs.Marks.{marking_start, marking_step}
use Rattle.inspect_lines.proofs.lines.mark_line.Goals as goal

pub loop-init : goal.loop-init
loop-init c = let args = c.args in
    let all : c.field-end.result - 0 ≡ c.field-end.result = omega arith in
    rw (all, c.field-end.ensures) (marking_start (parents args.fields.now) (depths args.fields.now) args.root args.s.now)

pub loop-preserved : goal.loop-preserved
loop-preserved c = let one : c.field-end.result - (c.loop.counter + 1) ≡ c.field-end.result - c.loop.counter - 1 = omega arith in
    rw (one, c.put.ensures, c.field-z.ensures) (marking_step c.if-z.false (c.field-end.result - c.loop.counter) (λ e. omega arith) c.loop.invariant)
