-- `size_walk` steps as its definition does.
use Rattle.std.specs.Prelude.{◌+◌, ◌-◌}
use Rattle.std.proofs.Common.{◌∙◌, sym, arith}
use native.Mathlib.Nat.{sub-zero}
use Rattle.renumber.specs.SizeWalkLaws.{size_on, size_end}
use Rattle.renumber.proofs.size_walk.size_walk.Goals as goal

pub loop-init : goal.loop-init
loop-init c = (omega arith, rw sub-zero)

pub loop-preserved : goal.loop-preserved
loop-preserved c = let l = c.loop in let n = c.args.steps in
    (omega arith, l.invariant.1 ∙ size_on l.fields _ l.t _ (n - l.counter) (n - (l.counter + 1)) (omega arith) c.size_turn-t.ensures)

pub returns : goal.returns
returns c = let l = c.loop in c.leave_size.ensures ∙ sym (l.invariant.1 ∙ size_end l.fields l.t _ (omega arith))
