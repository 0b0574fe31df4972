-- `number_walk` steps as its definition does.
use Rattle.std.specs.Prelude.{◌+◌, ◌-◌}
use Rattle.std.proofs.Common.{◌∙◌, sym, arith}
use native.Mathlib.Nat.{sub-zero}
use Rattle.renumber.specs.NumberWalkLaws.{number_on, number_end}
use Rattle.renumber.specs.NumberWalk.{written}
use Rattle.renumber.proofs.number_walk.number_walk.Goals as goal

pub loop-init : goal.loop-init
loop-init c = (omega arith, (omega arith, (omega arith, rw sub-zero)))

pub loop-preserved : goal.loop-preserved
loop-preserved c = let l = c.loop in let n = c.args.steps in
    (omega arith, (omega arith, (omega arith, l.invariant.1.1.1 ∙ number_on (written l.fields l.numbers l.ancestors) _ l.t _ (n - l.counter) (n - (l.counter + 1)) (omega arith) c.number_turn-t.ensures)))

pub returns : goal.returns
returns c = let l = c.loop in sym (l.invariant.1.1.1 ∙ number_end (written l.fields l.numbers l.ancestors) l.t _ (omega arith))
