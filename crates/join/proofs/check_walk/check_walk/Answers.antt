-- `check_walk` steps as its definition does.
use Rattle.std.specs.Prelude.{◌+◌, ◌-◌}
use Rattle.std.proofs.Common.{◌∙◌, sym, arith}
use native.Mathlib.Nat.{sub-zero}
use Rattle.join.specs.CheckWalkLaws.{check_on, check_stop, check_end}
use Rattle.join.proofs.check_walk.check_walk.Goals as goal

pub loop-init : goal.loop-init
loop-init c = rw sub-zero

pub returns-in_default : goal.returns-in_default
returns-in_default c = let l = c.loop in let n = c.args.steps in
    sym (l.invariant ∙ check_stop _ _ _ _ _ l.t (n - l.counter) (n - (l.counter + 1)) (omega arith) (sym c.in_default.is ∙ c.check_turn.ensures))

pub loop-preserved : goal.loop-preserved
loop-preserved c = let l = c.loop in let n = c.args.steps in
    l.invariant ∙ check_on _ _ _ _ _ l.t _ (n - l.counter) (n - (l.counter + 1)) (omega arith) c.in-Some.ensures

pub returns : goal.returns
returns c = let l = c.loop in sym (l.invariant ∙ check_end _ _ _ _ _ l.t _ (omega arith))
