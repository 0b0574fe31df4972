-- `raise` walks as its definition does.
use Rattle.std.specs.Prelude.{◌+◌, ◌-◌}
use Rattle.std.proofs.Common.{◌∙◌, sym, arith}
use native.Mathlib.Nat.{sub-zero}
use Rattle.join.specs.ChainLaws.{raise_stop, raise_on, raise_end}
use Rattle.join.proofs.chain.raise.Goals as goal

pub loop-init : goal.loop-init
loop-init c = (omega arith, rw sub-zero)

pub returns-then-u : goal.returns-then-u
returns-then-u c = let l = c.loop in sym (l.invariant.1 ∙ raise_stop l.fields l.u _ c.if-u.true)

pub loop-preserved : goal.loop-preserved
loop-preserved c = let l = c.loop in let n = c.args.count in
    (omega arith, l.invariant.1 ∙ raise_on l.fields l.u (n - l.counter) (n - (l.counter + 1)) (omega arith) c.if-u.false ∙ rw (c.field-u.ensures, c.raise_at.ensures))

pub returns : goal.returns
returns c = let l = c.loop in sym (l.invariant.1 ∙ raise_end l.fields l.u _ (omega arith))
