-- `top_of` walks as its definition does.
use Rattle.std.specs.Prelude.{◌+◌, ◌-◌}
use Rattle.std.proofs.Common.{◌∙◌, sym, arith}
use native.Mathlib.Nat.{sub-zero}
use Rattle.join.specs.ChainLaws.{top_stop, top_long, top_corrupt, top_on}
use Rattle.join.proofs.chain.top_of.Goals as goal

pub loop-init : goal.loop-init
loop-init c = rw sub-zero

pub returns-then-u : goal.returns-then-u
returns-then-u c = let l = c.loop in sym (l.invariant ∙ top_stop _ _ _ l.u l.top _ c.if-u.true)

pub returns-then-not-is_row : goal.returns-then-not-is_row
returns-then-not-is_row c = let l = c.loop in sym (l.invariant ∙ top_corrupt _ _ _ l.u l.top _ c.if-u.false (sym c.if-not-is_row.ensures))

pub loop-preserved : goal.loop-preserved
loop-preserved c = let l = c.loop in let n = c.args.rows.now.count in
    l.invariant ∙ top_on _ _ _ l.u l.top (n - l.counter) (n - (l.counter + 1)) (omega arith) c.if-u.false (sym c.if-not-is_row.ensures) ∙ rw (c.field-u.ensures, c.higher-top.ensures)

pub returns-then-u-2 : goal.returns-then-u-2
returns-then-u-2 c = let l = c.loop in sym (l.invariant ∙ top_stop _ _ _ l.u l.top _ c.if-u-2.true)

pub returns : goal.returns
returns c = let l = c.loop in sym (l.invariant ∙ top_long _ _ _ l.u l.top _ (omega arith) c.if-u-2.false)
