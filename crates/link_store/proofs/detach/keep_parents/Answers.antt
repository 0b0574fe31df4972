-- `keep_parents` passes over the rows in use.
use Rattle.std.specs.Prelude.{◌+◌, ◌-◌}
use Rattle.std.proofs.Common.{◌∙◌, sym, add-one, arith}
use Rattle.link_store.specs.DetachLaws.{kept_on, kept_end}
use Rattle.link_store.proofs.detach.keep_parents.Goals as goal

pub loop-w-preserved : goal.loop-w-preserved
loop-w-preserved c = let l = c.loop-w in let a = c.args in l.invariant ∙ kept_on a.ancestors.now a.tree l.fields _ (a.n - l.w) (a.n - (l.w + 1)) l.w (l.w + 1) (omega arith) (add-one l.w) c.keep_parent.ensures

pub returns : goal.returns
returns c = let l = c.loop-w in let a = c.args in sym (l.invariant ∙ kept_end a.ancestors.now a.tree l.fields (a.n - l.w) l.w (omega arith))
