-- `part_rows` passes over the rows in use.
use Rattle.std.specs.Prelude.{◌+◌, ◌-◌}
use Rattle.std.proofs.Common.{◌∙◌, sym, add-one, arith}
use Rattle.renumber.specs.NumberWalk.{written}
use Rattle.link_store.specs.DetachLaws.{parted_on, parted_end}
use Rattle.link_store.proofs.detach.part_rows.Goals as goal

pub loop-row-preserved : goal.loop-row-preserved
loop-row-preserved c = let l = c.loop-row in let a = c.args in l.invariant ∙ parted_on a.tree (written l.fields l.numbers l.ancestors) _ (a.n - l.row) (a.n - (l.row + 1)) l.row (l.row + 1) (omega arith) (add-one l.row) c.part_row.ensures

pub returns : goal.returns
returns c = let l = c.loop-row in let a = c.args in sym (l.invariant ∙ parted_end a.tree (written l.fields l.numbers l.ancestors) (a.n - l.row) l.row (omega arith))
