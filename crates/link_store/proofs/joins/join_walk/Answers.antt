-- `join_walk` turns as its definition does.
use Rattle.std.specs.Prelude.{◌+◌, ◌-◌, ◌*◌}
use Rattle.std.proofs.Common.{◌∙◌, sym, arith}
use Rattle.table.specs.Lent.{parts_in_mut}
use Rattle.link_store.specs.Sort.{cell_at}
use Rattle.link_store.specs.WalkLaws.{walk_on, walk_end}
use Rattle.link_store.proofs.joins.join_walk.Goals as goal

pub loop-preserved : goal.loop-preserved
loop-preserved c = let l = c.loop in let a = c.args in let s = l.invariant.1.0 in let e = c.join_turn-j.ensures in let h = l.invariant.0 in (
  record { fields = e.lengths.fields ∙ h.fields; numbers = e.lengths.numbers ∙ h.numbers; levels = e.lengths.levels ∙ h.levels; ancestors = e.lengths.ancestors ∙ h.ancestors },
  (
    record { fields = e.loans.fields ∙ s.fields; numbers = e.loans.numbers ∙ s.numbers; levels = e.loans.levels ∙ s.levels; ancestors = e.loans.ancestors ∙ s.ancestors },
    l.invariant.1.1 ∙ walk_on (cell_at a.heads.now) (cell_at a.links.now) a.n a.x a.door (parts_in_mut l.parts) _ l.j _ (2 * a.n - l.counter) (2 * a.n - (l.counter + 1)) (omega arith) e.walked,
  ),
)

pub returns-clause-stored : goal.returns-clause-stored
returns-clause-stored c = let l = c.loop in let a = c.args in sym (l.invariant.1.1 ∙ walk_end (cell_at a.heads.now) (cell_at a.links.now) a.n a.x a.door (parts_in_mut l.parts) l.j (2 * a.n - l.counter) (omega arith))
