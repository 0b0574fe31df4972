-- `detach` does its three parts in their order.
use Rattle.link_store.specs.DetachLaws.{detach_all}
use Rattle.renumber.specs.NumberWalk.{written}
use Rattle.link_store.proofs.detach.detach.Goals as goal

pub returns : goal.returns
returns c = let a = c.args in detach_all (written a.fields.now a.numbers.now a.ancestors.now) _ a.n a.tree a.x a.v _ _ c.keep_parents.ensures c.turn_line.ensures c.part_rows.ensures
