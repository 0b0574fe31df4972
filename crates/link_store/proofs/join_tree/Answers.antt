-- `join_tree` does its three parts in their order.
use Rattle.std.specs.Prelude.{length}
use Rattle.table.specs.Lent.{parts_in, parts_in_mut}
use Rattle.link_store.specs.JoinedTreeLaws.{tree_joined, sorted_same}
use Rattle.link_store.proofs.join_tree.Goals as goal

pub returns-clause-stored : goal.returns-clause-stored
returns-clause-stored c = let a = c.args in
    tree_joined (parts_in_mut a.parts.now) (length a.links.now) a.n a.tree a.x a.v a.door _ _ _ _ _ _
    (sorted_same (parts_in c.read-lent.result) (parts_in_mut a.parts.now) (length a.links.now) a.n a.tree a.x c.read-lent.ensures c.sort_rows.ensures) c.detach.ensures c.join_walk.ensures.stored
