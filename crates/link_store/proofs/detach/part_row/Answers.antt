-- `part_row`: a row of the tree stands alone.
use Rattle.link_store.specs.DetachLaws.{other_parted, tree_parted}
use Rattle.renumber.specs.NumberWalk.{written}
use Rattle.link_store.proofs.detach.part_row.Goals as goal

pub returns-then-entry-tree : goal.returns-then-entry-tree
returns-then-entry-tree c = let a = c.args in other_parted a.tree a.w (written a.fields.now a.numbers.now a.ancestors.now) c.entry.ensures c.if-entry-tree.true

pub returns : goal.returns
returns c = let a = c.args in tree_parted a.tree a.w (written a.fields.now a.numbers.now a.ancestors.now) _ _ _ c.entry.ensures c.if-entry-tree.false c.stand_alone.ensures.fields c.stand_alone.ensures.numbers c.stand_alone.ensures.ancestors
