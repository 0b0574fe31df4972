-- `keep_parent`: a row of the tree keeps its parent.
use Rattle.link_store.specs.DetachLaws.{other_kept, tree_kept}
use Rattle.link_store.proofs.detach.keep_parent.Goals as goal

pub returns-then-entry-tree : goal.returns-then-entry-tree
returns-then-entry-tree c = let a = c.args in other_kept a.ancestors.now a.tree a.w _ c.entry.ensures c.if-entry-tree.true

pub returns : goal.returns
returns c = let a = c.args in tree_kept a.ancestors.now a.tree a.w a.fields.now _ c.entry.ensures c.if-entry-tree.false c.field-parent.ensures c.put_field.ensures
