-- `tree_of` reads one entry.
use Rattle.table.proofs.tree.tree_of.Goals as goal

pub returns : goal.returns
returns c = rw c.entry.ensures at c.in_use.ensures
