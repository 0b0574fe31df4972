-- `are_trees` is both passes.
use Rattle.inspect_laws.specs.Trees.{are_trees}
use Rattle.inspect_laws.proofs.All.{answer_no, answer_yes}
use Rattle.inspect_tree.proofs.trees.are_trees.Goals as goal

pub returns-then-not-are_parents : goal.returns-then-not-are_parents
unfolding are_trees
returns-then-not-are_parents c = rw (answer_no c.are_parents.ensures c.if-not-are_parents.true-raw)

pub returns : goal.returns
unfolding are_trees
returns c = rw (answer_yes c.are_parents.ensures c.if-not-are_parents.false-raw, c.are_links.ensures)
