-- `is_compressed`: both passes answer their test of rule 2.
use Rattle.inspect_laws.proofs.All.{answer_no, answer_yes}
use Rattle.inspect_laws.specs.Compressed.{is_compressed}
use Rattle.inspect_tree.specs.Stored.{linked_range}
use Rattle.std.proofs.Common.{rules}
use Rattle.inspect_tree.proofs.compressed.is_compressed.Goals as goal

pub returns-then-not-are_linked : goal.returns-then-not-are_linked
unfolding is_compressed
returns-then-not-are_linked c = rw (answer_no c.are_linked.ensures c.if-not-are_linked.true-raw)

pub are_sizes-requires : goal.are_sizes-requires
are_sizes-requires c = record { in_range = linked_range c.requires.stored (answer_yes c.are_linked.ensures c.if-not-are_linked.false-raw); n_in_bounds = search rules }

pub returns : goal.returns
unfolding is_compressed
returns c = rw (answer_yes c.are_linked.ensures c.if-not-are_linked.false-raw) c.are_sizes.ensures
