-- `read_tally`: the last column from its place.
use Rattle.bytes_tree.specs.TreeLaws.{tally_read}
use Rattle.bytes_tree.specs.Column.{numbers_at}
use Rattle.bytes_tree.proofs.tree.read_tally.Goals as goal

pub returns : goal.returns
unfolding numbers_at
returns c = tally_read c.args.b.now c.args.tally.now c.requires.tally_len c.read.ensures
