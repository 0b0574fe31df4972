-- `read_parts`: each column from its place.
use Rattle.table.specs.Lent.{parts_in_mut}
use Rattle.bytes_tree.specs.Column.{numbers_at, levels_at}
use Rattle.bytes_tree.specs.TreeLaws.{parts_read}
use Rattle.bytes_tree.proofs.tree.read_parts.Goals as goal

pub returns-clause-held : goal.returns-clause-held
unfolding numbers_at levels_at
returns-clause-held c = parts_read c.args.b.now (parts_in_mut c.args.parts.now) c.requires.fits c.read.ensures c.read-2.ensures c.read-3.ensures c.read-4.ensures
