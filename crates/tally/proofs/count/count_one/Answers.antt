-- `count_one`: one more, then the last entry.
use Rattle.tally.specs.CountLaws.{counted_by}
use Rattle.tally.proofs.count.count_one.Goals as goal

pub raise-requires : goal.raise-requires
raise-requires c = c.requires.1

pub returns : goal.returns
returns c = let a = c.args in counted_by a.tally.now a.label c.raise.ensures c.most_of-most.ensures c.put.ensures
