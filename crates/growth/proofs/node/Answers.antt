-- `node`: the count is one more than the row.
use Rattle.growth.proofs.node.Goals as goal

pub returns : goal.returns
returns c = rw c.one_more.ensures
