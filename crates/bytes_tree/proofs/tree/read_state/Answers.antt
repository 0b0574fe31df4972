-- `read_state`: the first number.
use Rattle.bytes_tree.specs.Tree.{state_in}
use Rattle.bytes_tree.proofs.tree.read_state.Goals as goal

pub returns : goal.returns
unfolding state_in
returns c = rw c.word16.ensures
