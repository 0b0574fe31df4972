-- `store` attaches the leaf and renumbers its head.
use Rattle.join.specs.Store.{joined_at}
use Rattle.join.proofs.store.store.Goals as goal

pub returns : goal.returns
unfolding joined_at
returns c = rw (← c.attach.ensures) c.renumber.ensures
