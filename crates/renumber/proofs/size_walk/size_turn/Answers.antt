-- `size_turn` finds the next place, then stores.
use Rattle.renumber.specs.SizeWalk.{size_turn}
use Rattle.renumber.proofs.size_walk.size_turn.Goals as goal

pub returns-then-t : goal.returns-then-t
unfolding size_turn
returns-then-t c = rw (c.one_more.ensures, c.enter_size.ensures, c.arrival-p.ensures, c.if-t.true)

pub returns : goal.returns
unfolding size_turn
returns c = rw (c.offer.ensures, c.leave_size.ensures, c.arrival-p.ensures, c.if-t.false)
