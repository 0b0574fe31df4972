-- `toward_root`: one stored answer, and its branch where there is one and z is above the root.
use Rattle.std.proofs.Common.{eq-eqb, ne_eqb}
use Rattle.alike.specs.PlainParent.{toward_root}
use Rattle.alike.proofs.parent.toward_root.Goals as goal

pub returns-in_default : goal.returns-in_default
unfolding toward_root
returns-in_default c = rw (← c.stored_answer.ensures, c.in_default.is)

pub returns-then-f-z : goal.returns-then-f-z
unfolding toward_root
returns-then-f-z c = rw (← c.in-Some.ensures, eq-eqb c.in-Some.f.nca c.args.z c.if-f-z.true)

pub returns : goal.returns
unfolding toward_root
returns c = rw (← c.in-Some.ensures, ne_eqb c.in-Some.f.nca c.args.z c.if-f-z.false)
