-- `is_heavy` is the definition's test: a child of exactly half the size is light.
use mathlib.Core.Path.{refl}
use Rattle.renumber.proofs.size_walk.is_heavy.Goals as goal

pub returns : goal.returns
returns c = refl
