-- `is_face`: the test is that of the definition.
use mathlib.Core.Path.{refl}
use Rattle.growth_plan.proofs.leaf.is_face.Goals as goal

pub returns : goal.returns
returns c = refl
