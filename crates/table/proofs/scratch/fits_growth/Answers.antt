-- `fits_growth`: the test is that of the definition.
use mathlib.Core.Path.{refl}
use Rattle.table.proofs.scratch.fits_growth.Goals as goal

pub returns : goal.returns
returns c = refl
