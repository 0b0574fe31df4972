-- `capacity` tells the capacity that the lent parts fit.
use mathlib.Core.Path.{refl}
use native.Mathlib.Omega.{arith}
use Rattle.table.specs.Lent.{parts_in}
use Rattle.table.proofs.CapacityLaws.{capacity_fits, capacity_misfit}
use Rattle.table.proofs.capacity.capacity.Goals as goal

pub returns-then-n-lt1 : goal.returns-then-n-lt1
returns-then-n-lt1 c = capacity_misfit (parts_in c.args.parts.now) (λ f. omega arith)

pub returns-then-n-gt-LARGEST : goal.returns-then-n-gt-LARGEST
returns-then-n-gt-LARGEST c = capacity_misfit (parts_in c.args.parts.now) (λ f. omega arith)

pub returns-then-parts-n : goal.returns-then-parts-n
returns-then-parts-n c = capacity_misfit (parts_in c.args.parts.now) (λ f. omega arith)

pub returns-then-parts-n-2 : goal.returns-then-parts-n-2
returns-then-parts-n-2 c = capacity_misfit (parts_in c.args.parts.now) (λ f. omega arith)

pub returns-then-parts-n-3 : goal.returns-then-parts-n-3
returns-then-parts-n-3 c = capacity_misfit (parts_in c.args.parts.now) (λ f. omega arith)

pub returns : goal.returns
returns c = capacity_fits (parts_in c.args.parts.now) record { least = omega arith; most = omega arith; levels = refl; fields = omega arith; numbers = omega arith; ancestors = omega arith }
