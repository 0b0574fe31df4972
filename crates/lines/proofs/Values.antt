-- What a function is told of an array of signed values: each fits its bits.
use mathlib.Core.List.{List, [], ◌∷◌}
use Prim.Native.Nat.{zero, suc}
use native.Mathlib.Omega.{arith}
use mir.Syntax.{w32}
use mir.Val.{Val}
use lib.IntN.{ℤ}
use lib.Signed.{nat_abs-le}
use denote.Array.{each}
use denote.Shadow.{shadow}
use denote.Signed.{SInt}
use Rattle.lines.specs.LineLaws.{Small}

pub values_small : (zs : List ℤ) (us : List Val) → shadow (each ℤ (SInt w32).own_val zs us) → Small zs
values_small [] us g i h = absurd (omega arith)
values_small (z ∷ zs) [] g i h = absurd g
values_small (z ∷ zs) (u ∷ us) g zero h = omega (arith, nat_abs-le z g.0.1)
values_small (z ∷ zs) (u ∷ us) g (suc i) h = values_small zs us g.1 i (omega arith)
