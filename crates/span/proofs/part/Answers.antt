-- `part` multiplies the set size as often as the exponent says: after k turns the product is its k-th power.
use mathlib.Core.Path.{◌≡◌, sym, ◌∙◌}
use Prim.Native.Nat.{ℕ, suc, ◌*◌, ◌^◌, ◌≤◌, ◌<◌}
use native.Mathlib.Nat.{pow-suc, pow-le-pow_left, pow-le-pow_right}
use native.Mathlib.Omega.{arith}
use Rattle.laws.specs.Fourth.{fourth_pow}
use Rattle.span.specs.Constants.{exponent}
use Rattle.span.proofs.part.Goals as goal

-- a power of 16 bits up to the exponent has 64 bits
small : (w k : ℕ) → w ≤ 65535 → k < exponent → w ^ k * w < 2 ^ 64
small w k h l =
    omega (arith, sym (pow-suc w k), pow-le-pow_left h (suc k), pow-le-pow_right {n = 65535} (omega arith) {i = suc k} {j = exponent} (omega arith))

pub overflow_mul-r : goal.overflow_mul-r
overflow_mul-r c = record { fits = rw c.loop.invariant.1 (small c.args.set_size c.loop.counter (omega arith) (omega arith)) }

pub returns : goal.returns
returns c = let full : c.loop.counter ≡ exponent = omega arith in c.loop.invariant.1 ∙ (rw full (sym (fourth_pow _)))
