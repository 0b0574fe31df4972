-- `number`: the two tests say exactly that the number is within the limit.
use mathlib.Core.Path.{◌≡◌, sym}
use Prim.Native.Nat.{ℕ, ◌+◌, ◌*◌, ◌/◌, ◌≤◌, ◌<◌}
use native.Mathlib.Nat.{le-div_iff_mul-le, div-lt_iff_lt-mul}
use native.Mathlib.Omega.{arith}
use Rattle.span.specs.Constants.{limit, over}
use Rattle.span.specs.Numbers.{capped}
use Rattle.span.specs.NumberLaws.{capped_within, capped_past}
use Rattle.span.proofs.number.Goals as goal

parts_within : (k x : ℕ) → 0 < k → x ≤ limit / k → k * x ≤ limit
parts_within k x h l = omega (arith, (le-div_iff_mul-le {k = k} {x = x} {y = limit} h).0 l)

parts-past : (k x : ℕ) → 0 < k → limit / k < x → limit < k * x
parts-past k x h l = omega (arith, (div-lt_iff_lt-mul {k = k} {x = limit} {y = x} h).0 l)

within : (start k x f : ℕ) → x ≡ f → start + k * x ≤ limit → start + k * x ≡ capped (start + k * f)
within start k x f e h = rw (← e) (sym (capped_within (start + k * x) h))

past : (start k x f : ℕ) → x ≡ f → limit < start + k * x → over ≡ capped (start + k * f)
past start k x f e h = rw (← e) (sym (capped_past (start + k * x) h))

pub returns-then-start-far : goal.returns-then-start-far
returns-then-start-far c = within
    _
    _
    _
    _
    c.part-one.ensures
    (omega (arith, parts_within _ _ c.requires c.if-one-parts.true))

pub returns-else-start-far : goal.returns-else-start-far
returns-else-start-far c = past _ _ _ _ c.part-one.ensures (omega arith)

pub returns-else-one-parts : goal.returns-else-one-parts
returns-else-one-parts c = past _ _ _ _ c.part-one.ensures (omega (arith, parts-past _ _ c.requires c.if-one-parts.false))
