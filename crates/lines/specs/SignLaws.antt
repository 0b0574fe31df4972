-- A whole number's sign, then the digits of its magnitude.
use Rattle.std.specs.Prelude.{◌≡◌, refl, true, false, ℕ, ℤ, pos, negsuc, nat_abs}
use Rattle.std.proofs.Common.{arith, ltb-true}
use Prim.Native.Char.{code}
use Rattle.std.specs.Int.Signed.{lt_z}
use Rattle.lines.specs.declared.Text.{Text}
use Rattle.lines.specs.Decimal.{digits, signed}
use Rattle.lines.specs.Text.{push, append}

pub append_below_zero : (t : Text) (v : ℤ) → lt_z v (pos 0) ≡ true → append (push t (code "-")) (digits (nat_abs v)) ≡ append t (signed v)
unfolding append
append_below_zero t (pos n) h = absurd (omega (arith, ltb-true n 0 h))
append_below_zero t (negsuc n) h = refl

pub append_not_below_zero : (t : Text) (v : ℤ) → lt_z v (pos 0) ≡ false → append t (digits (nat_abs v)) ≡ append t (signed v)
append_not_below_zero t (pos n) h = refl
append_not_below_zero t (negsuc n) h = let e : ◌≡◌ {A = ℕ} 0 1 = cc in absurd (omega arith)
