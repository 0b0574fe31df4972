-- Two's complement in the arithmetic of 32 bits, and its round trips.
use Rattle.std.specs.Prelude.{◌≡◌, refl, ℕ, ◌-◌, ◌≤◌, ◌<◌, ℤ, pos, negsuc}
use Rattle.std.proofs.Common.{ap, ◌∙◌, arith, to_z, of_z, SFits}
use Rattle.std.proofs.Math.Decide.{dec_lt}
use Rattle.std.specs.Int.{w32}
use Rattle.laws.specs.Test.{says_ltb, says_true, says_false}
use Rattle.byte_numbers.specs.Sign.{signed, unsigned}

pub signed_low : (x : ℕ) → x < 2147483648 → signed x ≡ pos x
unfolding signed
signed_low x h = rw (says_true (says_ltb x 2147483648) h)

pub signed_high : (x : ℕ) → 2147483648 ≤ x → signed x ≡ negsuc (4294967295 - x)
unfolding signed
signed_high x h = rw (says_false (says_ltb x 2147483648) (λ l. omega arith))

-- std's two's complement is this one
pub signed_is : (x : ℕ) → to_z w32 x ≡ signed x
unfolding signed
signed_is x = elim (dec_lt x 2147483648) [
  | yes l ↦ rw (says_true (says_ltb x 2147483648) l)
  | no l ↦ rw (says_false (says_ltb x 2147483648) l) (ap negsuc (omega arith))
]

pub unsigned_is : (z : ℤ) → of_z w32 z ≡ unsigned z
unfolding unsigned
unsigned_is (pos n) = refl
unsigned_is (negsuc n) = omega arith

-- Round trips

pub signed_unsigned : (z : ℤ) → SFits w32 z → signed (unsigned z) ≡ z
unfolding unsigned
signed_unsigned (pos n) f = signed_low n f.sfits
signed_unsigned (negsuc n) f =
    let h : n < 2147483648 = f.sfits in
    let e : 4294967295 - (4294967295 - n) ≡ n = omega arith in
    signed_high (4294967295 - n) (omega arith) ∙ ap negsuc e

pub unsigned_signed : (x : ℕ) → x < 4294967296 → unsigned (signed x) ≡ x
unfolding unsigned
unsigned_signed x h = elim (dec_lt x 2147483648) [
  | yes l ↦ ap unsigned (signed_low x l)
  | no l ↦ ap unsigned (signed_high x (omega arith)) ∙ omega arith
]

pub unsigned_small : (z : ℤ) → SFits w32 z → unsigned z < 4294967296
unfolding unsigned
unsigned_small (pos n) f = let h : n < 2147483648 = f.sfits in omega arith
unsigned_small (negsuc n) f = omega arith
