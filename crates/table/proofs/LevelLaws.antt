-- The two signed tests of a level are the test of its size; words of levels are equal where the levels are; levels and their differences fit 32 bits.
use Rattle.std.specs.Prelude.{◌≡◌, refl, Bool, true, false, cond, ℕ, zero, suc, ◌+◌, ◌-◌, ◌≤◌, eqb, ltb, ℤ, pos, negsuc, nat_abs, ◌+ℤ◌, ◌-ℤ◌, neg_ℤ}
use Rattle.std.proofs.Common.{sym, ap, ◌∙◌, arith, SFits, to_z, of_z, ltb-true, ltb-false, le-leb}
use Rattle.std.proofs.Math.IntN.{sub_ℕ}
use Rattle.std.specs.Int.Signed.{lt_z, le_z, mag}
use Rattle.std.specs.Int.{w32}
use Rattle.std.proofs.lemmas.Int.{to_z-of_z}
use Rattle.std.proofs.lemmas.Bool.{lt-leb}
use Rattle.laws.specs.Test.{Says, fails, says_eq, says_map, says_eqb}
use Rattle.table.specs.Level.{is_level, level_limit, eq_z}

-- `z` is the level as a machine word reads back

below_limit : (z : ℤ) → lt_z z (negsuc (level_limit - 1)) ≡ true → false ≡ is_level z
below_limit (pos n) h = let e : ◌≡◌ {A = ℕ} 0 1 = cc in absurd (omega arith)
below_limit (negsuc n) h = sym (lt-leb (suc n) level_limit (omega (arith, ltb-true (level_limit - 1) n h)))

within_limit : (z : ℤ) → lt_z z (negsuc (level_limit - 1)) ≡ false → le_z z (pos level_limit) ≡ is_level z
within_limit (pos n) h = refl
within_limit (negsuc n) h = sym (le-leb (suc n) level_limit (omega (arith, ltb-false (level_limit - 1) n h)))

pub level_low : {z l : ℤ} → z ≡ l → lt_z z (negsuc (level_limit - 1)) ≡ true → false ≡ is_level l
level_low {z} {l} e h = rw e at (below_limit z h)

pub level_rest : {z l : ℤ} → z ≡ l → lt_z z (negsuc (level_limit - 1)) ≡ false → le_z z (pos level_limit) ≡ is_level l
level_rest {z} {l} e h = within_limit z h ∙ ap is_level e

pub says_eq_z : (a b : ℤ) → Says (a ≡ b) (eq_z a b)
says_eq_z (pos a) (pos b) = says_map (ap pos) (λ e. cc) (says_eqb a b)
says_eq_z (pos a) (negsuc b) = fails (λ e. let z : ◌≡◌ {A = ℕ} 0 1 = cc in omega arith)
says_eq_z (negsuc a) (pos b) = fails (λ e. let z : ◌≡◌ {A = ℕ} 0 1 = cc in omega arith)
says_eq_z (negsuc a) (negsuc b) = says_map (ap negsuc) (λ e. cc) (says_eqb a b)

-- words are equal exactly where the levels are
pub word_eq : (a b : ℤ) → SFits w32 a → SFits w32 b → eqb (of_z w32 a) (of_z w32 b) ≡ eq_z a b
word_eq a b f g = says_eq (λ e. sym (to_z-of_z w32 a f) ∙ ap (to_z w32) e ∙ to_z-of_z w32 b g) (ap (of_z w32)) (says_eqb (of_z w32 a) (of_z w32 b)) (says_eq_z a b)

-- The difference of two levels

cond_abs : (c : Bool) (x y : ℤ) {k : ℕ} → nat_abs x ≤ k → nat_abs y ≤ k → nat_abs (cond c x y) ≤ k
cond_abs true x y p q = p
cond_abs false x y p q = q

sub_abs : (a b : ℕ) → nat_abs (sub_ℕ a b) ≤ suc (a + b)
sub_abs a b = cond_abs (ltb a b) (negsuc (b - suc a)) (pos (a - b)) (omega arith) (omega arith)

add_abs : (a b : ℤ) → nat_abs (a +ℤ b) ≤ suc (nat_abs a + nat_abs b)
add_abs (pos a) (pos b) = omega arith
add_abs (pos a) (negsuc b) = omega (arith, sub_abs a (suc b))
add_abs (negsuc a) (pos b) = omega (arith, sub_abs b (suc a))
add_abs (negsuc a) (negsuc b) = omega arith

pub neg_abs : (b : ℤ) → nat_abs (neg_ℤ b) ≤ nat_abs b
neg_abs (pos zero) = omega arith
neg_abs (pos (suc n)) = omega arith
neg_abs (negsuc n) = omega arith

pub difference_abs : (a b : ℤ) → nat_abs (a -ℤ b) ≤ suc (nat_abs a + nat_abs b)
difference_abs a b = omega (arith, add_abs a (neg_ℤ b), neg_abs b)

-- Words of 32 bits

pub mag_abs : (z : ℤ) → mag z ≤ nat_abs z
mag_abs (pos n) = omega arith
mag_abs (negsuc n) = omega arith

pub level_fits : (z : ℤ) → nat_abs z ≤ level_limit → SFits w32 z
level_fits z h = record { sfits = omega (arith, mag_abs z) }

pub difference_fits : (a b : ℤ) → nat_abs a ≤ level_limit → nat_abs b ≤ level_limit → SFits w32 (a -ℤ b)
difference_fits a b p q = record { sfits = omega (arith, mag_abs (a -ℤ b), difference_abs a b) }
