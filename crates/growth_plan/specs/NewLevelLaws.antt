-- Two signed tests of a level say whether it and the next level down, or up, lie within the limits.
use Rattle.std.specs.Prelude.{◌≡◌, refl, Bool, true, false, ◌&&◌, ℕ, zero, suc, ◌-◌, ℤ, pos, negsuc, nat_abs, ◌+ℤ◌, ◌-ℤ◌, Some, None}
use Rattle.std.proofs.Common.{arith, SFits, ltb-true, ltb-false, le-leb, leb-true}
use Rattle.std.proofs.Math.IntN.{suc_ℤ, pred_ℤ, +ℤ_one, -ℤ_one}
use Rattle.std.specs.Int.Signed.{lt_z}
use Rattle.std.specs.Int.{w32}
use Rattle.std.proofs.lemmas.Bool.{lt-leb}
use Rattle.laws.specs.Test.{pick}
use Rattle.table.specs.Level.{is_level, level_limit}
use Rattle.table.proofs.LevelLaws.{level_fits}
use Rattle.growth_plan.specs.Level.{level_from}

-- the least and the greatest level
least_out : (z : ℤ) → lt_z z (negsuc (level_limit - 1)) ≡ true → is_level z ≡ false
least_out (pos n) h = let e : ◌≡◌ {A = ℕ} 0 1 = cc in absurd (omega arith)
least_out (negsuc n) h = lt-leb (suc n) level_limit (omega (arith, ltb-true (level_limit - 1) n h))

greatest_out : (z : ℤ) → lt_z (pos level_limit) z ≡ true → is_level z ≡ false
greatest_out (pos n) h = lt-leb n level_limit (omega (arith, ltb-true level_limit n h))
greatest_out (negsuc n) h = let e : ◌≡◌ {A = ℕ} 0 1 = cc in absurd (omega arith)

-- a leaf's level -----------------------------------------------------------------

suc_high : (z : ℤ) → lt_z (pos (level_limit - 1)) z ≡ true → is_level (suc_ℤ z) ≡ false
suc_high (pos n) h = lt-leb (suc n) level_limit (omega (arith, ltb-true (level_limit - 1) n h))
suc_high (negsuc n) h = let e : ◌≡◌ {A = ℕ} 0 1 = cc in absurd (omega arith)

suc_read : (z : ℤ) → lt_z z (negsuc (level_limit - 1)) ≡ false → lt_z (pos (level_limit - 1)) z ≡ false → is_level z ≡ true
suc_read (pos n) h k = le-leb n level_limit (omega (arith, ltb-false (level_limit - 1) n k))
suc_read (negsuc n) h k = le-leb (suc n) level_limit (omega (arith, ltb-false (level_limit - 1) n h))

suc_within : (z : ℤ) → lt_z z (negsuc (level_limit - 1)) ≡ false → lt_z (pos (level_limit - 1)) z ≡ false → is_level (suc_ℤ z) ≡ true
suc_within (pos n) h k = le-leb (suc n) level_limit (omega (arith, ltb-false (level_limit - 1) n k))
suc_within (negsuc zero) h k = refl
suc_within (negsuc (suc n)) h k = le-leb (suc n) level_limit (omega (arith, ltb-false (level_limit - 1) (suc n) h))

-- a new root's level ------------------------------------------------------------

pred_low : (z : ℤ) → lt_z z (negsuc (level_limit - 2)) ≡ true → is_level (pred_ℤ z) ≡ false
pred_low (pos n) h = let e : ◌≡◌ {A = ℕ} 0 1 = cc in absurd (omega arith)
pred_low (negsuc n) h = lt-leb (suc (suc n)) level_limit (omega (arith, ltb-true (level_limit - 2) n h))

pred_read : (z : ℤ) → lt_z z (negsuc (level_limit - 2)) ≡ false → lt_z (pos level_limit) z ≡ false → is_level z ≡ true
pred_read (pos n) h k = le-leb n level_limit (omega (arith, ltb-false level_limit n k))
pred_read (negsuc n) h k = le-leb (suc n) level_limit (omega (arith, ltb-false (level_limit - 2) n h))

pred_within : (z : ℤ) → lt_z z (negsuc (level_limit - 2)) ≡ false → lt_z (pos level_limit) z ≡ false → is_level (pred_ℤ z) ≡ true
pred_within (pos zero) h k = refl
pred_within (pos (suc n)) h k = le-leb n level_limit (omega (arith, ltb-false level_limit (suc n) k))
pred_within (negsuc n) h k = le-leb (suc (suc n)) level_limit (omega (arith, ltb-false (level_limit - 2) n h))

-- the answers ---------------------------------------------------------------------

not_read : (z w : ℤ) → is_level z ≡ false → None ≡ level_from z w
unfolding level_from
not_read z w e = rw e

not_made : (z w : ℤ) → is_level w ≡ false → None ≡ level_from z w
unfolding level_from
not_made z w e = rw e (go (is_level z))
  where
    go : (b : Bool) → None ≡ pick (b && false) (Some w) None
    go true = refl
    go false = refl

-- both are levels
pub record Made (z w : ℤ) : Type 0 where
  pub read : is_level z ≡ true
  pub made : is_level w ≡ true

pub made_at : {z w : ℤ} → Made z w → Some w ≡ level_from z w
unfolding level_from
made_at m = rw (m.read, m.made)

pub made_fits : {z w : ℤ} → Made z w → SFits w32 w
made_fits {w = w} m = level_fits w (leb-true (nat_abs w) level_limit m.made)

module _ {y z : ℤ} (same : y ≡ z) where
  pub leaf_low : lt_z y (negsuc (level_limit - 1)) ≡ true → None ≡ level_from z (z +ℤ pos 1)
  leaf_low h = not_read z (z +ℤ pos 1) (least_out z (rw same at h))

  pub leaf_high : lt_z (pos (level_limit - 1)) y ≡ true → None ≡ level_from z (z +ℤ pos 1)
  leaf_high h = rw +ℤ_one (not_made z (suc_ℤ z) (suc_high z (rw same at h)))

  pub leaf_within : lt_z y (negsuc (level_limit - 1)) ≡ false → lt_z (pos (level_limit - 1)) y ≡ false → Made z (z +ℤ pos 1)
  leaf_within h k = record { read = suc_read z (rw same at h) (rw same at k); made = rw +ℤ_one (suc_within z (rw same at h) (rw same at k)) }

  pub root_low : lt_z y (negsuc (level_limit - 2)) ≡ true → None ≡ level_from z (z -ℤ pos 1)
  root_low h = rw -ℤ_one (not_made z (pred_ℤ z) (pred_low z (rw same at h)))

  pub root_high : lt_z (pos level_limit) y ≡ true → None ≡ level_from z (z -ℤ pos 1)
  root_high h = not_read z (z -ℤ pos 1) (greatest_out z (rw same at h))

  pub root_within : lt_z y (negsuc (level_limit - 2)) ≡ false → lt_z (pos level_limit) y ≡ false → Made z (z -ℤ pos 1)
  root_within h k = record { read = pred_read z (rw same at h) (rw same at k); made = rw -ℤ_one (pred_within z (rw same at h) (rw same at k)) }
