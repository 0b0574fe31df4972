-- Which capacity parts and a tally fit.
use Rattle.std.specs.Prelude.{◌≡◌, Bool, true, false, ◌≢◌, List, Some, None, ℕ, eqb, length}
use Rattle.std.proofs.Common.{sym, ◌∙◌, arith}
use Rattle.laws.specs.Test.{Says, holds, pick, says_eqb, says_true, says_false}
use Rattle.table.specs.Capacity.{Fits, capacity_of}
use Rattle.table.proofs.CapacityLaws.{fits_capacity, fits_told}
use Rattle.table.specs.Parts.{Parts}
use Rattle.tally.specs.Layout.{tally_length}
use Rattle.tally.specs.Fit.{capacity_with}

module _ (t : Parts) (w : List ℕ) where
  pub with_misfit : length w ≢ tally_length → None ≡ capacity_with t w
  unfolding capacity_with
  with_misfit d = rw (says_false (says_eqb (length w) tally_length) d)

  pub with_tally : length w ≡ tally_length → capacity_of t ≡ capacity_with t w
  unfolding capacity_with
  with_tally e = rw (says_true (says_eqb (length w) tally_length) e)

-- parts and a tally that fit tell their capacity
pub with_told : {c : ℕ} (t : Parts) (w : List ℕ) → Fits c t → length w ≡ tally_length → capacity_with t w ≡ Some c
with_told t w f e = sym (with_tally t w e) ∙ fits_told f

-- and the capacity that was told is one that the parts fit, beside a tally that fits
pub record FitsWith (c : ℕ) (t : Parts) (w : List ℕ) : Type 0 where
  pub parts : Fits c t
  pub tally : length w ≡ tally_length

pub fits_with : (t : Parts) (w : List ℕ) (c : ℕ) → capacity_with t w ≡ Some c → FitsWith c t w
unfolding capacity_with
fits_with t w c = go (eqb (length w) tally_length) (says_eqb (length w) tally_length)
  where
    go : (b : Bool) → Says (length w ≡ tally_length) b → pick b (capacity_of t) None ≡ Some c → FitsWith c t w
    go true (holds l) e = record { parts = fits_capacity t c e; tally = l }
    go false s e = let z : ◌≡◌ {A = ℕ} 0 1 = cc in absurd (omega arith)
