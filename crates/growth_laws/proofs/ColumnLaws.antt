-- The labels and the faces after a growth: those of an old root which takes an opening, and all others as they were. Once, over the column.
use Rattle.std.specs.Prelude.{◌≡◌, refl, Bool, true, false, ◌≢◌, ℕ, ◌≤◌, eqb}
use Rattle.std.proofs.Common.{arith}
use Rattle.laws.specs.Test.{pick, says_false, says_eqb}
use Rattle.table.specs.Rules.{label_limit}
use Rattle.growth_laws.specs.Growth.{Growth, leaf, root, Opens, unnamed, opens, column_after, opened_by}

-- an opened root takes o
module _ (column : ℕ → ℕ) (o : ℕ) where
  pub after_other : (r : ℕ) (named : Bool) (opening : ℕ) {x : ℕ} → x ≢ r → column_after (root r named opening) column o x ≡ column x
  after_other r true opening {x} n = rw (says_false (says_eqb x r) n) refl
  after_other r false opening n = refl

  pub after_kept : (g : Growth) {x : ℕ} → x ≢ opened_by g → column_after g column o x ≡ column x
  after_kept (leaf v f s) n = refl
  after_kept (root r true opening) n = after_other r true opening n
  after_kept (root r false opening) n = refl

  -- a number stays within its limit, where the one that an opened root takes does
  pub after_most : (r : ℕ) (named : Bool) (opening : ℕ) {x limit : ℕ} → (named ≡ true → o ≤ limit) → column x ≤ limit
      → column_after (root r named opening) column o x ≤ limit
  after_most r false opening h m = m
  after_most r true opening {x} {limit} h m = picked (eqb x r)
    where
      picked : (b : Bool) → pick b o (column x) ≤ limit
      picked true = h refl
      picked false = m

-- as an opening does
pub opens_most : {named : Bool} {opening : ℕ} → Opens named opening → named ≡ true → opening ≤ label_limit
opens_most unnamed e = let z : ◌≡◌ {A = ℕ} 0 1 = cc in absurd (omega arith)
opens_most (opens i j) e = j
