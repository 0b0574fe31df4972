-- Full counts, and entries after a store.
use Rattle.std.specs.Prelude.{◌≡◌, Bool, List, ℕ, ◌+◌, ◌-◌, ◌≤◌, ◌<◌, length, get_or, replicate}
use Rattle.std.proofs.Math.Path.{refl}
use Rattle.std.proofs.Common.{ap, ◌∙◌, add-one, arith}
use Rattle.std.proofs.Math.Decide.{dec_lt}
use Rattle.std.proofs.Math.Dec.{eqb}
use Rattle.std.proofs.lemmas.List.{length-replicate, get_or-replicate}
use Rattle.std.proofs.Math.ListN.{get_or-eq_default}
use Rattle.laws.specs.Test.{Says, holds, fails, bit, pick, says_eqb}
use Rattle.laws.specs.Sum.{count_le}
use Rattle.cells.specs.Cells.{read_put}
use Rattle.tally.specs.Tally.{carriers}
use Rattle.tally.specs.Count.{raised, lowered}

module _ (label : ℕ → ℕ) where
  -- no node has no label
  pub carriers_none : (k : ℕ) → carriers label 0 k ≡ 0
  unfolding carriers
  carriers_none k = refl

  -- one node more
  pub carriers_more : (n k : ℕ) → carriers label (n + 1) k ≡ bit (eqb (label n) k) + carriers label n k
  unfolding carriers
  carriers_more n k = rw (add-one n)

  pub carriers_most : (n k : ℕ) → carriers label n k ≤ n
  unfolding carriers
  carriers_most n k = count_le (λ x. eqb (label x) k) n

-- an entry after one was raised, or lowered
module _ (w : List ℕ) (k j : ℕ) (l : j < length w) where
  pub raised_at : get_or (raised w k) j 0 ≡ bit (eqb k j) + get_or w j 0
  raised_at = read_put w k (get_or w k 0 + 1) j l ∙ go (says_eqb k j)
    where
      go : {b : Bool} → Says (k ≡ j) b → pick b (get_or w k 0 + 1) (get_or w j 0) ≡ bit b + get_or w j 0
      go (holds e) = rw e (omega arith)
      go (fails d) = omega arith

  pub lowered_at : 1 ≤ get_or w k 0 → get_or (lowered w k) j 0 + bit (eqb k j) ≡ get_or w j 0
  lowered_at m = rw (read_put w k (get_or w k 0 - 1) j l) (go (says_eqb k j))
    where
      go : {b : Bool} → Says (k ≡ j) b → pick b (get_or w k 0 - 1) (get_or w j 0) + bit b ≡ get_or w j 0
      go (holds e) = let i : get_or w k 0 ≡ get_or w j 0 = ap (λ (v : ℕ). get_or w v 0) e in omega (arith, m)
      go (fails d) = omega arith

-- a list of zeros reads as 0 everywhere
pub zero_cells : (n k : ℕ) → ◌≡◌ {A = ℕ} (get_or (replicate n 0) k 0) 0
zero_cells n k = elim (dec_lt k n) [
  | yes l ↦ get_or-replicate n k 0 0 l
  | no l ↦ let past : length (replicate {A = ℕ} n 0) ≤ k = omega (arith, length-replicate {A = ℕ} n 0) in get_or-eq_default (replicate n 0) 0 past
]
