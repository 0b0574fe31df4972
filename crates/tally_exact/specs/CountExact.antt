-- Full counts of labels that differ at one node.
use Rattle.std.specs.Prelude.{◌≡◌, ◌≢◌, List, ℕ, ◌+◌, ◌≤◌, ◌<◌, eqb, get_or}
use Rattle.std.proofs.Common.{ap, arith}
use Rattle.laws.specs.Test.{bit, says_eqb, says_true}
use Rattle.laws.specs.Sum.{sum_at, sum_one_le}
use Rattle.table.specs.Rules.{label_limit}
use Rattle.tally.specs.Tally.{carriers, Tallied}

-- full counts of labels that differ at one node
pub carriers_at : (label label' : ℕ → ℕ) (n x : ℕ) → x < n → ((y : ℕ) → y < n → y ≢ x → label' y ≡ label y) → (k : ℕ) → carriers label' n k + bit (eqb (label x) k) ≡ carriers label n k + bit (eqb (label' x) k)
unfolding carriers
carriers_at label label' n x l e k = sum_at (λ y. bit (eqb (label' y) k)) (λ y. bit (eqb (label y) k)) n x l (λ y i d. ap (λ (v : ℕ). bit (eqb v k)) (e y i d))

-- the entry of a label that some node carries is not 0
pub has_one : {label : ℕ → ℕ} {n x k : ℕ} {w : List ℕ} → Tallied label n w → x < n → label x ≡ k → k ≤ label_limit → 1 ≤ get_or w k 0
unfolding carriers
has_one {label} {n} {x} {k} t l e m =
    let one : bit (eqb (label x) k) ≡ 1 = rw (says_true (says_eqb (label x) k) e) in omega (arith, t.counts k m, sum_one_le (λ y. bit (eqb (label y) k)) n x l)
