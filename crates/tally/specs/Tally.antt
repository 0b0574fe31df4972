-- A tally by meaning (02, "Panel tally": "holds, for each panel from 0 to 9,999, how many images carry it, and last which panel has the most, the smaller
-- number where two tie").
use Rattle.std.specs.Prelude.{◌≡◌, List, ℕ, ◌≤◌, ◌<◌, eqb, length, get_or}
use Rattle.laws.specs.Sum.{count_to}
use Rattle.table.specs.Rules.{label_limit}
use Rattle.table.specs.Table.{Table}
use Rattle.tally.specs.Layout.{most_place, tally_length}

-- how many of the nodes below n carry label k: the full count
unfoldable pub carriers : (ℕ → ℕ) → ℕ → ℕ → ℕ
carriers label n k = count_to (λ x. eqb (label x) k) n

-- k is the label with the most, by these counts, and the smaller of two; where all counts are 0 that is label 0
pub record Most (count : ℕ → ℕ) (k : ℕ) : Type 0 where
  pub label : k ≤ label_limit
  pub most : (j : ℕ) → j ≤ label_limit → count j ≤ count k
  pub smaller : (j : ℕ) → j < k → count j < count k

-- the tally w is true of n nodes with these labels
pub record Tallied (label : ℕ → ℕ) (n : ℕ) (w : List ℕ) : Type 0 where
  pub long : length w ≡ tally_length
  pub counts : (k : ℕ) → k ≤ label_limit → get_or w k 0 ≡ carriers label n k
  pub most : Most (carriers label n) (get_or w most_place 0)

-- w is the tally of table t
abbrev pub TallyOf : Table → List ℕ → Type 0
TallyOf t w = Tallied t.label t.layer.count w
