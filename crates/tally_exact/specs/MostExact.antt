-- A label that has a given number, the first of those, and what a search for it ends at.
use Rattle.std.specs.Prelude.{◌≡◌, ◌≢◌, List, ℕ, ◌<◌, get_or}
use Rattle.tree_laws.specs.Ancestor.{none}

-- one of the first n entries is a given number
pub record Attained (w : List ℕ) (sought n : ℕ) : Type 0 where
  pub label : ℕ
  pub below : label < n
  pub has : get_or w label 0 ≡ sought

-- the first of n labels that has a given number
pub record First (w : List ℕ) (sought n k : ℕ) : Type 0 where
  pub label : k < n
  pub has : get_or w k 0 ≡ sought
  pub before : (j : ℕ) → j < k → get_or w j 0 ≢ sought

-- the search ends at the first label that has the number, or at none where no label has it
pub data Search (w : List ℕ) (sought n : ℕ) : ℕ → Type 0 where
  found : {k : ℕ} → First w sought n k → Search w sought n k
  missed : ((j : ℕ) → j < n → get_or w j 0 ≢ sought) → Search w sought n none
