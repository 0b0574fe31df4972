-- The tally of the plain list (02, "Panel tally"): how many of its nodes carry each label, counted along its list of labels, and which label most carry.
use Rattle.std.specs.Prelude.{◌≡◌, List, [], ◌∷◌, ℕ, ◌+◌, ◌≤◌, ◌<◌, eqb, length, get_or}
use Rattle.laws.specs.Test.{pick}
use Rattle.plain_list.specs.PlainList.{PlainList}
use Rattle.plain_list.specs.PlainStep.{largest_label}

-- how often k stands in a list of labels
unfoldable pub occurrences : List ℕ → ℕ → ℕ
occurrences [] k = 0
occurrences (l ∷ ls) k = pick (eqb l k) 1 0 + occurrences ls k

-- k is the label that stands there most often, the smaller one of two; where no label stands at all, label 0
pub record Commonest (ls : List ℕ) (k : ℕ) : Type 0 where
  pub label : k ≤ largest_label
  pub most : (j : ℕ) → j ≤ largest_label → occurrences ls j ≤ occurrences ls k
  pub smaller : (j : ℕ) → j < k → occurrences ls j < occurrences ls k

-- w is the list's tally: its full count of each label from 0 to the largest, and last the commonest
pub record PlainTally (p : PlainList) (w : List ℕ) : Type 0 where
  pub long : length w ≡ largest_label + 2
  pub counts : (k : ℕ) → k ≤ largest_label → get_or w k 0 ≡ occurrences p.labels k
  pub commonest : Commonest p.labels (get_or w (largest_label + 1) 0)
