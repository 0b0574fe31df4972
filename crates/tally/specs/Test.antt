-- Whether a tally is true, by comparisons that code can make: every entry of a label is the full count, and the last entry is the label found from them.
use Rattle.std.specs.Prelude.{Bool, ◌&&◌, List, ℕ, eqb, get_or}
use Rattle.laws.specs.Test.{all_to}
use Rattle.tally.specs.Layout.{label_count, most_place}
use Rattle.tally.specs.Tally.{carriers}
use Rattle.tally.specs.Most.{most_of}

-- the entries of the first m labels, beside the counts that they are to be
unfoldable pub are_counts : List ℕ → (ℕ → ℕ) → ℕ → Bool
are_counts w count m = all_to (λ k. eqb (get_or w k 0) (count k)) m

unfoldable pub is_tallied : (ℕ → ℕ) → ℕ → List ℕ → Bool
is_tallied label n w = are_counts w (carriers label n) label_count && eqb (get_or w most_place 0) (most_of w)
