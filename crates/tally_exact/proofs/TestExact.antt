-- The test of inspection says yes exactly when the tally is true of the nodes.
use Rattle.std.specs.Prelude.{◌≡◌, List, ℕ, ◌<◌, eqb, length, get_or}
use Rattle.std.proofs.Common.{arith}
use Rattle.laws.specs.Test.{Says, says_map, says_and, says_all, says_eqb}
use Rattle.tally.specs.Layout.{label_count, most_place, tally_length}
use Rattle.tally.specs.Tally.{carriers, Tallied}
use Rattle.tally.specs.Most.{most_of}
use Rattle.tally.specs.Test.{are_counts, is_tallied}
use Rattle.tally_exact.specs.TestExact.{most_same, most_one}
use Rattle.tally_exact.proofs.MostExact.{most_is}

says_counts : (w : List ℕ) (count : ℕ → ℕ) (m : ℕ) → Says ((k : ℕ) → k < m → get_or w k 0 ≡ count k) (are_counts w count m)
unfolding are_counts
says_counts w count m = says_all (λ k. eqb (get_or w k 0) (count k)) m (λ k l. says_eqb (get_or w k 0) (count k))

pub says_tallied : (label : ℕ → ℕ) (n : ℕ) (w : List ℕ) → length w ≡ tally_length → Says (Tallied label n w) (is_tallied label n w)
unfolding is_tallied
says_tallied label n w e = says_map to from (says_and (says_counts w (carriers label n) label_count) (λ _. says_eqb (get_or w most_place 0) (most_of w)))
  where
    to : ((k : ℕ) → k < label_count → get_or w k 0 ≡ carriers label n k) × (get_or w most_place 0 ≡ most_of w) → Tallied label n w
    to z = record { long = e; counts = λ k l. z.0 k (omega arith); most = rw z.1 (most_same (most_is w) (λ k l. z.0 k (omega arith))) }

    from : Tallied label n w → ((k : ℕ) → k < label_count → get_or w k 0 ≡ carriers label n k) × (get_or w most_place 0 ≡ most_of w)
    from t = (λ k l. t.counts k (omega arith), most_one t.most (most_same (most_is w) t.counts))
