-- What is counted along a list of labels is counted by place too.
use Rattle.std.specs.Prelude.{◌≡◌, refl, Bool, true, false, List, [], ◌∷◌, ℕ, zero, suc, ◌+◌, eqb, length, get_or}
use Rattle.std.proofs.Common.{arith}
use Rattle.laws.specs.Test.{bit, pick}
use Rattle.laws.specs.Sum.{sum_to, count_to}
use Rattle.plain_list.specs.PlainTally.{occurrences}

-- the first term of a sum
sum_first : (f : ℕ → ℕ) (n : ℕ) → sum_to f (suc n) ≡ f 0 + sum_to (λ x. f (suc x)) n
sum_first f zero = refl
sum_first f (suc n) = omega (arith, sum_first f n)

picked : (b : Bool) → pick b 1 0 ≡ bit b
picked true = refl
picked false = refl

pub occurrences_count : (ls : List ℕ) (k : ℕ) → occurrences ls k ≡ count_to (λ x. eqb (get_or ls x 0) k) (length ls)
unfolding occurrences
occurrences_count [] k = refl
occurrences_count (l ∷ ls) k = omega (arith, picked (eqb l k), occurrences_count ls k, sum_first (λ x. bit (eqb (get_or (l ∷ ls) x 0) k)) (length ls))
