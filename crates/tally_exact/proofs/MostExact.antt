-- The greatest entry and the first label that has it are what they are called, so `most_of` is the label with the most.
use Rattle.std.specs.Prelude.{◌≡◌, refl, Bool, ◌≢◌, List, ℕ, zero, suc, ◌≤◌, ◌<◌, get_or}
use Rattle.std.proofs.Common.{sym, ◌∙◌, arith}
use Rattle.std.proofs.Math.Decide.{ℕ_discrete}
use Rattle.laws.specs.Test.{Says, holds, fails, pick, says_eqb, says_ltb, says_true, says_false}
use Rattle.tree_laws.specs.Ancestor.{none}
use Rattle.table.specs.Rules.{label_limit}
use Rattle.tally.specs.Layout.{label_count}
use Rattle.tally.specs.Tally.{Most}
use Rattle.tally.specs.Most.{larger, smaller, greatest_to, first_to, most_of}
use Rattle.tally_exact.specs.MostExact.{Attained, First, Search, found, missed}

-- the larger of two numbers is one of them, and neither is above it
larger_is : (a b : ℕ) → (a ≤ larger a b) × ((b ≤ larger a b) × ((larger a b ≢ a) → larger a b ≡ b))
larger_is a b = go (says_ltb a b)
  where
    go : {t : Bool} → Says (a < b) t → (a ≤ pick t b a) × ((b ≤ pick t b a) × ((pick t b a ≢ a) → pick t b a ≡ b))
    go (holds l) = (omega arith, (omega arith, λ _. refl))
    go (fails l) = (omega arith, (omega (arith, l), λ d. absurd (d refl)))

-- no entry of the first n is above the greatest
pub greatest_most : (w : List ℕ) (n j : ℕ) → j < n → get_or w j 0 ≤ greatest_to w n
unfolding greatest_to
greatest_most w zero j l = absurd (omega arith)
greatest_most w (suc n) j l = elim (ℕ_discrete j n) [
  | yes e ↦ rw e (larger_is (greatest_to w n) (get_or w n 0)).1.0
  | no d ↦ omega (arith, greatest_most w n j (omega arith), (larger_is (greatest_to w n) (get_or w n 0)).0)
]

-- and one of them is the greatest
pub greatest_attained : (w : List ℕ) (n : ℕ) → Attained w (greatest_to w (suc n)) (suc n)
unfolding greatest_to
greatest_attained w zero = record { label = 0; below = omega arith; has = first (get_or w 0 0) }
  where
    first : (b : ℕ) → b ≡ larger 0 b
    first b = elim (ℕ_discrete (larger 0 b) 0) [ yes e ↦ omega (arith, (larger_is 0 b).1.0) | no d ↦ sym ((larger_is 0 b).1.1 d) ]
greatest_attained w (suc n) = elim (ℕ_discrete (greatest_to w (suc (suc n))) (greatest_to w (suc n))) [
  | yes e ↦ let a = greatest_attained w n in record { label = a.label; below = omega (arith, a.below); has = a.has ∙ sym e }
  | no d ↦ record { label = suc n; below = omega arith; has = sym ((larger_is (greatest_to w (suc n)) (get_or w (suc n) 0)).1.1 d) }
]

-- the search ends so
pub first_search : (w : List ℕ) (sought n : ℕ) → n ≤ none → Search w sought n (first_to w sought n)
unfolding first_to
first_search w sought zero l = missed (λ j k. absurd (omega arith))
first_search w sought (suc n) l = step (first_search w sought n (omega arith)) (says_eqb (get_or w n 0) sought)
  where
    step : {k : ℕ} {t : Bool} → Search w sought n k → Says (get_or w n 0 ≡ sought) t → Search w sought (suc n) (smaller k (pick t n none))
    step {k} {t} (found f) s = rw (kept s) (found {k = k} record { label = omega (arith, f.label); has = f.has; before = f.before })
      where
        kept : {t : Bool} → Says (get_or w n 0 ≡ sought) t → smaller k (pick t n none) ≡ k
        kept (holds e) = rw (says_false (says_ltb n k) (λ h. omega (arith, f.label)))
        kept (fails d) = rw (says_false (says_ltb none k) (λ h. omega (arith, f.label)))
    step (missed m) (holds e) = rw (says_true (says_ltb n none) (omega arith)) (found {k = n} record { label = omega arith; has = e; before = m })
    step (missed m) (fails d) = missed (λ j k. elim (ℕ_discrete j n) [ yes e ↦ rw e d | no o ↦ m j (omega arith) ])

-- where a label has the number, the first that has it is found
pub first_is : (w : List ℕ) (sought n : ℕ) → n ≤ none → Attained w sought n → First w sought n (first_to w sought n)
first_is w sought n l a = take (first_search w sought n l)
  where
    take : {k : ℕ} → Search w sought n k → First w sought n k
    take (found f) = f
    take (missed m) = absurd (m a.label a.below a.has)

-- the first of the greatest
pub most_to : (w : List ℕ) (n : ℕ) → suc n ≤ none → First w (greatest_to w (suc n)) (suc n) (first_to w (greatest_to w (suc n)) (suc n))
most_to w n l = first_is w (greatest_to w (suc n)) (suc n) l (greatest_attained w n)

pub most_is : (w : List ℕ) → Most (λ k. get_or w k 0) (most_of w)
unfolding most_of
most_is w = record {
  label = omega (arith, f.label);
  most = λ j l. omega (arith, greatest_most w label_count j (omega arith), f.has);
  smaller = λ j l. omega (arith, greatest_most w label_count j (omega (arith, f.label)), f.has, f.before j l);
}
  where
    f : First w (greatest_to w label_count) label_count (first_to w (greatest_to w label_count) label_count)
    f = most_to w label_limit (omega arith)
