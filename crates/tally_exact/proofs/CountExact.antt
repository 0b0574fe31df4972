-- What the calls make of a true tally is a true tally.
use Rattle.std.specs.Prelude.{◌≡◌, ◌≢◌, List, ℕ, suc, ◌+◌, ◌-◌, ◌≤◌, ◌<◌, eqb, length, get_or, replicate}
use Rattle.std.proofs.Common.{sym, ap, ◌∙◌, add-one, arith, length-set, get_or-set_same, get_or-set_other, ext_get_or}
use Rattle.std.proofs.Math.Decide.{ℕ_discrete}
use Rattle.std.proofs.lemmas.List.{length-replicate}
use Rattle.laws.specs.Test.{bit}
use Rattle.laws.specs.Sum.{sum_eq}
use Rattle.table.specs.Rules.{label_limit}
use Rattle.tally.specs.Layout.{most_place, tally_length}
use Rattle.tally.specs.Tally.{carriers, Tallied}
use Rattle.tally.specs.TallyLaws.{carriers_none, carriers_more, raised_at, lowered_at, zero_cells}
use Rattle.tally.specs.Most.{most_of}
use Rattle.tally.specs.Count.{with_most, raised, lowered, counted, moved}
use Rattle.tally_exact.specs.CountExact.{carriers_at, has_one}
use Rattle.tally_exact.specs.TestExact.{most_same}
use Rattle.tally_exact.proofs.MostExact.{most_is}

-- full counts of labels that agree
pub carriers_same : (label label' : ℕ → ℕ) (n : ℕ) → ((x : ℕ) → x < n → label' x ≡ label x) → (k : ℕ) → carriers label n k ≡ carriers label' n k
unfolding carriers
carriers_same label label' n e k = sum_eq (λ x. bit (eqb (label x) k)) (λ x. bit (eqb (label' x) k)) n (λ x l. ap (λ (v : ℕ). bit (eqb v k)) (sym (e x l)))

pub tallied_same : {label label' : ℕ → ℕ} {n : ℕ} {w : List ℕ} → Tallied label n w → ((x : ℕ) → x < n → label' x ≡ label x) → Tallied label' n w
tallied_same {label} {label'} {n} t e = record {
  long = t.long;
  counts = λ k l. t.counts k l ∙ carriers_same label label' n e k;
  most = most_same t.most (λ k _. carriers_same label label' n e k);
}

-- entries that are full counts, and the last found from them
counts_tallied : {label : ℕ → ℕ} {n : ℕ} (w : List ℕ) → length w ≡ tally_length → ((k : ℕ) → k ≤ label_limit → get_or w k 0 ≡ carriers label n k) → Tallied label n (with_most w)
unfolding with_most
counts_tallied w e c = record {
  long = length-set w most_place (most_of w) ∙ e;
  counts = λ k l. get_or-set_other w most_place k (most_of w) 0 (λ z. omega arith) ∙ c k l;
  most = rw (get_or-set_same w most_place (most_of w) 0 (omega arith)) (most_same (most_is w) c);
}

-- no node at all
pub cleared_tallied : (label : ℕ → ℕ) → Tallied label 0 (replicate tally_length 0)
cleared_tallied label = zeros (replicate tally_length 0) (length-replicate {A = ℕ} tally_length 0) (zero_cells tally_length)
  where
    zeros : (w : List ℕ) → length w ≡ tally_length → ((k : ℕ) → get_or w k 0 ≡ 0) → Tallied label 0 w
    zeros w e z = record {
      long = e;
      counts = λ k _. z k ∙ sym (carriers_none label k);
      most = rw (z most_place) record {
        label = omega arith;
        most = λ j _. omega (arith, carriers_none label j);
        smaller = λ j l. absurd (omega arith);
      };
    }

-- of no node there is no other
pub tallied_zeros : {label : ℕ → ℕ} {w : List ℕ} → Tallied label 0 w → w ≡ replicate tally_length 0
tallied_zeros {label} {w} t = ext_get_or 0 w (replicate tally_length 0) (t.long ∙ sym (length-replicate {A = ℕ} tally_length 0)) (λ k l. elim (ℕ_discrete k most_place) [
  | yes e ↦ rw e (last ∙ sym (zero_cells tally_length most_place))
  | no d ↦ t.counts k (omega (arith, t.long)) ∙ (carriers_none label k ∙ sym (zero_cells tally_length k))
])
  where
    last : get_or w most_place 0 ≡ 0
    last = elim (ℕ_discrete (get_or w most_place 0) 0) [
      | yes e ↦ e
      | no d ↦ absurd (omega (arith, t.most.smaller 0 (omega arith), carriers_none label 0, carriers_none label (get_or w most_place 0)))
    ]

-- a node more of label k
pub counted_tallied : {label label' : ℕ → ℕ} {n k : ℕ} {w : List ℕ} → Tallied label n w → ((x : ℕ) → x < n → label' x ≡ label x) → label' n ≡ k → Tallied label' (suc n) (counted w k)
counted_tallied {label} {label'} {n} {k} {w} t e i = counts_tallied (raised w k) (length-set w k (get_or w k 0 + 1) ∙ t.long) (λ j l.
    raised_at w k j (omega (arith, t.long)) ∙ (ap (λ (v : ℕ). bit (eqb k j) + v) (t.counts j l) ∙ sym (more j)))
  where
    more : (j : ℕ) → carriers label' (suc n) j ≡ bit (eqb k j) + carriers label n j
    more j = rw (← add-one n) (carriers_more label' n j ∙ rw (i, carriers_same label label' n e j))

-- a node more of label 0, and node x, which had label 0, has label k
pub opened_tallied : {label label' : ℕ → ℕ} {n x k : ℕ} {w : List ℕ} → Tallied label n w → x < n → label x ≡ 0 → label' x ≡ k → ((y : ℕ) → y < n → y ≢ x → label' y ≡ label y) → label' n ≡ 0 → Tallied label' (suc n) (counted w k)
opened_tallied {label} {label'} {n} {x} {k} {w} t l i o e z = counts_tallied (raised w k) (length-set w k (get_or w k 0 + 1) ∙ t.long) (λ j h.
    rw (← add-one n) (omega (
      arith,
      raised_at w k j (omega (arith, t.long)),
      t.counts j h,
      rw z at (carriers_more label' n j),
      rw (i, o) at (carriers_at label label' n x l e j),
    )))

-- a node that had the one label has the other
pub moved_tallied : {label label' : ℕ → ℕ} {n x from to : ℕ} {w : List ℕ} → Tallied label n w → x < n → label x ≡ from → label' x ≡ to → from ≤ label_limit → ((y : ℕ) → y < n → y ≢ x → label' y ≡ label y) → Tallied label' n (moved w from to)
moved_tallied {label} {label'} {n} {x} {from} {to} {w} t l i o m e = counts_tallied (raised (lowered w from) to) long (λ j h. omega (
  arith,
  raised_at (lowered w from) to j (omega (arith, less, t.long)),
  lowered_at w from j (omega (arith, t.long)) (has_one t l i m),
  t.counts j h,
  rw (i, o) at (carriers_at label label' n x l e j),
))
  where
    less : length (lowered w from) ≡ length w
    less = length-set w from (get_or w from 0 - 1)

    long : length (raised (lowered w from) to) ≡ tally_length
    long = length-set (lowered w from) to (get_or (lowered w from) to 0 + 1) ∙ (less ∙ t.long)
