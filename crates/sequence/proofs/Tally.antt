-- The tally of a table that shows the plain list's labels is the list's own: its full counts, and the commonest label.
use Rattle.std.specs.Prelude.{◌≡◌, List, ℕ, get_or}
use Rattle.std.proofs.Math.Path.{sym, ap}
use Rattle.std.proofs.Common.{◌∙◌, arith}
use Rattle.std.proofs.Math.Dec.{eqb}
use Rattle.laws.specs.Test.{bit}
use Rattle.laws.specs.Sum.{sum_eq, count_to}
use Rattle.tally.specs.Layout.{most_place}
use Rattle.tally.specs.Tally.{carriers, Tallied}
use Rattle.plain_list.specs.PlainList.{PlainList, count_of, label_of}
use Rattle.plain_list.specs.PlainTally.{occurrences, PlainTally}
use Rattle.plain_list.proofs.PlainTallyLaws.{occurrences_count}
use Rattle.plain_list.specs.Proper.{Proper}
use Rattle.plain_list.specs.Shows.{Shows}

module _ {c n : ℕ} {up label face : ℕ → ℕ} {p : PlainList} (t : Proper c p) (s : Shows up label face p) (count : count_of p ≡ n) where
  -- what is counted row by row is what is counted along the list
  full_count : (k : ℕ) → carriers label n k ≡ occurrences p.labels k
  unfolding carriers
  full_count k =
      ap (count_to (λ x. eqb (label x) k)) (sym count)
      ∙ sum_eq (λ x. bit (eqb (label x) k)) (λ x. bit (eqb (label_of p x) k)) (count_of p) (λ x l. ap (λ (y : ℕ). bit (eqb y k)) (s.labels x l))
      ∙ ap (count_to (λ x. eqb (label_of p x) k)) (sym t.labelled)
      ∙ sym (occurrences_count p.labels k)

  pub tally_shown : {w : List ℕ} → Tallied label n w → PlainTally p w
  tally_shown {w} q = record {
    long = q.long;
    counts = λ k l. q.counts k l ∙ full_count k;
    commonest = record {
      label = q.most.label;
      most = λ j l. omega (arith, q.most.most j l, full_count j, full_count (get_or w most_place 0));
      smaller = λ j l. omega (arith, q.most.smaller j l, full_count j, full_count (get_or w most_place 0));
    };
  }
