-- Counts of labels, one to each label, and the entries of a tally beside them.
use Rattle.std.specs.Prelude.{◌≡◌, Bool, true, false, ◌&&◌, not, List, ℕ, ◌+◌, ◌≤◌, ◌<◌, eqb, length, get_or}
use Rattle.std.proofs.Math.Path.{refl}
use Rattle.std.proofs.Common.{sym, ◌∙◌, add-one, arith, length-set}
use Rattle.std.proofs.Math.Decide.{dec_lt}
use Rattle.std.proofs.Math.ListN.{get_or-eq_default}
use Rattle.layer.specs.Row.{field_at}
use Rattle.table.specs.Layout.{label_place}
use Rattle.table.specs.Rules.{label_limit}
use Rattle.tally.specs.Layout.{label_count, most_place}
use Rattle.tally.specs.Tally.{carriers}
use Rattle.tally.specs.TallyLaws.{carriers_none, carriers_more, carriers_most, raised_at}
use Rattle.tally.specs.Most.{most_of}
use Rattle.tally.specs.Count.{raised}
use Rattle.tally.specs.Test.{are_counts, is_tallied}
use Rattle.inspect_laws.proofs.All.{all_same, answer_no, answer_yes}

-- the label of each row
abbrev pub labels : List ℕ → ℕ → ℕ
labels f x = field_at f x label_place

-- s has the full count of n rows
pub record Counts (label : ℕ → ℕ) (n : ℕ) (s : List ℕ) : Type 0 where
  pub long : length s ≡ label_count
  pub each : (k : ℕ) → k ≤ label_limit → get_or s k 0 ≡ carriers label n k

pub counts_none : (label : ℕ → ℕ) {s : List ℕ} → label_count ≡ length s → ((k : ℕ) → get_or s k 0 ≡ 0) → Counts label 0 s
counts_none label e z = record { long = sym e; each = λ k l. z k ∙ sym (carriers_none label k) }

-- no count is above the number of rows
pub counts_most : {label : ℕ → ℕ} {n : ℕ} {s : List ℕ} → Counts label n s → (k : ℕ) → get_or s k 0 ≤ n
counts_most {label} {n} {s} c k = elim (dec_lt k label_count) [
  | yes l ↦ omega (arith, c.each k (omega arith), carriers_most label n k)
  | no l ↦ let past : length s ≤ k = omega (arith, c.long) in omega (arith, get_or-eq_default s 0 past)
]

-- one row more
pub counts_more : {label : ℕ → ℕ} {n : ℕ} {s : List ℕ} → Counts label n s → Counts label (n + 1) (raised s (label n))
counts_more {label} {n} {s} c = record {
  long = length-set s (label n) (get_or s (label n) 0 + 1) ∙ c.long;
  each = λ k l. omega (arith, raised_at s (label n) k (omega (arith, c.long)), c.each k l, carriers_more label n k);
}

-- one comparison more
module _ (w : List ℕ) (count : ℕ → ℕ) where
  pub compared_none : true ≡ are_counts w count 0
  unfolding are_counts
  compared_none = refl

  pub compared_more : (m : ℕ) {b : Bool} → b ≡ are_counts w count m → (eqb (get_or w m 0) (count m) && b) ≡ are_counts w count (m + 1)
  unfolding are_counts
  compared_more m e = rw (add-one m, e)

pub compared_same : (w : List ℕ) (f g : ℕ → ℕ) (m : ℕ) → ((k : ℕ) → k < m → f k ≡ g k) → are_counts w f m ≡ are_counts w g m
unfolding are_counts
compared_same w f g m h = all_same (λ k. eqb (get_or w k 0) (f k)) (λ k. eqb (get_or w k 0) (g k)) m (λ k l. rw (h k l))

-- the answers of both comparisons
module _ {label : ℕ → ℕ} {n : ℕ} {s : List ℕ} (w : List ℕ) {r : Bool} (c : Counts label n s) (e : r ≡ are_counts w (λ k. get_or s k 0) label_count) where
  same : are_counts w (λ k. get_or s k 0) label_count ≡ are_counts w (carriers label n) label_count
  same = compared_same w (λ k. get_or s k 0) (carriers label n) label_count (λ k l. c.each k (omega arith))

  pub stop_counts : not r ≡ true → false ≡ is_tallied label n w
  unfolding is_tallied
  stop_counts h = rw (← same, answer_no e h)

  pub by_most : {m : ℕ} → not r ≡ false → m ≡ most_of w → eqb (get_or w most_place 0) m ≡ is_tallied label n w
  unfolding is_tallied
  by_most h i = rw (← same, answer_yes e h, i)
