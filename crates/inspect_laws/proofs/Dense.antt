-- What is proved of `Dense`.
use Rattle.std.specs.Prelude.{◌≡◌, refl, ◌≢◌, ℕ, zero, suc, ◌+◌, ◌-◌, ◌*◌, ◌≤◌, ◌<◌, eqb, leb}
use Rattle.std.proofs.Math.Decide.{ℕ_discrete, dec_lt}
use Rattle.std.proofs.Common.{div-lt_iff_lt-mul, arith}
use Rattle.laws.specs.Test.{bit, says_eq, says_leb, says_eqb, says_true, says_false}
use Rattle.laws.specs.Sum.{sum_to}
use Rattle.tree_laws.specs.Size.{child_sum}
use Rattle.layer.specs.Spans.{used_left, used_right}
use Rattle.inspect_laws.specs.Order.{Arranged}
use Rattle.inspect_laws.specs.Dense.{Group, Passing, Rising, need_of}

need_least : (used sum : ℕ) → used_left * used ≤ used_right * sum → need_of used ≤ sum
unfolding need_of
need_least used sum h = let l : need_of used < sum + 1 = (div-lt_iff_lt-mul {k = used_right} {x = used_left * used + (used_right - 1)} {y = sum + 1} (omega arith)).1 (omega arith) in omega arith

need_enough : (used sum : ℕ) → need_of used ≤ sum → used_left * used ≤ used_right * sum
unfolding need_of
need_enough used sum h = let l = (div-lt_iff_lt-mul {k = used_right} {x = used_left * used + (used_right - 1)} {y = sum + 1} (omega arith)).0 (omega arith) in omega arith

-- f over the children of u among the places below j, and over all of them
abbrev counted : (ℕ → ℕ) → (ℕ → ℕ) → ℕ → (ℕ → ℕ) → ℕ → ℕ
counted up o u f j = sum_to (λ i. bit (eqb (up (o i)) u) * f (o i)) j

abbrev placed : (ℕ → ℕ) → (ℕ → ℕ) → ℕ → ℕ
placed o f j = sum_to (λ i. f (o i)) j

pub passing_start : {up o : ℕ → ℕ} {n : ℕ} → Passing up o n 0 0
passing_start = record { before = λ i l. absurd (omega arith); rest = λ i l k. omega arith }

module _ {up o : ℕ → ℕ} {n u k next : ℕ} (rise : Rising up o n) (p : Passing up o n u k) (g : Group up o n u k next) where
  -- past the group stand the children of rows above u
  past : (i : ℕ) → next ≤ i → i < n → u < up (o i)
  past i l m =
      let d : up (o next) ≢ u = g.after (omega arith) in
      omega (arith, rise next i l m, p.rest next g.low (omega arith))

  pub passing_next : Passing up o n (u + 1) next
  passing_next = record {
    before = λ i l. elim (dec_lt i k) [ yes y ↦ omega (arith, p.before i y) | no y ↦ omega (arith, g.inside i (omega arith) l) ];
    rest = λ i l m. omega (arith, past i l m);
  }

  module _ (f : ℕ → ℕ) where
    not_yet : (j : ℕ) → j ≤ k → counted up o u f j ≡ 0
    not_yet zero l = refl
    not_yet (suc j) l = rw (says_false (says_eqb (up (o j)) u) (λ e. omega (arith, p.before j (omega arith)))) (omega (arith, not_yet j (omega arith)))

    within : (j : ℕ) → k ≤ j → j ≤ next → counted up o u f j + placed o f k ≡ placed o f j
    within zero l m = let e : k ≡ 0 = omega arith in rw e (omega arith)
    within (suc j) l m = elim (ℕ_discrete k (suc j)) [
      | yes e ↦ rw e (omega (arith, rw e at (not_yet k (omega arith))))
      | no d ↦ rw (says_true (says_eqb (up (o j)) u) (g.inside j (omega arith) (omega arith))) (omega (arith, within j (omega arith) (omega arith)))
    ]

    beyond : (j : ℕ) → next ≤ j → j ≤ n → counted up o u f j + placed o f k ≡ placed o f next
    beyond zero l m = let e : next ≡ 0 = omega arith in rw e (within 0 (omega (arith, g.low)) (omega arith))
    beyond (suc j) l m = elim (ℕ_discrete next (suc j)) [
      | yes e ↦ rw e (within (suc j) (omega (arith, g.low)) (omega arith))
      | no d ↦ rw (says_false (says_eqb (up (o j)) u) (λ e. omega (arith, past j (omega arith) (omega arith)))) (omega (arith, beyond j (omega arith) (omega arith)))
    ]

    -- the sum over the children of u is that over the group
    pub group_sum : Arranged n o → child_sum up f n u + sum_to (λ i. f (o i)) k ≡ sum_to (λ i. f (o i)) next
    unfolding child_sum
    group_sum a = omega (arith, beyond n g.high (omega arith), a.sums (λ w. bit (eqb (up w) u) * f w))

    -- what is left of the need is 0 exactly when the group is dense
    pub group_dense : Arranged n o → (used left : ℕ) → left ≡ need_of used - (sum_to (λ i. f (o i)) next - sum_to (λ i. f (o i)) k)
        → eqb left 0 ≡ leb (used_left * used) (used_right * child_sum up f n u)
    group_dense a used left e = says_eq
        (λ z. need_enough used (child_sum up f n u) (omega (arith, group_sum a)))
        (λ z. omega (arith, group_sum a, need_least used (child_sum up f n u) z))
        (says_eqb left 0)
        (says_leb (used_left * used) (used_right * child_sum up f n u))
