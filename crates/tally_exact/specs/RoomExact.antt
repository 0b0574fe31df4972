-- On a true tally no call is refused for its entries: they have room while the table has.
use Rattle.std.specs.Prelude.{◌≡◌, Bool, true, false, ◌≢◌, List, ℕ, zero, suc, ◌≤◌, ◌<◌, eqb}
use Rattle.std.proofs.Common.{sym, ◌∙◌, arith}
use Rattle.std.proofs.Math.Decide.{ℕ_discrete}
use Rattle.std.proofs.Math.ListN.{get_or}
use Rattle.laws.specs.Test.{bit, says_eqb, says_ltb, says_true, says_false}
use Rattle.laws.specs.Sum.{count_to, count_le}
use Rattle.table.specs.Rules.{label_limit}
use Rattle.tally.specs.Tally.{carriers, Tallied}
use Rattle.tally.specs.TallyLaws.{carriers_most}
use Rattle.tally.specs.Count.{has_room, is_movable}
use Rattle.tally_exact.specs.CountExact.{has_one}

-- where one row fails a test, not all pass it
count_fewer : (b : ℕ → Bool) (n i : ℕ) → i < n → b i ≡ false → count_to b n < n
count_fewer b zero i l e = absurd (omega arith)
count_fewer b (suc n) i l e = elim (ℕ_discrete i n) [
  | yes z ↦ let none : bit (b n) ≡ 0 = rw (← z, e) in omega (arith, count_le b n)
  | no d ↦ omega (arith, count_fewer b n i (omega arith) e, bit_most (b n))
]
  where
    bit_most : (c : Bool) → bit c ≤ 1
    bit_most true = omega arith
    bit_most false = omega arith

carriers_fewer : (label : ℕ → ℕ) (n x k : ℕ) → x < n → label x ≢ k → carriers label n k < n
unfolding carriers
carriers_fewer label n x k l d = count_fewer (λ y. eqb (label y) k) n x l (says_false (says_eqb (label x) k) d)

module _ {label : ℕ → ℕ} {n : ℕ} {w : List ℕ} (t : Tallied label n w) where
  pub tallied_most : {k : ℕ} → k ≤ label_limit → get_or w k 0 ≤ n
  tallied_most {k} m = omega (arith, t.counts k m, carriers_most label n k)

  pub tallied_room : {c k : ℕ} → n < c → k ≤ label_limit → has_room w c k ≡ true
  unfolding has_room
  tallied_room {c} {k} l m = says_true (says_ltb (get_or w k 0) c) (omega (arith, tallied_most m))

  pub tallied_movable : {c x from to : ℕ} → n ≤ c → x < n → label x ≡ from → from ≢ to → from ≤ label_limit → to ≤ label_limit → is_movable w c from to ≡ true
  unfolding is_movable has_room
  tallied_movable {c} {x} {from} {to} few l e d m o =
      let fewer : get_or w to 0 < c = omega (arith, t.counts to o, carriers_fewer label n x to l (λ z. d (sym e ∙ z))) in
      rw (says_false (says_eqb (get_or w from 0) 0) (λ z. omega (arith, has_one t l e m)), says_true (says_ltb (get_or w to 0) c) fewer)
