-- The tally after each step of a count.
use Rattle.std.specs.Prelude.{◌≡◌, List, ℕ, ◌<◌, length, get_or, set}
use Rattle.std.proofs.Math.Decide.{ℕ_discrete, dec_lt}
use Rattle.std.proofs.Common.{arith, get_or-set_same, get_or-set_other}
use Rattle.std.proofs.Math.Seq.{set_out}
use Rattle.tally.specs.Layout.{most_place}
use Rattle.tally.specs.Most.{most_of}
use Rattle.tally.specs.Count.{with_most, raised, lowered, counted}

-- no entry rises
pub lowered_most : (w : List ℕ) (from to : ℕ) {k : ℕ} → get_or w to 0 < k → get_or (lowered w from) to 0 < k
lowered_most w from to l = elim (ℕ_discrete to from) [
  | no d ↦ rw (get_or-set_other w from to _ 0 d) l
  | yes e ↦ elim (dec_lt from (length w)) [
    | yes i ↦ let h : get_or w from 0 < _ = rw e at l in rw (e, get_or-set_same w from _ 0 i) (omega (arith, h))
    | no i ↦ rw (set_out w from _ (omega arith)) l
  ]
]

-- one more, the label that most nodes carry, and its store
pub counted_by : (w : List ℕ) (k : ℕ) {w₁ w₂ : List ℕ} {most : ℕ} → w₁ ≡ raised w k → most ≡ most_of w₁ → w₂ ≡ set w₁ most_place most → w₂ ≡ counted w k
unfolding with_most
counted_by w k e i j = rw (j, i, e)
