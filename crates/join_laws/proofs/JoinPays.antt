-- Joining pays for itself: the rows that it renumbers are paid for by the lag and 120 more.
use Rattle.std.specs.Prelude.{◌≡◌, refl, ◌≢◌, ℕ, ◌+◌, ◌-◌, ◌*◌, ◌≤◌, ◌<◌, eqb}
use Rattle.std.proofs.Common.{ap}
use Rattle.std.proofs.Math.Decide.{ℕ_discrete}
use native.Mathlib.Omega.{arith}
use Rattle.laws.specs.Test.{says_true, says_false, says_eqb, bit}
use Rattle.laws.specs.Sum.{sum_to, sum_le, sum_add, sum_one_le}
use Rattle.tree_laws.specs.Ancestor.{none, here, there, Forest, is_ancestor}
use Rattle.tree_laws.specs.AncestorLaws.{dec_anc, says_is_ancestor}
use Rattle.tree_laws.specs.Join.{Old}
use Rattle.layer.specs.Layer.{Layer, depth, upper, size, set_size}
use Rattle.layer.specs.Numbered.{Numbered}
use Rattle.join_laws.specs.Renumbered.{Below, rows}
use Rattle.join_laws.specs.Frame.{Frame, HeadRows}
use Rattle.join_laws.specs.Lag.{lag, worth, per_join}
use Rattle.join_laws.proofs.Trees.{own_trees, stored, uppers, upper_out_lem}
use Rattle.join_laws.specs.JoinStep.{JoinStep}
use Rattle.join_laws.proofs.JoinStep.{join_keeps}
use Rattle.join_laws.proofs.FrameLaws.{join_frame, join_head}
use Rattle.join_laws.proofs.Chains.{above, above_root, above_next, chain_short}

-- how far row x lags
abbrev lag_of : Layer → ℕ → ℕ
lag_of t x = size t x - set_size t x

module _ {t d : Layer} {z v h : ℕ} (r : Numbered t) (r' : Numbered d) (zin : z < t.count) (f : Frame t d z v h) (w : HeadRows t d z h) where
  chains : Forest (upper d) (depth d) d.count
  chains = uppers (own_trees r')

  still : {x : ℕ} → x < t.count → x < d.count
  still l = omega (arith, f.count)

  -- a row outside the head's rows is not z
  other : {x : ℕ} → x < t.count → ¬ Below d h x → Old t.count z x
  other l o = record { inside = l; other = λ e. o (rw e w.new) }

  -- the compressed parent of the head is an old row, and larger than before
  upper_two : (n : upper d h ≢ none) → 2 ≤ size d (upper d h)
  upper_two n =
      let u = other (omega (arith, chains.inside h w.in_use n, f.count)) out in
      omega (arith, f.size_above (upper d h) u out (there n here), (r.three (upper d h) u.inside).positive, (r.three (upper d h) u.inside).most)
    where
      out : ¬ Below d h (upper d h)
      out = upper_out_lem (own_trees r') h w.in_use n

  -- at most 19 rows lie above the head
  pub head_chain : above (upper d) (depth d) d.count h ≤ 20
  head_chain = elim (ℕ_discrete (upper d h) none) [
    | yes z ↦ omega (arith, above_root chains h w.in_use z)
    | no n ↦ omega (arith, above_next chains h w.in_use n, chain_short r' (upper d h) (chains.inside h w.in_use n) (upper_two n))
  ]

  -- 1 for the head and each row above it
  abbrev weight : ℕ → ℕ
  weight x = bit (is_ancestor (upper d) (depth d) x h)

  weights : sum_to weight t.count ≤ 20
  unfolding above
  weights = rw f.count at head_chain

  -- below the head nothing lags
  lag_below : (x : ℕ) → x < d.count → Below d h x → lag_of d x ≡ 0
  lag_below x l b = omega (arith, w.set x l b)

  -- outside only the rows above it lag by one more
  lag_outside : (x : ℕ) → x < t.count → ¬ Below d h x → lag_of d x ≤ lag_of t x + weight x
  lag_outside x l o = elim (dec_anc chains x h w.in_use) [
    | no n ↦ omega (arith, f.size_rest x (other l o) o n, (f.place x (other l o) o).same_set_size)
    | yes q ↦ omega (arith, f.size_above x (other l o) o q, (f.place x (other l o) o).same_set_size, ap bit (says_true (says_is_ancestor chains x h w.in_use) q))
  ]

  -- and the head's own lag is set free, with one more for a head that is not z
  lag_row : (x : ℕ) → x < t.count → lag_of d x + bit (eqb x h) * (lag_of t x + 1) ≤ lag_of t x + weight x
  lag_row x l = elim (dec_anc (stored (own_trees r')) h x (still l)) [
    | no o ↦ rw (says_false (says_eqb x h) (λ z. o (rw z here))) (omega (arith, lag_outside x l o))
    | yes b ↦ elim (ℕ_discrete x h) [
      | no n ↦ rw (says_false (says_eqb x h) n) (omega (arith, lag_below x (still l) b))
      | yes z ↦ rw (says_true (says_eqb x h) z)
          (omega (arith, lag_below x (still l) b, ap bit (says_true (says_is_ancestor chains x h w.in_use) (rw z here))))
    ]
  ]

  lag_sum : lag d + sum_to (λ x. bit (eqb x h) * (lag_of t x + 1)) t.count ≤ lag t + sum_to weight t.count
  unfolding lag
  lag_sum = rw f.count (omega (
    arith,
    sum_le (λ x. lag_of d x + bit (eqb x h) * (lag_of t x + 1)) (λ x. lag_of t x + weight x) t.count lag_row,
    sum_add (lag_of d) (λ x. bit (eqb x h) * (lag_of t x + 1)) t.count,
    sum_add (lag_of t) weight t.count,
  ))

  head_in : h < t.count
  head_in = omega (arith, w.in_use, f.count)

  own : lag_of t h + 1 ≤ sum_to (λ x. bit (eqb x h) * (lag_of t x + 1)) t.count
  own = omega (arith, rw (says_true (says_eqb h h) refl) at (sum_one_le (λ x. bit (eqb x h) * (lag_of t x + 1)) t.count h head_in))

  -- an old head's lag pays for its rows; a head that is z has one
  pub frame_pays : worth * lag d + rows d h ≤ worth * lag t + per_join
  frame_pays = elim (ℕ_discrete h z) [
    | no n ↦ omega (arith, w.number, w.size_old n, w.outgrown n, lag_sum, weights, own, (r.three h head_in).most)
    | yes e ↦ omega (arith, w.number, w.size_new e, lag_sum, weights, own)
  ]

-- A join

pub join_pays : {t d : Layer} {z v h : ℕ} → Numbered t → JoinStep t d z v h → worth * lag d + rows d h ≤ worth * lag t + per_join
join_pays r k = frame_pays r (join_keeps r k) k.joined.planted.alone.inside (join_frame r k) (join_head r k)
