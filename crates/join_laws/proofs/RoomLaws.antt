-- Room for compressed children: next free is at most q, by rules 3 and 4 and the density of rule 5.
use Rattle.std.specs.Prelude.{◌≡◌, ℕ, ◌+◌, ◌-◌, ◌*◌, ◌≤◌, ◌<◌, eqb}
use Rattle.std.proofs.Common.{arith}
use Rattle.laws.specs.Test.{says_get, says_eqb}
use Rattle.laws.specs.Fourth.{fourth, fourth_le}
use Rattle.laws.specs.Fit.{children_fit}
use Rattle.tree_laws.specs.AncestorLaws.{row_some}
use Rattle.tree_laws.specs.Size.{size as size_in, child_sum}
use Rattle.tree_laws.specs.SizeLaws.{size_children, child_sum_le, child_sum_same}
use Rattle.layer.specs.Layer.{Layer, upper, size, set_size, next_free}
use Rattle.layer.specs.CompressedTree.{SetSize, SmallChild}
use Rattle.layer.specs.Spans.{p, q, used_left, used_right}
use Rattle.join_laws.specs.Trees.{Trees}
use Rattle.join_laws.proofs.Trees.{uppers}

-- the compressed children of u, of sizes f, fit beside a row of size S and set size o
fit : (up f : ℕ → ℕ) (n u S o : ℕ) → ((w : ℕ) → w < n → up w ≡ u → 2 * f w + o ≤ 2 * S) → child_sum up f n u + 1 ≤ S → o ≤ S → 5 * S < 6 * o
    → 6480 * child_sum up (λ w. fourth (f w)) n u ≤ 2013 * fourth o
unfolding child_sum
fit up f n u S o h = children_fit (λ w. eqb (up w) u) f n S o (λ w l e. h w l (says_get (says_eqb (up w) u) e))

module _ {parent depth : ℕ → ℕ} {n : ℕ} {c : Layer} (k : Trees parent depth n c) where
  -- the size is one more than the sizes of the compressed children
  size_sum : (u : ℕ) → u < n → size c u ≡ 1 + child_sum (upper c) (size c) n u
  size_sum u l = omega (
    arith,
    k.sizes u l,
    size_children (uppers k) u l,
    child_sum_same {up = upper c} {up' = upper c} {f = size c} {g = size_in (upper c) depth n} {u = u} n
        (λ w i. record { stays = λ e. e; comes = λ e. e; weighs = λ _. k.sizes w i }),
  )

  pub room_of : ((x : ℕ) → x < n → SetSize c x) → ((x : ℕ) → x < n → SmallChild c x)
      → (u : ℕ) → u < n → used_left * (next_free c u - p c u) ≤ used_right * child_sum (upper c) (λ w. fourth (set_size c w)) n u → next_free c u ≤ q c u
  room_of set small u l dense = omega (
    arith,
    child_sum_le (upper c) n u (λ w. fourth (set_size c w)) (λ w. fourth (size c w)) (λ w i e. fourth_le (set w i).most),
    fit (upper c) (size c) n u (size c u) (set_size c u) (λ w i e. rw e at (small w i (row_some (uppers k) l e)))
        (omega (arith, size_sum u l)) (set u l).most (set u l).growth,
  )
