-- What is proved of `Apart`.
use Rattle.std.specs.Prelude.{◌≡◌, ◌≢◌}
use Rattle.std.proofs.Common.{ap, sym, ◌∙◌, inl, inr, arith}
use Prim.Native.Nat.{ℕ, zero, suc, ◌+◌, ◌-◌, ◌*◌, ◌^◌, ◌≤◌, ◌<◌}
use Rattle.std.proofs.Math.Decide.{ℕ_discrete, dec_lt}
use Rattle.std.proofs.Math.Numerals.{add-one}
use Rattle.laws.specs.Test.{says_eq, says_leb, says_eqb, says_all, all_to}
use Rattle.tree_laws.specs.Ancestor.{none}
use Rattle.tree_laws.specs.SizeLaws.{ChildOf}
use Rattle.layer.specs.Layer.{Layer, upper, start}
use Rattle.layer.specs.Spans.{end, Apart}
use Rattle.layer.specs.Numbered.{Each}
use Rattle.inspect_laws.proofs.Choice.{says_unless, says_if}
use Rattle.inspect_laws.specs.Nested.{are_apart, all_apart}
use Rattle.inspect_laws.proofs.Nested.{says_apart}
use Rattle.inspect_laws.specs.Order.{Arranged, Sorted}
use Rattle.inspect_laws.proofs.Order.{place_row, row_place, places_apart, sorted_le}
use Rattle.inspect_laws.specs.Apart.{Wide, is_apart_next}

-- rows in the order of their compressed parents, siblings in the order of their starts, which have 64 bits
abbrev pub order_key : (ℕ → ℕ) → (ℕ → ℕ) → ℕ → ℕ
order_key up start x = up x * 2 ^ 64 + start x

module _ (t : Layer) {o : ℕ → ℕ} (wide : Wide t) (a : Arranged t.count o) (s : Sorted (order_key (upper t) (start t)) 1 t.count o) where
  -- the meaning of the test of neighbours
  Neighbours : Type 0
  Neighbours = (k : ℕ) → k < t.count - 1 → upper t (o k) ≢ none → upper t (o k) ≡ upper t (o (k + 1)) → end t (o k) ≤ start t (o (k + 1))

  pub upper_le : (i j : ℕ) → i ≤ j → j < t.count → upper t (o i) ≤ upper t (o j)
  upper_le i j l k = elim (dec_lt (upper t (o j)) (upper t (o i))) [
    | yes y ↦ absurd (omega (arith, sorted_le s i j l k, wide.starts (o j) (place_row a j k)))
    | no n ↦ omega arith
  ]

  -- siblings further apart
  far : Neighbours → (i j : ℕ) → i < j → j < t.count → upper t (o i) ≢ none → upper t (o i) ≡ upper t (o j) → end t (o i) ≤ start t (o j)
  unfolding Neighbours
  far h i zero l k d e = absurd (omega arith)
  far h i (suc j) l k d e = elim (ℕ_discrete i j) [
    | yes z ↦ rw (z, ← add-one j) (h j (omega arith) (rw z at d) (rw (z, ← add-one j) at e))
    | no z ↦
        let m : upper t (o i) ≡ upper t (o j) = omega (arith, upper_le i j (omega arith) (omega arith), upper_le j (suc j) (omega arith) k) in
        let b : end t (o i) ≤ start t (o j) = far h i j (omega arith) (omega arith) d m in
        let c : end t (o j) ≤ start t (o (suc j)) = rw (← add-one j) (h j (omega arith) (λ z. d (m ∙ z)) (rw (← add-one j) at (sym m ∙ e))) in
        omega (arith, wide.lengths (o j) (place_row a j (omega arith)))
  ]

  all_apart_lem : Neighbours → Each t (λ v. Each t (λ w. v ≢ w → upper t v ≢ none → upper t v ≡ upper t w → Apart t v w))
  all_apart_lem h v l w k d n e = go (row_place a v l) (row_place a w k)
    where
      go : ChildOf o t.count v → ChildOf o t.count w → Apart t v w
      go x y = elim (dec_lt x.row y.row) [
        | yes i ↦ inl (rw (x.over, y.over) at (far h x.row y.row i y.inside (rw x.over n) (rw (x.over, y.over) e)))
        | no i ↦ elim (dec_lt y.row x.row) [
          | yes j ↦ inr (rw (x.over, y.over) at (far h y.row x.row j x.inside (rw (y.over, ← e) n) (rw (x.over, y.over) (sym e))))
          | no j ↦ let z : x.row ≡ y.row = omega arith in absurd (d (sym x.over ∙ (ap o z ∙ y.over)))
        ]
      ]

  neighbours : Each t (λ v. Each t (λ w. v ≢ w → upper t v ≢ none → upper t v ≡ upper t w → Apart t v w)) → Neighbours
  unfolding Neighbours
  neighbours h k l d e = go (h v i w j (places_apart a k (k + 1) (omega arith) (omega arith) (λ z. omega arith)) d e)
    where
      v : ℕ
      v = o k

      w : ℕ
      w = o (k + 1)

      i : v < t.count
      i = place_row a k (omega arith)

      j : w < t.count
      j = place_row a (k + 1) (omega arith)

      go : Apart t v w → end t v ≤ start t w
      go (inl z) = z
      go (inr z) = absurd (omega (arith, wide.lengths w j, sorted_le s k (k + 1) (omega arith) (omega arith)))

  pub apart_neighbours : all_to (λ k. is_apart_next t (o k) (o (k + 1))) (t.count - 1) ≡ all_apart t
  unfolding Neighbours
  apart_neighbours = says_eq all_apart_lem neighbours
      (says_all (λ k. is_apart_next t (o k) (o (k + 1))) (t.count - 1) (λ k l.
      says_unless (says_eqb (upper t (o k)) none) (λ _.
      says_if (says_eqb (upper t (o k)) (upper t (o (k + 1)))) (λ _. says_leb (end t (o k)) (start t (o (k + 1)))))))
      (says_all (λ v. all_to (are_apart t v) t.count) t.count (λ v l. says_all (are_apart t v) t.count (λ w k. says_apart t v w)))
