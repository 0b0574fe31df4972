-- A layer that is ready, its head renumbered, has rule 5.
use Rattle.std.specs.Prelude.{◌≡◌, ◌≢◌, ℕ, ◌-◌, ◌*◌, ◌≤◌, ◌<◌}
use Rattle.std.proofs.Common.{ap, sym, ◌∙◌, inl, inr, arith}
use Rattle.std.proofs.Math.Decide.{ℕ_discrete}
use Rattle.laws.specs.Fourth.{fourth}
use Rattle.laws.specs.Ratio.{renumber_pays}
use Rattle.tree_laws.specs.Ancestor.{none, here}
use Rattle.tree_laws.specs.AncestorLaws.{cases, dec_anc}
use Rattle.tree_laws.specs.Size.{child_sum}
use Rattle.tree_laws.specs.SizeLaws.{SameChildren, child_sum_same, child_sum_change}
use Rattle.layer.specs.Layer.{Layer, parent, upper, set_size, start, next_free}
use Rattle.layer.specs.Spans.{p, end, Apart, Inside, used_left, used_right}
use Rattle.join_laws.specs.Renumbered.{Below, Renumbered}
use Rattle.join_laws.specs.Ready.{Ready}
use Rattle.join_laws.proofs.Trees.{uppers, upper_out_lem, upper_outside, upper_below}
use Rattle.join_laws.proofs.RenumberedLaws.{tree, apex, renumbered_trees, head_size}

module _ {m d : Layer} {h : ℕ} (r : Ready m h) (k : Renumbered m d h) where
  p_out : (u : ℕ) → u < m.count → ¬ Below m h u → p d u ≡ p m u
  p_out u l o = omega (arith, (k.numbers_out u l o).same_start, ap fourth (k.numbers_out u l o).same_set_size)

  end_out : (u : ℕ) → u < m.count → ¬ Below m h u → end d u ≡ end m u
  end_out u l o = omega (arith, (k.numbers_out u l o).same_start, ap fourth (k.numbers_out u l o).same_set_size)

  -- the compressed parent of the head
  module _ (i : upper m h ≢ none) where
    head_upper_in : upper m h < m.count
    head_upper_in = (uppers r.trees).inside h r.in_use i

    head_low : p d (upper d h) ≤ start d h
    head_low = rw k.built.upper_head
        (omega (arith, p_out (upper m h) head_upper_in (upper_out_lem r.trees h r.in_use i), k.start_head i, r.own i))

  -- outside, next free does not fall
  next_free_grows : (u : ℕ) → u < m.count → ¬ Below m h u → next_free m u ≤ next_free d u
  next_free_grows u l o = elim (ℕ_discrete u (upper m h)) [
    | no n ↦ omega (arith, k.next_free_out u l o n)
    | yes e ↦ let i : upper m h ≢ none = λ z. omega (arith, r.trees.shape.small) in rw e (omega (arith, k.next_free_head i, k.start_head i))
  ]

  -- an outside row with a compressed parent u, which is that of before and outside too
  module _ (x : ℕ) (l : x < m.count) (o : ¬ Below m h x) (i : upper d x ≢ none) where
    u_same : upper d x ≡ upper m x
    u_same = k.built.upper_out x l o

    u_some : upper m x ≢ none
    u_some z = i (u_same ∙ z)

    u_in : upper m x < m.count
    u_in = (uppers r.trees).inside x l u_some

    u_out : ¬ Below m h (upper m x)
    u_out = upper_outside r.trees x l o u_some

    outside_low : p d (upper d x) ≤ start d x
    outside_low = rw u_same (omega (arith, p_out (upper m x) u_in u_out, (k.numbers_out x l o).same_start, (r.row x l o).inside.low u_some))

    outside_high : end d x ≤ next_free d (upper d x)
    outside_high = rw u_same (omega (arith, end_out x l o, next_free_grows (upper m x) u_in u_out, (r.row x l o).inside.high u_some))

  pub renumbered_inside : (x : ℕ) → x < m.count → Inside d x
  renumbered_inside x l = elim (dec_anc (tree r k) h x l) [
    | no o ↦ record { low = λ i. outside_low x l o i; high = λ i. outside_high x l o i }
    | yes b ↦ elim (ℕ_discrete x h) [
      | yes e ↦
          let j : upper d h ≢ none → upper m h ≢ none = λ i z. i (k.built.upper_head ∙ z) in
          rw e record { low = λ i. head_low (j i); high = λ i. rw k.built.upper_head (omega (arith, k.next_free_head (j i))) }
      | no n ↦ record { low = λ _. k.low x l b n; high = λ _. k.high x l b n }
    ]
  ]

  -- the compressed children of an outside row are outside, or the head
  same_child : (u : ℕ) → ¬ Below m h u → (w : ℕ) → w < m.count → (upper m w ≡ u → w ≢ h) → (upper d w ≡ u → w ≢ h)
      → SameChildren (upper m) (upper d) (λ w. fourth (set_size m w)) (λ w. fourth (set_size d w)) u w
  same_child u o w l f g = record {
    stays = λ e. k.built.upper_out w l (was e) ∙ e;
    comes = λ e. sym (k.built.upper_out w l (λ b. o (rw e at (upper_below (renumbered_trees r k) (apex r k) l b (g e))))) ∙ e;
    weighs = λ e. ap fourth (sym (k.numbers_out w l (was e)).same_set_size);
  }
    where
      was : upper m w ≡ u → ¬ Below m h w
      was e b = o (rw e at (upper_below r.trees r.apex l b (f e)))

  pub renumbered_dense : (u : ℕ) → u < m.count → used_left * (next_free d u - p d u) ≤ used_right * child_sum (upper d) (λ w. fourth (set_size d w)) m.count u
  renumbered_dense u l = elim (dec_anc (tree r k) h u l) [
    | yes b ↦ omega (arith, k.next_frees u l b)
    | no o ↦ elim (ℕ_discrete (upper m h) u) [
      | yes e ↦
          let i : upper m h ≢ none = λ z. omega (arith, r.trees.shape.small) in
          omega (
            arith,
            p_out u l o,
            (r.row u l o).dense,
            rw e at (k.next_free_head i),
            rw e at (k.start_head i),
            child_sum_change m.count h r.in_use e (k.built.upper_head ∙ e) (λ w j n. same_child u o w j (λ _. n) (λ _. n)),
            renumber_pays (set_size d h) (set_size m h) (omega (arith, r.due, k.set_sizes h r.in_use here, head_size r k)),
          )
      | no n ↦ omega (
        arith,
        p_out u l o,
        (r.row u l o).dense,
        k.next_free_out u l o (λ z. n (sym z)),
        child_sum_same m.count (λ w j. same_child u o w j
            (λ e z. n (ap (upper m) (sym z) ∙ e)) (λ e z. n (sym k.built.upper_head ∙ ap (upper d) (sym z) ∙ e))),
      )
    ]
  ]

  -- a compressed sibling of the head ends where the head starts, or before
  sibling_before : (w : ℕ) → w < m.count → ¬ Below m h w → upper d h ≢ none → upper d h ≡ upper d w → end d w ≤ start d h
  sibling_before w l o i e =
      let z : upper m w ≡ upper m h = sym (k.built.upper_out w l o) ∙ sym e ∙ k.built.upper_head in
      let j : upper m h ≢ none = λ y. i (k.built.upper_head ∙ y) in
      omega (arith, end_out w l o, k.start_head j, rw z at ((r.row w l o).inside.high (λ y. j (sym z ∙ y))))

  -- of the rows below the head only the head has an outside row as compressed parent, and so an outside row as sibling
  sibling_head : (v u : ℕ) → v < m.count → Below m h v → upper d v ≡ u → ¬ Below m h u → v ≡ h
  sibling_head v u l b e o = elim (ℕ_discrete v h) [ yes z ↦ z | no z ↦ absurd (o (rw e at (upper_below (renumbered_trees r k) (apex r k) l b z))) ]

  sibling_outside : (v w : ℕ) → v < m.count → w < m.count → Below m h v → ¬ Below m h w → upper d v ≢ none → upper d v ≡ upper d w → v ≡ h
  sibling_outside v w l j b o i e = sibling_head v (upper d w) l b e (upper_outside (renumbered_trees r k) w j o (λ z. i (e ∙ z)))

  -- the head has no sibling below it
  sibling_below : (v w : ℕ) → w < m.count → Below m h w → v ≡ h → v ≢ w → upper d v ≢ none → upper d v ≡ upper d w → ⊥
  sibling_below v w l b z n i e =
      let o : ¬ Below m h (upper d h) = upper_out_lem (renumbered_trees r k) h r.in_use (rw z at i) in
      n (z ∙ sym (sibling_head w (upper d h) l b (sym e ∙ ap (upper d) z) o))

  pub renumbered_apart : (v : ℕ) → v < m.count → (w : ℕ) → w < m.count → v ≢ w → upper d v ≢ none → upper d v ≡ upper d w → Apart d v w
  renumbered_apart v l w j n i e = go (dec_anc (tree r k) h v l) (dec_anc (tree r k) h w j)
    where
      go : Dec (Below m h v) → Dec (Below m h w) → Apart d v w
      go (no o) (no q) =
          let a = k.numbers_out v l o in
          let b = k.numbers_out w j q in
          let x : upper m v ≡ upper m w = sym (k.built.upper_out v l o) ∙ e ∙ k.built.upper_out w j q in
          rw (a.same_start, b.same_start, a.same_set_size, b.same_set_size) (r.apart v l w j o q n (λ y. i (k.built.upper_out v l o ∙ y)) x)
      go (no o) (yes q) =
          let z : w ≡ h = sibling_outside w v j l q o (λ y. i (e ∙ y)) (sym e) in
          inl (rw z (sibling_before v l o (λ y. i (e ∙ ap (upper d) z ∙ y)) (sym (ap (upper d) z) ∙ sym e)))
      go (yes o) (no q) =
          let z : v ≡ h = sibling_outside v w l j o q i e in
          inr (rw z (sibling_before w j q (λ y. i (ap (upper d) z ∙ y)) (sym (ap (upper d) z) ∙ e)))
      go (yes o) (yes q) = elim (ℕ_discrete v h) [
        | yes z ↦ absurd (sibling_below v w j q z n i e)
        | no z ↦ elim (ℕ_discrete w h) [
          | yes y ↦ absurd (sibling_below w v l o y (λ x. n (sym x)) (λ x. i (e ∙ x)) (sym e))
          | no y ↦ k.apart v w l j o q z y n e
        ]
      ]

  pub renumbered_first : (x : ℕ) → x < m.count → parent m x ≡ none → start d x ≡ 0
  renumbered_first x l z = elim (dec_anc (tree r k) h x l) [
    | no o ↦ (k.numbers_out x l o).same_start ∙ (r.row x l o).first z
    | yes b ↦ elim (cases b) [
      | inl e ↦ rw (← e) (k.start_root (r.trees.compressed.root h r.in_use (ap (parent m) e ∙ z)))
      | inr s ↦ absurd (s.0 z)
    ]
  ]
