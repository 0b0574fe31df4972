-- What is proved of `SizesSwept`.
use Rattle.std.specs.Prelude.{◌≡◌, refl, ◌⊎◌, ◌≢◌, ℕ, ◌+◌, ◌-◌, ◌<◌}
use Rattle.std.proofs.Common.{sym, ◌∙◌, arith}
use Rattle.std.proofs.Math.Logic.{inl, inr}
use Rattle.tree_laws.specs.Ancestor.{none, Anc, here, Forest}
use Rattle.tree_laws.specs.AncestorLaws.{row_some, no_loop}
use Rattle.tree_laws.specs.Size.{size}
use Rattle.tree_laws.specs.Siblings.{Kin, nil, node, count, In, Sibling, Distinct, apart, Links, Reads, more, Whole, nothing, all, Below}
use Rattle.tree_laws.specs.SiblingsLaws.{sibling_parent, in_inside, in_over, reads_distinct, in_anc, anc_in_kin, size_count}
use Rattle.tree_laws.specs.Walk.{sweep}
use Rattle.renumber_laws.specs.HeavyChild.{HeavyChild}
use Rattle.renumber_laws.proofs.Largest.{Largest, nobody, largest_map, larger_largest, kept_heavy_lem}
use Rattle.renumber_laws.specs.Sizes.{Sizing, opened, counted, closed, offered, size_visit, size_pass}
use Rattle.renumber_laws.proofs.SizesLaws.{opened_size, opened_path, opened_met, opened_size_other, opened_path_other, OnlyPath, offered_only, offered_path, counted_size, counted_size_other, counted_path, closed_size, closed_size_other, closed_path_other, closed_met}
use Rattle.renumber_laws.specs.SizesSwept.{Sized}

-- A sweep over siblings

-- what a sweep of the siblings f, children of v, does; E are the children of v before them
record Swept (up rank : ℕ → ℕ) (n v : ℕ) (f : Kin) (E : ℕ → Type 0) (b d : Sizing) : Type 0 where
  met : d.met ≡ b.met + count f
  size_in : (x : ℕ) → In f x → d.size x ≡ size up rank n x
  path_in : (x : ℕ) → In f x → HeavyChild up rank n x (d.path x)
  size_out : (x : ℕ) → ¬ In f x → d.size x ≡ b.size x
  path_out : (x : ℕ) → ¬ In f x → x ≢ v → d.path x ≡ b.path x
  top : Largest (size up rank n) (λ e. E e ⊎ Sibling f e) (d.path v)

-- what is known of the children of v before them
record Earlier (up rank : ℕ → ℕ) (n v : ℕ) (f : Kin) (E : ℕ → Type 0) (b : Sizing) : Type 0 where
  sizes : (e : ℕ) → E e → b.size e ≡ size up rank n e
  others : (e : ℕ) → E e → ¬ In f e
  top : Largest (size up rank n) E (b.path v)

-- v is open, and none of its children is done
none_done : {up rank : ℕ → ℕ} {n : ℕ} (v : ℕ) (f : Kin) (s : Sizing) → Earlier up rank n v f (λ _. ⊥) (opened v s)
none_done v f s = record { sizes = λ e z. absurd z; others = λ e z. absurd z; top = rw (opened_path v s) (nobody (λ e z. z)) }

-- a row and all below it: after the sweep below r, r is closed
module _ (k : Links) {rank : ℕ → ℕ} {n : ℕ} (t : Forest k.parent rank n) {r : ℕ} {kids : Kin} (s b : Sizing) (j : r < n) (u : Below k n r kids)
    (new : ¬ In kids r) (q : Swept k.parent rank n r kids (λ _. ⊥) (opened r s) b) where
  size_met : b.met - b.size r ≡ size k.parent rank n r
  size_met = omega (arith, q.met, opened_met r s, q.size_out r new, opened_size r s, size_count k t j u)

  closed_sizes : (x : ℕ) → (x ≡ r) ⊎ In kids x → (closed r b).size x ≡ size k.parent rank n x
  closed_sizes x (inl e) = rw e (closed_size r b ∙ size_met)
  closed_sizes x (inr z) = closed_size_other r b x (λ e. new (rw e at z)) ∙ q.size_in x z

  sibling_in : (f : Kin) (x : ℕ) → Sibling f x → In f x
  sibling_in (node c kids rest) x (inl e) = inl e
  sibling_in (node c kids rest) x (inr z) = inr (inr (sibling_in rest x z))
  sibling_in nil x z = elim z [ ]

  closed_paths : (x : ℕ) → (x ≡ r) ⊎ In kids x → HeavyChild k.parent rank n x ((closed r b).path x)
  unfolding closed
  closed_paths x (inr z) = rw (closed_path_other r b x (λ e. new (rw e at z))) (q.path_in x z)
  closed_paths x (inl e) = rw e (kept_heavy_lem r (counted r b) (counted_size r b ∙ size_met) child all_children)
    where
      child : (w : ℕ) → w < n → k.parent w ≡ r → (counted r b).size w ≡ size k.parent rank n w
      child w i z =
          let y = sibling_in kids w (u.full w i z) in
          counted_size_other r b w (λ o. new (rw o at y)) ∙ q.size_in w y

      all_children : Largest (size k.parent rank n) (λ e. (e < n) × (k.parent e ≡ r)) ((counted r b).path r)
      all_children = rw (counted_path r b r) (largest_map
          (λ w z. elim z [ inl y ↦ absurd y | inr y ↦ (in_inside u.whole (sibling_in kids w y), sibling_parent u.reads y) ])
          (λ w z. inr (u.full w z.0 z.1))
          q.top)

  closed_sizes_out : (x : ℕ) → x ≢ r → ¬ In kids x → (closed r b).size x ≡ s.size x
  closed_sizes_out x d o = closed_size_other r b x d ∙ q.size_out x o ∙ opened_size_other r s x d

  closed_paths_out : (x : ℕ) → x ≢ r → ¬ In kids x → (closed r b).path x ≡ s.path x
  closed_paths_out x d o = closed_path_other r b x d ∙ q.path_out x o d ∙ opened_path_other r s x d

  closed_all_met : (closed r b).met ≡ s.met + (1 + count kids)
  closed_all_met = omega (arith, closed_met r b, q.met, opened_met r s)

  -- r is offered to its parent v
  module _ {v : ℕ} {rest : Kin} {E : ℕ → Type 0} (some : r ≢ none) (out : ¬ In (node r kids rest) v) (alone : ¬ In rest r)
      (two : (x : ℕ) → In kids x → ¬ In rest x) (p : Earlier k.parent rank n v (node r kids rest) E s) where
    given : OnlyPath v (closed r b) (offered v r (closed r b))
    given = offered_only v r (closed r b)

    v_path : (closed r b).path v ≡ s.path v
    v_path = closed_paths_out v (λ e. out (inl e)) (λ z. out (inr (inl z)))

    earlier_sizes : (e : ℕ) → E e → (closed r b).size e ≡ size k.parent rank n e
    earlier_sizes e z = closed_sizes_out e (λ y. p.others e z (inl y)) (λ y. p.others e z (inr (inl y))) ∙ p.sizes e z

    later : Earlier k.parent rank n v rest (λ e. E e ⊎ (e ≡ r)) (offered v r (closed r b))
    later = record {
      sizes = λ e z. given.size e ∙ elim z [ inl y ↦ earlier_sizes e y | inr y ↦ closed_sizes e (inl y) ];
      others = λ e z. elim z [ inl y ↦ λ o. p.others e y (inr (inr o)) | inr y ↦ λ o. alone (rw y at o) ];
      top = rw (offered_path v r (closed r b), v_path) (larger_largest (closed r b) r some (closed_sizes r (inl refl)) earlier_sizes p.top);
    }

    with_rest : {d : Sizing} → Swept k.parent rank n v rest (λ e. E e ⊎ (e ≡ r)) (offered v r (closed r b)) d
        → Swept k.parent rank n v (node r kids rest) E s d
    with_rest {d} g = record {
      met = omega (arith, g.met, given.met, closed_all_met);
      size_in = λ x z. elim (which x z) [ inl y ↦ g.size_out x (apart_rest x y) ∙ given.size x ∙ closed_sizes x y | inr y ↦ g.size_in x y ];
      path_in = λ x z. elim (which x z) [
        | inl y ↦ rw (g.path_out x (apart_rest x y) (not_v_lem x z) ∙ given.path x (not_v_lem x z)) (closed_paths x y)
        | inr y ↦ g.path_in x y
      ];
      size_out = λ x o. g.size_out x (λ z. o (inr (inr z))) ∙ given.size x ∙ closed_sizes_out x (λ e. o (inl e)) (λ z. o (inr (inl z)));
      path_out = λ x o i. g.path_out x (λ z. o (inr (inr z))) i ∙ given.path x i ∙ closed_paths_out x (λ e. o (inl e)) (λ z. o (inr (inl z)));
      top = largest_map
          (λ w z. elim z [ inl y ↦ elim y [ inl o ↦ inl o | inr o ↦ inr (inl o) ] | inr y ↦ inr (inr y) ])
          (λ w z. elim z [ inl y ↦ inl (inl y) | inr y ↦ elim y [ inl o ↦ inl (inr o) | inr o ↦ inr o ] ])
          g.top;
    }
      where
        which : (x : ℕ) → In (node r kids rest) x → ((x ≡ r) ⊎ In kids x) ⊎ In rest x
        which x z = elim z [ inl e ↦ inl (inl e) | inr y ↦ elim y [ inl o ↦ inl (inr o) | inr o ↦ inr o ] ]

        apart_rest : (x : ℕ) → (x ≡ r) ⊎ In kids x → ¬ In rest x
        apart_rest x y o = elim y [ inl e ↦ alone (rw e at o) | inr z ↦ two x z o ]

        not_v_lem : (x : ℕ) → In (node r kids rest) x → x ≢ v
        not_v_lem x z e = out (rw e at z)

module _ (k : Links) {rank : ℕ → ℕ} {n : ℕ} (t : Forest k.parent rank n) where
  swept : {v c : ℕ} {f : Kin} {E : ℕ → Type 0} (s : Sizing) → Reads k v c f → Whole k.parent n f → Distinct f → ¬ In f v
      → Earlier k.parent rank n v f E s → Swept k.parent rank n v f E s (sweep (size_visit k.parent) f s)
  unfolding size_visit
  swept {f = nil} s r w d o p = record {
    met = omega arith;
    size_in = λ x z. absurd z;
    path_in = λ x z. absurd z;
    size_out = λ x z. refl;
    path_out = λ x z i. refl;
    top = largest_map (λ e z. inl z) (λ e z. elim z [ inl y ↦ y | inr y ↦ absurd y ]) p.top;
  }
  swept {v} {f = node r kids rest} {E} s (more i e g h) (all j full w u) (apart new alone two x y) o p =
      let b : Sizing = sweep (size_visit k.parent) kids (opened r s) in
      let q = swept (opened r s) g w x new (none_done r kids s) in
      let l : Below k n r kids = record { reads = g; full = full; whole = w } in
      let z = swept (offered v r (closed r b)) h u y (λ m. o (inr (inr m))) (later k t s b j l new q i o alone two p) in
      rw e (with_rest k t s b j l new q i o alone two p z)

module _ (k : Links) {rank : ℕ → ℕ} {n : ℕ} (t : Forest k.parent rank n) {h : ℕ} {f : Kin} (l : h < n) (u : Below k n h f) where
  -- no row stands below itself
  pub head_not_in : ¬ In f h
  head_not_in z =
      let o = in_over k t u.whole u.reads z in
      let e = sibling_parent u.reads o.sibling in
      no_loop t o.row (row_in u.whole o.sibling) (row_some t l e) (rw e o.below)
    where
      row_in : {f : Kin} {x : ℕ} → Whole k.parent n f → Sibling f x → x < n
      row_in (all i full w u) (inl e) = rw e i
      row_in (all i full w u) (inr z) = row_in u z
      row_in nothing z = elim z [ ]

  pub sizes_swept : (s : Sizing) → Sized k.parent rank n h s (size_pass k.parent h f s)
  unfolding size_pass
  sizes_swept s = record {
    met = omega (arith, closed_all_met k t s b l u head_not_in q, size_count k t l u);
    size_in = λ x i a. closed_sizes k t s b l u head_not_in q x (at_or_in x i a);
    path_in = λ x i a. closed_paths k t s b l u head_not_in q x (at_or_in x i a);
    size_out = λ x o. closed_sizes_out k t s b l u head_not_in q x (not_head x o) (not_in x o);
    path_out = λ x o. closed_paths_out k t s b l u head_not_in q x (not_head x o) (not_in x o);
  }
    where
      b : Sizing
      b = sweep (size_visit k.parent) f (opened h s)

      q : Swept k.parent rank n h f (λ _. ⊥) (opened h s) (sweep (size_visit k.parent) f (opened h s))
      q = swept k t (opened h s) u.reads u.whole (reads_distinct k t l u.whole u.reads) head_not_in (none_done h f s)

      not_head : (x : ℕ) → (x < n → ¬ Anc k.parent h x) → x ≢ h
      not_head x o e = o (rw e l) (rw e here)

      not_in : (x : ℕ) → (x < n → ¬ Anc k.parent h x) → ¬ In f x
      not_in x o z = o (in_inside u.whole z) (in_anc k t l u z)

      at_or_in : (x : ℕ) → x < n → Anc k.parent h x → (x ≡ h) ⊎ In f x
      at_or_in x i a = elim (anc_in_kin k t l u i a) [ inl e ↦ inl (sym e) | inr z ↦ inr z ]
