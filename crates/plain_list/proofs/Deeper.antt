-- What is proved of `Deeper`.
use Rattle.std.specs.Prelude.{◌≡◌, refl, ◌≢◌, ℕ, suc, ◌+◌, ◌≤◌, ◌<◌, eqb}
use Rattle.std.proofs.Common.{sym, ap, ◌∙◌, arith, eq-eqb, ne_eqb}
use Rattle.std.proofs.Math.Decide.{ℕ_discrete}
use Rattle.laws.specs.Test.{pick}
use Rattle.tree_laws.specs.Ancestor.{none, here, there}
use Rattle.tree_laws.specs.AncestorLaws.{row_some}
use Rattle.tree_laws.specs.Depth.{Depth}
use Rattle.tree_laws.specs.DepthLaws.{depth_forest}
use Rattle.tree_laws.specs.Top.{First, first_one}
use Rattle.plain_list.specs.Deeper.{NewDepth, depth_under}

-- One node more

-- the depths, but k at the new node n
unfoldable pub depth_more : (ℕ → ℕ) → ℕ → ℕ → ℕ → ℕ
depth_more depth n k x = pick (eqb x n) k (depth x)

module _ {up up' depth : ℕ → ℕ} {n v k : ℕ} (t : Depth up depth n) (small : suc n ≤ none) (new : NewDepth depth n v k)
    (old : (x : ℕ) → x < n → up' x ≡ up x) (own : up' n ≡ v) where
  more_new : depth_more depth n k n ≡ k
  unfolding depth_more
  more_new = rw (eq-eqb n n refl)

  more_old : (x : ℕ) → x < n → depth_more depth n k x ≡ depth x
  unfolding depth_more
  more_old x l = rw (ne_eqb x n (λ e. omega arith))

  pub more_depth : Depth up' (depth_more depth n k) (suc n)
  more_depth = record {
    small = small;
    inside = λ x l h. elim (ℕ_discrete x n) [
      | yes e ↦ let j : v ≢ none = λ z. h (ap up' e ∙ own ∙ z) in omega (arith, ap up' e, own, new.inside j)
      | no d ↦ let i : x < n = omega arith in omega (arith, old x i, t.inside x i (λ z. h (old x i ∙ z)))
    ];
    root = λ x l h. elim (ℕ_discrete x n) [
      | yes e ↦ ap (depth_more depth n k) e ∙ more_new ∙ new.alone (sym own ∙ ap up' (sym e) ∙ h)
      | no d ↦ let i : x < n = omega arith in more_old x i ∙ t.root x i (sym (old x i) ∙ h)
    ];
    step = λ x l h. elim (ℕ_discrete x n) [
      | yes e ↦
          let j : v ≢ none = λ z. h (ap up' e ∙ own ∙ z) in
          omega (arith, ap (depth_more depth n k) e, more_new, new.below j, ap (depth_more depth n k) (ap up' e ∙ own), more_old v (new.inside j))
      | no d ↦
          let i : x < n = omega arith in
          let j : up x ≢ none = λ z. h (old x i ∙ z) in
          omega (arith, more_old x i, t.step x i j, ap (depth_more depth n k) (old x i), more_old (up x) (t.inside x i j))
    ];
  }

module _ {up up' depth root : ℕ → ℕ} {n x v : ℕ} (t : Depth up depth n) (roots : (w : ℕ) → w < n → First up (root w) w)
    (x_in : x < n) (top : up x ≡ none) (v_in : v < n) (other : root v ≢ x) (under : up' x ≡ v) (same : (w : ℕ) → w < n → w ≢ x → up' w ≡ up w) where
  abbrev deeper : ℕ → ℕ
  deeper = depth_under depth root x (depth v + 1)

  -- a root is its own
  own_root : (w : ℕ) → w < n → up w ≡ none → root w ≡ w
  own_root w l e = first_one (roots w l) record { over = here; top = e }

  -- a node has the root of its parent
  root_up : (w : ℕ) → w < n → up w ≢ none → root (up w) ≡ root w
  root_up w l h = let q = roots (up w) (t.inside w l h) in first_one record { over = there h q.over; top = q.top } (roots w l)

  moved : (w : ℕ) → root w ≡ x → deeper w ≡ depth w + (depth v + 1)
  unfolding depth_under
  moved w e = rw (eq-eqb (root w) x e)

  stayed : (w : ℕ) → root w ≢ x → deeper w ≡ depth w
  unfolding depth_under
  stayed w d = rw (ne_eqb (root w) x d)

  v_some : v ≢ none
  v_some = row_some (depth_forest t) v_in refl

  one_step : (w : ℕ) → w < n → up w ≢ none → deeper w ≡ deeper (up w) + 1
  one_step w l h = elim (ℕ_discrete (root w) x) [
    | yes e ↦ omega (arith, moved w e, moved (up w) (root_up w l h ∙ e), t.step w l h)
    | no d ↦ omega (arith, stayed w d, stayed (up w) (λ z. d (sym (root_up w l h) ∙ z)), t.step w l h)
  ]

  pub under_depth : Depth up' deeper n
  under_depth = record {
    small = t.small;
    inside = λ w l h. elim (ℕ_discrete w x) [
      | yes e ↦ omega (arith, ap up' e, under)
      | no d ↦ omega (arith, same w l d, t.inside w l (λ z. h (same w l d ∙ z)))
    ];
    root = λ w l h. elim (ℕ_discrete w x) [
      | yes e ↦ absurd (v_some (sym under ∙ ap up' (sym e) ∙ h))
      | no d ↦ let z = sym (same w l d) ∙ h in stayed w (λ e. d (sym (own_root w l z) ∙ e)) ∙ t.root w l z
    ];
    step = λ w l h. elim (ℕ_discrete w x) [
      | yes e ↦ omega (arith, ap deeper e, moved x (own_root x x_in top), t.root x x_in top, ap deeper (ap up' e ∙ under), stayed v other)
      | no d ↦ omega (arith, one_step w l (λ z. h (same w l d ∙ z)), ap deeper (same w l d))
    ];
  }
