-- The line from the linked root up to the first row of its tree is turned round: each row of it comes under the one below it, and the root under v. With
-- the stored parents elsewhere, the column then holds the target of every row of the tree.
use Rattle.std.specs.Prelude.{◌≡◌, ◌≢◌, ℕ, zero, suc, ◌≤◌, ◌<◌, eqb}
use Rattle.std.proofs.Common.{ap, sym, ◌∙◌, inl, inr, arith}
use Rattle.std.proofs.Math.Decide.{ℕ_discrete}
use Rattle.laws.specs.Test.{pick, says_true, says_false, says_eqb}
use Rattle.tree_laws.specs.Ancestor.{none, Anc, here, there, Forest}
use Rattle.tree_laws.specs.AncestorLaws.{cases, no_loop}
use Rattle.renumber_laws.specs.Column.{put}
use Rattle.renumber_laws.proofs.Column.{put_same, put_other}

-- from z up, at most fuel rows on: z comes under `under`, the row above z under z, and so on
abbrev pub turned_up : (ℕ → ℕ) → ℕ → (ℕ → ℕ) → ℕ → ℕ → ℕ → ℕ
turned_up up zero col z under = put col z under
turned_up up (suc f) col z under = pick (eqb (up z) none) (put col z under) (turned_up up f (put col z under) (up z) z)

module _ {up rank : ℕ → ℕ} {n : ℕ} (t : Forest up rank n) where
  -- rows off the line keep what they hold
  pub turned_off : (f : ℕ) (col : ℕ → ℕ) (z under w : ℕ) → z < n → rank z ≤ f → (Anc up w z → ⊥) → turned_up up f col z under w ≡ col w
  turned_off zero col z under w l h d = put_other col z under w (λ e. d (rw e here))
  turned_off (suc f) col z under w l h d = elim (ℕ_discrete (up z) none) [
    | yes e ↦ rw (says_true (says_eqb (up z) none) e) (put_other col z under w (λ e. d (rw e here)))
    | no g ↦ rw (says_false (says_eqb (up z) none) g)
        (turned_off f (put col z under) (up z) z w (t.inside z l g) (omega (arith, t.falls z l g)) (λ p. d (there g p)) ∙ put_other col z under w (λ e. d (rw e here)))
  ]

  -- the row where it starts
  pub turned_here : (f : ℕ) (col : ℕ → ℕ) (z under : ℕ) → z < n → rank z ≤ f → turned_up up f col z under z ≡ under
  turned_here zero col z under l h = put_same col z under
  turned_here (suc f) col z under l h = elim (ℕ_discrete (up z) none) [
    | yes e ↦ rw (says_true (says_eqb (up z) none) e) (put_same col z under)
    | no g ↦ rw (says_false (says_eqb (up z) none) g)
        (turned_off f (put col z under) (up z) z z (t.inside z l g) (omega (arith, t.falls z l g)) (no_loop t z l g) ∙ put_same col z under)
  ]

  -- a row of the line above it comes under the next one below
  pub turned_on : (f : ℕ) (col : ℕ → ℕ) (z under w c : ℕ) → z < n → rank z ≤ f → up c ≢ none → up c ≡ w → Anc up c z → turned_up up f col z under w ≡ c
  turned_on zero col z under w c l h g e p = absurd (elim (cases p) [
    | inl y ↦ omega (arith, t.falls z l (rw y at g))
    | inr s ↦ omega (arith, t.falls z l s.0)
  ])
  turned_on (suc f) col z under w c l h g e p = elim (cases p) [
    | inl y ↦
        let i : up z ≢ none = rw y at g in
        let j : w ≡ up z = sym e ∙ ap up y in
        rw (says_false (says_eqb (up z) none) i, j) (turned_here f (put col z under) (up z) z (t.inside z l i) (omega (arith, t.falls z l i)) ∙ sym y)
    | inr s ↦ rw (says_false (says_eqb (up z) none) s.0)
        (turned_on f (put col z under) (up z) z w c (t.inside z l s.0) (omega (arith, t.falls z l s.0)) g e s.1)
  ]
