-- Two forests that agree in the parents of rows of the first: its trees stand in the second too.
use Rattle.std.specs.Prelude.{◌≡◌, ◌≢◌, ℕ, ◌≤◌, ◌<◌}
use Rattle.std.proofs.Common.{sym, ◌∙◌, arith}
use Rattle.tree_laws.specs.Ancestor.{none, Anc, here, there, Forest}
use Rattle.tree_laws.specs.AncestorLaws.{anc_copy, anc_back}
use Rattle.tree_laws.specs.Reroot.{PlainParent, root, turned, kept, plain_parent}
use Rattle.tree_laws.specs.RerootLaws.{plain_parent_lem, plain_is}
use Rattle.tree_laws.specs.Top.{First, top_of, top_first, top_is}

-- P picks rows of the first forest, with every row above them, whose parents are the same in both
pub record Older (up up' : ℕ → ℕ) (n : ℕ) (P : ℕ → Type 0) : Type 0 where
  pub inside : (x : ℕ) → P x → x < n
  pub above : (x : ℕ) → P x → up x ≢ none → P (up x)
  pub same : (x : ℕ) → P x → up' x ≡ up x

module _ {up up' rank rank' : ℕ → ℕ} {n n' : ℕ} {P : ℕ → Type 0} (t : Forest up rank n) (t' : Forest up' rank' n') (more : n ≤ n') (o : Older up up' n P) where
  pub older_anc : {a x : ℕ} → P x → Anc up a x → P a
  older_anc p here = p
  older_anc {x = x} p (there h q) = older_anc (o.above x p h) q

  pub anc_to : {a x : ℕ} → P x → Anc up a x → Anc up' a x
  anc_to p = anc_copy (λ b q. o.same b (older_anc p q))

  pub anc_from : {a x : ℕ} → P x → Anc up' a x → Anc up a x
  anc_from p = anc_back (λ b q. o.same b (older_anc p q))

  within : {x : ℕ} → P x → x < n'
  within {x} p = omega (arith, o.inside x p)

  pub first_to : {f x : ℕ} → P x → First up f x → First up' f x
  first_to p q = record { over = anc_to p q.over; top = o.same _ (older_anc p q.over) ∙ q.top }

  pub first_from : {f x : ℕ} → P x → First up' f x → First up f x
  first_from p q = let a = anc_from p q.over in record { over = a; top = sym (o.same _ (older_anc p a)) ∙ q.top }

  pub top_same : {x : ℕ} → P x → top_of up' rank' x ≡ top_of up rank x
  top_same {x} p = top_is t' (within p) (first_to p (top_first t x (o.inside x p)))

  -- plain parents by a root that is picked
  plain_to : {r x y : ℕ} → P r → P x → PlainParent up r x y → PlainParent up' r x y
  plain_to p q root = root
  plain_to {y = y} p q (turned h e a) =
      let i : up' y ≡ up y = o.same y (older_anc p a) in
      turned (λ f. h (sym i ∙ f)) (i ∙ e) (anc_to p a)
  plain_to {x = x} p q (kept d) = rw (← o.same x q) (kept (λ a. d (anc_from p a)))

  pub plain_same_lem : {r x : ℕ} → P r → P x → plain_parent up' rank' r x ≡ plain_parent up rank r x
  plain_same_lem {r} {x} p q = plain_is t' (within p) (within q) (plain_to p q (plain_parent_lem t (o.inside r p) x (o.inside x q)))
