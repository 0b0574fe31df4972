-- One turn more of the two passes.
use Rattle.std.specs.Prelude.{◌≡◌, List, ℕ, ◌+◌, eqb, get_or}
use Rattle.std.proofs.Math.Path.{refl}
use Rattle.std.proofs.Common.{add-one}
use Rattle.laws.specs.Test.{pick}
use Rattle.tree_laws.specs.Ancestor.{none}
use Rattle.tally.specs.Most.{larger, smaller, greatest_to, first_to}

module _ (w : List ℕ) where
  pub greatest_none : 0 ≡ greatest_to w 0
  unfolding greatest_to
  greatest_none = refl

  pub greatest_more : (n : ℕ) {m r : ℕ} → m ≡ greatest_to w n → r ≡ larger m (get_or w n 0) → r ≡ greatest_to w (n + 1)
  unfolding greatest_to
  greatest_more n e i = rw (add-one n, i, e)

  module _ (sought : ℕ) where
    pub first_none : none ≡ first_to w sought 0
    unfolding first_to
    first_none = refl

    pub first_more : (n : ℕ) {m l r : ℕ} → m ≡ first_to w sought n → l ≡ pick (eqb (get_or w n 0) sought) n none → r ≡ smaller m l → r ≡ first_to w sought (n + 1)
    unfolding first_to
    first_more n e i j = rw (add-one n, j, i, e)
