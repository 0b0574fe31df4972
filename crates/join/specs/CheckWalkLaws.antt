-- One step of the check walk.
use Rattle.std.specs.Prelude.{◌≡◌, refl, false, ◌&&◌, not, List, ℕ, zero, suc, eqb, Some, None}
use Rattle.renumber.specs.declared.place.Place.{Place}
use Rattle.join.specs.declared.attach.Leaf.{Leaf}
use Rattle.join.specs.CheckWalk.{check_turn, turned, check_walk}

module _ (f m : List ℕ) (n : ℕ) (leaf : Leaf) (head : ℕ) where
  -- from nowhere it does not come back
  check_lost : (steps : ℕ) → check_walk steps f m n leaf head None ≡ false
  unfolding check_walk turned
  check_lost zero = refl
  check_lost (suc steps) = check_lost steps

  module _ (t : Place) where
    pub check_on : (u : Place) (steps k : ℕ) → steps ≡ suc k → Some u ≡ check_turn f m n leaf head t
        → check_walk steps f m n leaf head (Some t) ≡ check_walk k f m n leaf head (Some u)
    unfolding check_walk turned
    check_on u steps k s e = rw (s, ← e)

    pub check_stop : (steps k : ℕ) → steps ≡ suc k → None ≡ check_turn f m n leaf head t → check_walk steps f m n leaf head (Some t) ≡ false
    unfolding check_walk turned
    check_stop steps k s e = rw (s, ← e) (check_lost k)

    pub check_end : (steps : ℕ) → steps ≡ 0 → check_walk steps f m n leaf head (Some t) ≡ (not t.down && eqb t.row head)
    unfolding check_walk
    check_end steps z = rw z
