-- What is proved of `Column`.
use Rattle.std.specs.Prelude.{◌≡◌, refl, ◌≢◌, ℕ}
use Rattle.laws.specs.Test.{says_true, says_false, says_eqb}
use Rattle.renumber_laws.specs.Column.{put}

pub put_same : {A : Type 0} (f : ℕ → A) (x : ℕ) (v : A) → put f x v x ≡ v
unfolding put
put_same f x v = rw (says_true (says_eqb x x) refl)

pub put_other : {A : Type 0} (f : ℕ → A) (x : ℕ) (v : A) (y : ℕ) → y ≢ x → put f x v y ≡ f y
unfolding put
put_other f x v y d = rw (says_false (says_eqb y x) d)
