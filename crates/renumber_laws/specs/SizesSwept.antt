-- The walk for sizes gives each row at and below the head its true size and its heavy child, and changes no other row.
use Rattle.std.specs.Prelude.{◌≡◌, ℕ, ◌+◌, ◌<◌}
use Rattle.tree_laws.specs.Ancestor.{Anc}
use Rattle.tree_laws.specs.Size.{size}
use Rattle.renumber_laws.specs.HeavyChild.{HeavyChild}
use Rattle.renumber_laws.specs.Sizes.{Sizing}

-- The whole walk

-- after the walk from the head h: true sizes and heavy children at and below h, all else as before, rows past the n in use too
pub record Sized (up rank : ℕ → ℕ) (n h : ℕ) (s d : Sizing) : Type 0 where
  pub met : d.met ≡ s.met + size up rank n h
  pub size_in : (x : ℕ) → x < n → Anc up h x → d.size x ≡ size up rank n x
  pub path_in : (x : ℕ) → x < n → Anc up h x → HeavyChild up rank n x (d.path x)
  pub size_out : (x : ℕ) → (x < n → ¬ Anc up h x) → d.size x ≡ s.size x
  pub path_out : (x : ℕ) → (x < n → ¬ Anc up h x) → d.path x ≡ s.path x
