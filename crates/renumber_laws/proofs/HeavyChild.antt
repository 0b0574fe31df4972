-- What is proved of `HeavyChild`.
use Rattle.std.specs.Prelude.{◌≡◌, refl, ◌≢◌, ℕ, ◌*◌, ◌≤◌, ◌<◌}
use Rattle.std.proofs.Common.{arith}
use Rattle.tree_laws.specs.Ancestor.{none, Forest}
use Rattle.tree_laws.specs.Size.{size}
use Rattle.tree_laws.specs.SizeLaws.{size_children, child_sum_two}
use Rattle.renumber_laws.specs.HeavyChild.{HeavyChild, absent, heavy}

module _ {up rank : ℕ → ℕ} {n : ℕ} (t : Forest up rank n) {v : ℕ} where
  pub heavy_in_use : {c : ℕ} → HeavyChild up rank n v c → c ≢ none → c < n
  heavy_in_use (absent f) d = absurd (d refl)
  heavy_in_use (heavy i e l) d = i

  pub heavy_over : {c : ℕ} → HeavyChild up rank n v c → c ≢ none → up c ≡ v
  heavy_over (absent f) d = absurd (d refl)
  heavy_over (heavy i e l) d = e

  pub heavy_half : {c : ℕ} → HeavyChild up rank n v c → c ≢ none → size up rank n v < 2 * size up rank n c
  heavy_half (absent f) d = absurd (d refl)
  heavy_half (heavy i e l) d = l

  -- any other child is light
  pub light_half : {c w : ℕ} → v < n → HeavyChild up rank n v c → w < n → up w ≡ v → c ≢ w → 2 * size up rank n w ≤ size up rank n v
  light_half k (absent f) i e d = f _ i e
  light_half {c} {w} k (heavy j g l) i e d = omega (arith, size_children t v k, child_sum_two up n v (size up rank n) c w j i d g e)
