-- The largest of some rows, as the path link of an open row holds it, and the heavy child that is left of it.
use Rattle.std.specs.Prelude.{◌≡◌, refl, Bool, true, false, ◌||◌, ◌&&◌, ◌⊎◌, ◌≢◌, ℕ, ◌*◌, ◌≤◌, ◌<◌}
use Rattle.std.proofs.Common.{inl, inr, arith}
use Rattle.laws.specs.Test.{Says, holds, fails, says_false, says_eqb, says_ltb, says_leb, pick}
use Rattle.tree_laws.specs.Ancestor.{none}
use Rattle.tree_laws.specs.Size.{size}
use Rattle.renumber_laws.specs.HeavyChild.{HeavyChild, absent, heavy}
use Rattle.renumber_laws.specs.Sizes.{Sizing, is_light, kept_heavy, is_larger}
use Rattle.renumber_laws.proofs.SizesLaws.{kept_path}

-- w is a row of E of the greatest weight, or none where E has no row
pub data Largest (weight : ℕ → ℕ) (E : ℕ → Type 0) : ℕ → Type 0 where
  nobody : ((e : ℕ) → ¬ E e) → Largest weight E none
  largest : {w : ℕ} → w ≢ none → E w → ((e : ℕ) → E e → weight e ≤ weight w) → Largest weight E w

pub largest_map : {weight : ℕ → ℕ} {E F : ℕ → Type 0} {w : ℕ} → ((e : ℕ) → E e → F e) → ((e : ℕ) → F e → E e)
    → Largest weight E w → Largest weight F w
largest_map to from (nobody f) = nobody (λ e z. f e (from e z))
largest_map to from (largest d z m) = largest d (to _ z) (λ e y. m e (from e y))

-- one row more is offered
pub larger_largest : {weight : ℕ → ℕ} {E : ℕ → Type 0} (s : Sizing) {w : ℕ} (x : ℕ) → x ≢ none → s.size x ≡ weight x
    → ((e : ℕ) → E e → s.size e ≡ weight e)
    → Largest weight E w → Largest weight (λ e. E e ⊎ (e ≡ x)) (pick (is_larger s x w) x w)
larger_largest s x i g h (nobody f) = largest i (inr refl) (λ e y. elim y [ inl z ↦ absurd (f e z) | inr z ↦ rw z (omega arith) ])
larger_largest {weight} {E} s {w} x i g h (largest d z m) = rw (says_false (says_eqb w none) d) (go (says_ltb (s.size w) (s.size x)))
  where
    go : {b : Bool} → Says (s.size w < s.size x) b → Largest weight (λ e. E e ⊎ (e ≡ x)) (pick (false || b) x w)
    go (holds l) = largest i (inr refl) (λ e y. elim y [ inl o ↦ omega (arith, m e o, h w z) | inr o ↦ rw o (omega arith) ])
    go (fails l) = largest d (inl z) (λ e y. elim y [ inl o ↦ m e o | inr o ↦ rw o (omega (arith, h w z)) ])

-- the largest of all children of x, dropped where it is light, is the heavy child
pub kept_heavy_lem : {up rank : ℕ → ℕ} {n : ℕ} (x : ℕ) (s : Sizing) → s.size x ≡ size up rank n x
    → ((e : ℕ) → e < n → up e ≡ x → s.size e ≡ size up rank n e)
    → Largest (size up rank n) (λ e. (e < n) × (up e ≡ x)) (s.path x) → HeavyChild up rank n x ((kept_heavy x s).path x)
kept_heavy_lem {up} {rank} {n} x s g h q = rw (kept_path x s) (go q)
  where
    go : {w : ℕ} → Largest (size up rank n) (λ e. (e < n) × (up e ≡ x)) w → HeavyChild up rank n x (pick (is_light s x w) none w)
    go (nobody f) = absent (λ e i z. absurd (f e (i, z)))
    go {w} (largest d z m) = rw (says_false (says_eqb w none) d) (two (says_leb (2 * s.size w) (s.size x)))
      where
        two : {b : Bool} → Says (2 * s.size w ≤ s.size x) b → HeavyChild up rank n x (pick (true && b) none w)
        two (holds l) = absent (λ e i o. omega (arith, m e (i, o), h w z.0 z.1))
        two (fails l) = heavy z.0 z.1 (omega (arith, h w z.0 z.1))
