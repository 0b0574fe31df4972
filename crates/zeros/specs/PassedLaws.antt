-- A loop that passes zeros, over any width: where it begins, goes on and ends.
use Rattle.std.specs.Prelude.{◌≡◌, refl, List, true, false, ℕ, ◌+◌, ◌≤◌, length, drop}
use Rattle.std.proofs.Common.{◌∙◌}
use Rattle.zeros.specs.Zeros.{all_zero, zeros_at}
use Rattle.zeros.specs.Passed.{Passed}
use Rattle.zeros.specs.ZeroLaws.{zeros_on}

-- the loop has come to place i: the bytes from there on decide
pub record Reached (bytes : List ℕ) (start i : ℕ) : Type 0 where
  pub within : i ≤ length bytes
  pub between : all_zero (drop start bytes) ≡ all_zero (drop i bytes)

module _ (bytes : List ℕ) (start : ℕ) where
  pub reached_start : start ≤ length bytes → Reached bytes start start
  reached_start h = record { within = h; between = refl }

  module _ (w i : ℕ) (r : Reached bytes start i) where
    pub reached_more : i + w ≤ length bytes → zeros_at w bytes i ≡ true → Reached bytes start (i + w)
    reached_more h z = record { within = h; between = r.between ∙ zeros_on bytes i w z }

    -- it ends at bytes that are not all zero, or with fewer left
    pub passed_stop : zeros_at w bytes i ≡ false → Passed w bytes start i
    passed_stop z = record { within = r.within; between = r.between; stop = λ _. z }

    pub passed_end : (i + w ≤ length bytes → ⊥) → Passed w bytes start i
    passed_end h = record { within = r.within; between = r.between; stop = λ l. absurd (h l) }
