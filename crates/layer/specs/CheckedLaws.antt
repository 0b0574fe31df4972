-- A checked row by its test, and where it lies.
use Rattle.std.specs.Prelude.{◌≡◌, ℕ, ◌<◌, true, List}
use Rattle.std.proofs.Common.{sym, arith}
use Rattle.laws.specs.Test.{Says, says_true, says_get, says_map, says_ltb, says_and}
use Rattle.layer.specs.declared.row.Row.{Row}
use Rattle.layer.specs.Row.{Within}
use Rattle.layer.specs.SoundLaws.{says_sound}
use Rattle.layer.specs.Checked.{Holds, IsRow, is_row}

-- a row in use lies within the parts
pub within : {n v : ℕ} {f m : List ℕ} → Holds n f m → v < n → Within v f m
within h i = record { fields = omega arith; numbers = omega arith }

module _ (n : ℕ) (row : ℕ → Row) where
  -- what the test of a row says
  pub says_row : (v : ℕ) → Says (IsRow n row v) (is_row n row v)
  unfolding is_row
  says_row v =
      says_map (λ h. record { in_use = h.0; sound = h.1 }) (λ h. (h.in_use, h.sound))
      (says_and (says_ltb v n) (λ _. says_sound n (row v)))

  pub is_row_lem : (v : ℕ) → is_row n row v ≡ true → IsRow n row v
  is_row_lem v e = says_get (says_row v) e

  -- a row that is known to be one passes the test
  pub known_row : {v k : ℕ} → IsRow n row k → v ≡ k → true ≡ is_row n row v
  known_row {v} {k} h e = rw e (sym (says_true (says_row k) h))
