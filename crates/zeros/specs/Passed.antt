-- How far zeros are passed several bytes at a time (02, M-103: "eight bytes as one word and the last few singly").
use Rattle.std.specs.Prelude.{◌≡◌, List, false, ℕ, ◌+◌, ◌≤◌, length, drop}
use Rattle.zeros.specs.Zeros.{all_zero, zeros_at}

-- from a start on, w bytes at a time, to place r: all between is zero, so the rest decides; the next w bytes are not all zero, or fewer are left
pub record Passed (w : ℕ) (bytes : List ℕ) (start r : ℕ) : Type 0 where
  pub within : r ≤ length bytes
  pub between : all_zero (drop start bytes) ≡ all_zero (drop r bytes)
  pub stop : r + w ≤ length bytes → zeros_at w bytes r ≡ false
