-- Parents that are the stored list's: after a new node and after a link, and how many nodes lie at or below one.
use Rattle.std.specs.Prelude.{◌≡◌, ℕ, ◌<◌, length}
use Rattle.plain_list.specs.StoredList.{StoredList, stored_parent}

-- the list has n nodes, and up gives their stored parents
pub record Stores (up : ℕ → ℕ) (n : ℕ) (l : StoredList) : Type 0 where
  pub count : length l ≡ n
  pub parents : (x : ℕ) → x < n → up x ≡ stored_parent l x
