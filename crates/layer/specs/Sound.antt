-- The row check of refusal 4 (01: "a row read holds a link that is neither none nor below the count, an s or σ above the count, or an end or
-- next free above 5 × 2^60"). A level is checked where a level is read.
use Rattle.std.specs.Prelude.{◌≡◌, ℕ, ◌<◌, ◌≤◌, Bool, ◌&&◌, ◌||◌, ◌⊎◌, ◌==◌, nat_le, nat_lt}
use Rattle.tree_laws.specs.Ancestor.{none}
use Rattle.span.specs.Constants.{limit}
use Rattle.span.specs.Numbers.{end_of}
use Rattle.layer.specs.declared.row.Row.{Row}

-- a link that is none or below the count n
abbrev pub Link : ℕ → ℕ → Type 0
Link n x = (x ≡ none) ⊎ (x < n)

abbrev pub is_link : ℕ → ℕ → Bool
is_link n x = x == none || nat_lt x n

-- the row holds nothing out of range in a layer of n rows
pub record Sound (n : ℕ) (r : Row) : Type 0 where
  pub parent : Link n r.parent
  pub first : Link n r.first
  pub last : Link n r.last
  pub next : Link n r.next
  pub upper : Link n r.upper
  pub path : Link n r.path
  pub size : r.size ≤ n
  pub set_size : r.set_size ≤ n
  pub end : end_of r.start r.set_size ≤ limit
  pub next_free : r.next_free ≤ limit

-- the same as a test
abbrev pub has_links : ℕ → Row → Bool
has_links n r = ((((is_link n r.parent && is_link n r.first) && is_link n r.last) && is_link n r.next) && is_link n r.upper) && is_link n r.path

abbrev pub has_sizes : ℕ → Row → Bool
has_sizes n r = nat_le r.size n && nat_le r.set_size n

abbrev pub has_numbers : Row → Bool
has_numbers r = nat_le (end_of r.start r.set_size) limit && nat_le r.next_free limit

unfoldable pub is_sound : ℕ → Row → Bool
is_sound n r = (has_links n r && has_sizes n r) && has_numbers r
