-- The ancestor entries that a head copies from its upper row. They are links (01: set-up makes "links none"), so one that is neither none nor below the
-- count is refusal 4.
use Rattle.std.specs.Prelude.{Bool, true, ◌&&◌, List, [], ◌∷◌, ℕ}
use Rattle.layer.specs.Sound.{is_link}
use Rattle.renumber.specs.Entries.{above_of}

-- every entry of a list is none or below the count n
unfoldable pub are_links : ℕ → List ℕ → Bool
are_links n [] = true
are_links n (e ∷ es) = is_link n e && are_links n es

-- every entry that a head copies from its upper row u is; all none where there is no such row
unfoldable pub copies_links : List ℕ → ℕ → ℕ → Bool
copies_links a n u = are_links n (above_of a u)
