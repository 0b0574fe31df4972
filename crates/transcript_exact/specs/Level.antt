-- The level of a node of the plain list (01, "Images and plain tree"): node 0 has level 0, a child one more than its parent, so a new root one less than
-- the old one.
use Rattle.std.specs.Prelude.{ℕ, ℤ, pos, ◌-ℤ◌, length}
use Rattle.plain_list.specs.PlainList.{PlainList, count_of, parent_of}
use Rattle.plain_list.specs.Naive.{ancestors_of}

-- how many ancestors x has, itself among them
abbrev pub ancestor_count : PlainList → ℕ → ℕ
ancestor_count p x = length (ancestors_of (parent_of p) (count_of p) x)

-- how many more than node 0
abbrev pub level_in : PlainList → ℕ → ℤ
level_in p x = pos (ancestor_count p x) -ℤ pos (ancestor_count p 0)
