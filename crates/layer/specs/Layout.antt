-- The places of a row's numbers in the lent parts: one number to each name, and no other file writes them. What a table keeps beside its layer has
-- places of its own.
use Rattle.std.specs.Prelude.{ℕ, ◌-◌}
use Rattle.span.specs.Constants.{entries}

-- 16-bit fields of a row in `fields`, by their place in the row; the first eight are those that the row check reads
abbrev pub parent_place : ℕ
parent_place = 0

abbrev pub first_place : ℕ
first_place = 1

abbrev pub last_place : ℕ
last_place = 2

abbrev pub next_place : ℕ
next_place = 3

abbrev pub upper_place : ℕ
upper_place = 4

abbrev pub path_place : ℕ
path_place = 5

abbrev pub size_place : ℕ
size_place = 6

abbrev pub set_size_place : ℕ
set_size_place = 7

abbrev pub depth_place : ℕ
depth_place = 8

-- a row of twelve is addressed by one scaled index; the layer uses nine of them
abbrev pub field_stride : ℕ
field_stride = 12

-- 64-bit numbers of a row in `numbers`
abbrev pub start_place : ℕ
start_place = 0

abbrev pub next_free_place : ℕ
next_free_place = 1

abbrev pub number_stride : ℕ
number_stride = 2

-- ancestor entries of a row in `ancestors`
abbrev pub entry_stride : ℕ
entry_stride = entries

-- the last of them, which is the first row of the row's tree
abbrev pub tree_place : ℕ
tree_place = entry_stride - 1
