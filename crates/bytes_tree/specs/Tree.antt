-- A tree of capacity 128 as one run of bytes (01: "trees of capacity 128 kept as one run of bytes"), its numbers in the places of docs/FORMAT.md.
use Rattle.std.specs.Prelude.{◌≡◌, List, ◌++◌, map, ℕ, ◌+◌, ◌*◌, ◌<◌, length, get_or}
use Rattle.table.specs.declared.state.State.{State}
use Rattle.layer.specs.Layout.{field_stride, number_stride, entry_stride}
use Rattle.table.specs.Parts.{Parts, parts_of}
use Rattle.tally.specs.Layout.{tally_length}
use Rattle.byte_numbers.specs.Bytes.{bytes, value_at}
use Rattle.byte_numbers.specs.Sign.{unsigned, Levels32}
use Rattle.bytes_tree.specs.Column.{numbers_at, levels_at, column_of}

-- how many rows
abbrev pub tree_rows : ℕ
tree_rows = 128

-- how many numbers each part has
abbrev pub field_count : ℕ
field_count = tree_rows * field_stride

abbrev pub number_count : ℕ
number_count = tree_rows * number_stride

abbrev pub entry_count : ℕ
entry_count = tree_rows * entry_stride

-- the places of the columns, one after another; the count is at 0
abbrev pub fields_place : ℕ
fields_place = 2

abbrev pub numbers_place : ℕ
numbers_place = fields_place + field_count * 2

abbrev pub levels_place : ℕ
levels_place = numbers_place + number_count * 8

abbrev pub ancestors_place : ℕ
ancestors_place = levels_place + tree_rows * 4

abbrev pub tally_place : ℕ
tally_place = ancestors_place + entry_count * 2

-- how many bytes
abbrev pub tree_bytes : ℕ
tree_bytes = tally_place + tally_length * 2

-- the count that bytes hold
unfoldable pub state_in : List ℕ → State
state_in b = record { count = value_at 2 b 0 }

-- the parts of the table
unfoldable pub parts_in : List ℕ → Parts
parts_in b = parts_of (numbers_at 2 field_count b fields_place) (numbers_at 8 number_count b numbers_place) (levels_at tree_rows b levels_place) (numbers_at 2 entry_count b ancestors_place)

-- and the tally
unfoldable pub tally_in : List ℕ → List ℕ
tally_in b = numbers_at 2 tally_length b tally_place

-- bytes hold a tree of this count, these parts and this tally
abbrev pub Held : List ℕ → State → Parts → List ℕ → Type 0
Held b s t w = (state_in b ≡ s) × ((parts_in b ≡ t) × (tally_in b ≡ w))

-- a tree as bytes
unfoldable pub encoded : State → Parts → List ℕ → List ℕ
encoded s t w =
    bytes 2 s.count
    ++ (column_of 2 t.fields ++ (column_of 8 t.numbers ++ (column_of 4 (map unsigned t.levels) ++ (column_of 2 t.ancestors ++ column_of 2 w))))

-- the numbers of a list are below a limit
abbrev pub Under : ℕ → List ℕ → Type 0
Under limit l = (i : ℕ) → i < length l → get_or l i 0 < limit

-- the numbers of a tree fit the bytes that they are kept in
pub record InBytes (s : State) (t : Parts) (w : List ℕ) : Type 0 where
  pub count : s.count < 65536
  pub fields : Under 65536 t.fields
  pub numbers : Under 18446744073709551616 t.numbers
  pub levels : Levels32 t.levels
  pub ancestors : Under 65536 t.ancestors
  pub tally : Under 65536 w
