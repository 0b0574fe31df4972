-- The places of a tally (02, "Panel tally": "A lent tally of 10,001 16-bit numbers").
use Rattle.std.specs.Prelude.{ℕ, suc}
use Rattle.table.specs.Rules.{label_limit}

-- how many labels there are, each with an entry
abbrev pub label_count : ℕ
label_count = suc label_limit

-- the entry that names the label which most nodes carry
abbrev pub most_place : ℕ
most_place = label_count

abbrev pub tally_length : ℕ
tally_length = suc label_count
