-- The parts behind what a call is lent; that a call keeps the loans: what it writes, it writes to the parts that it was lent; and that it keeps their lengths.
use Rattle.std.specs.Prelude.{◌≡◌, length}
use Rattle.table.specs.declared.parts.Parts.{Parts}
use Rattle.table.specs.declared.parts.PartsMut.{PartsMut}
use Rattle.table.specs.Parts.{Parts as Lists, parts_of}

abbrev pub parts_in : Parts → Lists
parts_in t = parts_of t.fields.now t.numbers.now t.levels.now t.ancestors.now

abbrev pub parts_in_mut : PartsMut → Lists
parts_in_mut t = parts_of t.fields.now t.numbers.now t.levels.now t.ancestors.now

pub record SameLoans (s t : PartsMut) : Type 0 where
  pub fields : t.fields.ghost_name ≡ s.fields.ghost_name
  pub numbers : t.numbers.ghost_name ≡ s.numbers.ghost_name
  pub levels : t.levels.ghost_name ≡ s.levels.ghost_name
  pub ancestors : t.ancestors.ghost_name ≡ s.ancestors.ghost_name

-- each part is as long as it was
pub record SameLengths (s t : PartsMut) : Type 0 where
  pub fields : length t.fields.now ≡ length s.fields.now
  pub numbers : length t.numbers.now ≡ length s.numbers.now
  pub levels : length t.levels.now ≡ length s.levels.now
  pub ancestors : length t.ancestors.now ≡ length s.ancestors.now
