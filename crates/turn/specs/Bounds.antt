-- Bounds that keep the program's numbers within 32 bits and its lines within 96 bytes.
use Rattle.std.specs.Prelude.{◌+◌, ◌^◌, ◌≤◌, ◌<◌, length}
use Rattle.lines.specs.declared.Text.{Text}
use Rattle.turn.specs.declared.Reading.{Reading}
use Rattle.turn.specs.declared.Turn.{Turn}

-- there is room for one field more
pub record Small (r : Reading) : Type 0 where
  pub ordinal : r.ordinal < 2 ^ 31
  pub total : r.total < 2 ^ 31

-- a text has as many bytes as it says, and at most 96
pub record Holds (t : Text) : Type 0 where
  pub most : t.len ≤ 96
  pub bytes : t.len ≤ length t.bytes

-- what a field adds
pub record Grows (r : Reading) (t : Turn) : Type 0 where
  pub text : Holds t.text
  pub ordinal : t.reading.ordinal ≤ r.ordinal + 1
  pub total : t.reading.total ≤ r.total + 65535
