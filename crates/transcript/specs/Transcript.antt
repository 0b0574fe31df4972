-- All that the program prints for a log (01, "Program and figures to check").
use Rattle.std.specs.Prelude.{true, List, [], ◌++◌, ℕ, zero, suc, ◌*◌, pos, length, replicate}
use Rattle.laws.specs.Test.{pick}
use Rattle.lines.specs.Line.{header_line, end_line}
use Rattle.layer.specs.Layout.{field_stride, number_stride, entry_stride}
use Rattle.table.specs.Parts.{Parts, parts_of}
use Rattle.table.specs.Scratch.{least_scratch}
use Rattle.tally.specs.Layout.{tally_length}
use Rattle.sequence.specs.Run.{start}
use Rattle.turn.specs.Session.{Session, step_of}

-- what the fields printed, and where the reading ended
pub record Reached : Type 0 where
  pub text : List ℕ
  pub last : Session

abbrev pub stopped : Session → Reached
stopped s = record { text = []; last = s }

-- a field's line before what the rest prints
abbrev pub before : List ℕ → Reached → Reached
before text r = record { text = text ++ r.text; last = r.last }

-- the fields one after another, at most n of them
unfoldable pub read_from : ℕ → List ℕ → List ℕ → Session → Reached
read_from zero log scratch s = stopped s
read_from (suc n) log scratch s = pick s.on (before (step_of log scratch s).text (read_from n log scratch (step_of log scratch s).after)) (stopped s)

-- all fields of a log: each but the last takes three bytes or more
unfoldable pub read_log : List ℕ → List ℕ → Session → Reached
read_log log scratch s = read_from (suc (length log)) log scratch s

-- the program's capacity, and the parts, the tally and the scratch that it lends
abbrev pub rows : ℕ
rows = 128

abbrev pub lent : Parts
lent = parts_of (replicate (rows * field_stride) 0) (replicate (rows * number_stride) 0) (replicate rows (pos 0)) (replicate (rows * entry_stride) 0)

abbrev pub lent_tally : List ℕ
lent_tally = replicate tally_length 0

abbrev pub scratch : List ℕ
scratch = replicate least_scratch 0

-- before the first field, which has ordinal 1
abbrev pub opening : Session
opening = record { place = 0; ordinal = 1; total = 0; fast = start lent lent_tally; on = true }

-- the header, the lines of the fields, and the last line with the count and the total renumbered
abbrev pub framed : Reached → List ℕ
framed r = header_line rows ++ r.text ++ end_line r.last.fast.state.count r.last.total

unfoldable pub transcript : List ℕ → List ℕ
transcript log = framed (read_log log scratch opening)
