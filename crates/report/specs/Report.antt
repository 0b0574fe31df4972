-- What a call on the table prints, renumbers and leaves, by the very definitions that the calls' contracts name.
use Rattle.std.specs.Prelude.{List, ℕ}
use Rattle.table.specs.Parts.{Parts}
use Rattle.table.specs.declared.state.State.{State}
use Rattle.sequence.specs.Calls.{Call}
use Rattle.sequence.specs.Run.{Fast, Turn, step, rows_in}
use Rattle.report.specs.declared.serve.Served.{Served}
use Rattle.report.specs.Printed.{Printed, printed_by, printed_of}

pub record Report : Type 0 where
  pub printed : Printed
  pub rows : ℕ
  pub after : Fast

abbrev pub report_by : Call → Turn → Report
report_by q t = record { printed = printed_by q t; rows = rows_in t.reply; after = t.after }

-- the report of a call
unfoldable pub report : Fast → Call → Report
report f q = report_by q (step f q)

-- the lent parts and the tally with their count
abbrev pub fast_of : Parts → List ℕ → State → Fast
fast_of t w s = record { parts = t; tally = w; state = s }

-- what the code answers, on the parts and the tally as it leaves them
abbrev pub report_of : Parts → List ℕ → Served → Report
report_of t w r = record { printed = printed_of r.shown; rows = r.rows; after = fast_of t w r.state }
