-- The fields of a log one after another (01, "Program and figures to check").
use Rattle.std.specs.Prelude.{Bool, true, false, not, List, [], ℕ, ◌+◌, eqb, take}
use Rattle.log_fields.specs.Outcome.{Outcome, end, refusal, field}
use Rattle.log_fields.specs.Field.{field_at}
use Rattle.lines.specs.declared.Text.{Text}
use Rattle.table.specs.Parts.{Parts}
use Rattle.sequence.specs.Run.{Fast}
use Rattle.report.specs.Printed.{printed_refusal, printed_line}
use Rattle.report.specs.Report.{Report, report, fast_of}
use Rattle.turn.specs.declared.Reading.{Reading}
use Rattle.turn.specs.declared.Turn.{Turn}
use Rattle.turn.specs.Asked.{Asked, call, nothing, asked_by}

-- how far the log is read, the ordinal of the next field, the rows renumbered so far, the table, and whether the reading goes on
pub record Session : Type 0 where
  pub place : ℕ
  pub ordinal : ℕ
  pub total : ℕ
  pub fast : Fast
  pub on : Bool

-- what a field prints, and what stands after it
pub record Step : Type 0 where
  pub text : List ℕ
  pub after : Session

-- a call's field prints its line
abbrev pub reported : ℕ → ℕ → ℕ → Report → Step
reported ordinal total next r =
    record {
      text = printed_line ordinal r.printed;
      after = record { place = next; ordinal = ordinal + 1; total = total + r.rows; fast = r.after; on = true };
    }

-- a step that prints no line and asks nothing of the table
abbrev pub silent : Session → ℕ → ℕ → Bool → Step
silent s place ordinal on = record { text = []; after = record { place = place; ordinal = ordinal; total = s.total; fast = s.fast; on = on } }

-- filler takes an ordinal and prints no line
abbrev pub filled : Session → ℕ → Step
filled s next = silent s next (s.ordinal + 1) true

-- a refusal of the reader prints its line; refusal 8 ends the reading
abbrev pub refused_field : Session → ℕ → ℕ → Step
refused_field s n next =
    record {
      text = printed_line s.ordinal (printed_refusal n);
      after = record { place = next; ordinal = s.ordinal + 1; total = s.total; fast = s.fast; on = not (eqb n 8) };
    }

-- the log's end
abbrev pub ended : Session → Step
ended s = silent s s.place s.ordinal false

abbrev pub whole_field : Session → ℕ → Asked → Step
whole_field s next (call q) = reported s.ordinal s.total next (report s.fast q)
whole_field s next nothing = filled s next

abbrev pub step_by : List ℕ → Session → Outcome → Step
step_by scratch s end = ended s
step_by scratch s (refusal n next) = refused_field s n next
step_by scratch s (field kind v next) = whole_field s next (asked_by scratch kind v)

-- the next field of a log
unfoldable pub step_of : List ℕ → List ℕ → Session → Step
step_of log scratch s = step_by scratch s (field_at log s.place)

-- ---- what the code has of it

abbrev pub session_of : Parts → List ℕ → Reading → Session
session_of t w r = record { place = r.place; ordinal = r.ordinal; total = r.total; fast = fast_of t w r.state; on = r.on }

-- the bytes of a text
abbrev pub written : Text → List ℕ
written t = take t.len t.bytes

abbrev pub turn_of : Parts → List ℕ → Turn → Step
turn_of t w r = record { text = written r.text; after = session_of t w r.reading }
