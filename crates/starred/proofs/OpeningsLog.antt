-- What is proved of `OpeningsLog`.
use Rattle.std.specs.Prelude.{◌≡◌, refl, true, false, List, [], ◌∷◌}
use Rattle.plain_list.specs.PlainList.{with_node}
use Rattle.plain_list.specs.Naive.{naive_answer, naive_same, naive_root}
use Rattle.plain_list.specs.PlainStep.{plain_outcome, plain_run}
use Rattle.sequence.specs.Calls.{leaf, root, question, alike, told_all}
use Rattle.log_fields.specs.Field.{cut_short, next_at, body_at, field_at, whole_field}
use Rattle.lines.specs.Decimal.{digits, digits_up_to}
use Rattle.lines.specs.Line.{values_of, line_of, header_line, end_line}
use Rattle.report.specs.Report.{report}
use Rattle.turn.specs.Session.{step_of}
use Rattle.turn.specs.Asked.{call}
use Rattle.transcript.specs.Transcript.{scratch, read_from, read_log, transcript}
use Rattle.transcript_exact.specs.Listing.{Item, odd, whole, calls_in, replies_from, lines_from, total_of, listing}
use Rattle.starred.specs.Engine.{engine}
use Rattle.starred.specs.WorkedLog.{headed_by0, still}
use Rattle.starred.specs.OpeningsLog.{openings_bytes, openings_lines}

-- by what the program does
pub openings_log : transcript openings_bytes ≡ openings_lines
unfolding transcript read_log read_from step_of report
    field_at whole_field body_at next_at cut_short
    header_line line_of end_line values_of digits digits_up_to
    engine
openings_log = refl

-- and by the plain list, where the calls renumber so many rows, all headed by row 0
abbrev openings_items : List Item
openings_items =
    whole (call (root false 0 scratch))
    ∷ whole (call (leaf 0 7 0 scratch))
    ∷ whole (call (leaf 1 9 0 scratch))
    ∷ whole (call (root true 12 scratch))
    ∷ whole (call (leaf 3 12 0 scratch))
    ∷ whole (call (alike 0 4))
    ∷ whole (call (question 2 4))
    ∷ whole (call (question 0 2))
    ∷ whole (call (root true 10000 scratch))
    ∷ odd 7
    ∷ []

pub openings_listing : listing openings_items (headed_by0 1 ∷ headed_by0 2 ∷ headed_by0 3 ∷ headed_by0 4 ∷ headed_by0 5 ∷ still ∷ still ∷ still ∷ still ∷ []) ≡ openings_lines
unfolding listing calls_in replies_from lines_from total_of
    header_line line_of end_line values_of digits digits_up_to
    told_all plain_outcome plain_run with_node naive_answer naive_same naive_root
openings_listing = refl
