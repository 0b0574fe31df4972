-- What is proved of `WorkedLog`.
use Rattle.std.specs.Prelude.{◌≡◌, refl, false, List, [], ◌∷◌}
use Rattle.plain_list.specs.PlainList.{with_node}
use Rattle.plain_list.specs.Naive.{naive_answer, naive_root}
use Rattle.plain_list.specs.PlainStep.{plain_outcome, plain_run}
use Rattle.sequence.specs.Calls.{leaf, root, question, told_all}
use Rattle.log_fields.specs.Field.{cut_short, next_at, body_at, field_at, whole_field}
use Rattle.lines.specs.Bytes.{bytes_of}
use Rattle.lines.specs.Decimal.{digits, digits_up_to}
use Rattle.lines.specs.Line.{values_of, line_of, header_line, end_line}
use Rattle.report.specs.Report.{report}
use Rattle.turn.specs.Session.{step_of}
use Rattle.turn.specs.Asked.{call}
use Rattle.transcript.specs.Transcript.{scratch, read_from, read_log, transcript}
use Rattle.transcript_exact.specs.Listing.{Item, whole, calls_in, replies_from, lines_from, total_of, listing}
use Rattle.starred.specs.Engine.{engine}
use Rattle.starred.specs.WorkedLog.{headed_by0, nine_lines, still, worked_bytes}

-- by what the program does
pub worked_log : transcript worked_bytes ≡ nine_lines
unfolding transcript read_log read_from step_of report
    field_at whole_field body_at next_at cut_short
    header_line line_of end_line values_of digits digits_up_to
    engine
worked_log = refl

-- and by the plain list, where the seven calls renumber so many rows, all headed by row 0
abbrev worked_items : List Item
worked_items =
    whole (call (root false 0 scratch))
    ∷ whole (call (leaf 0 7 0 scratch))
    ∷ whole (call (leaf 1 9 0 scratch))
    ∷ whole (call (question 1 2))
    ∷ whole (call (leaf 5 7 0 scratch))
    ∷ whole (call (root false 0 scratch))
    ∷ whole (call (question 2 3))
    ∷ []

pub worked_listing : listing worked_items (headed_by0 1 ∷ headed_by0 2 ∷ headed_by0 3 ∷ still ∷ still ∷ headed_by0 4 ∷ still ∷ []) ≡ nine_lines
unfolding listing calls_in replies_from lines_from total_of
    header_line line_of end_line values_of digits digits_up_to
    told_all plain_outcome plain_run with_node naive_answer naive_root
worked_listing = refl

-- the empty log
pub empty_log : transcript [] ≡ bytes_of "echo 128\nend 0 0\n"
unfolding transcript read_log read_from step_of field_at header_line end_line digits digits_up_to
empty_log = refl
