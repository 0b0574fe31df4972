-- What is proved of `FacesLog`.
use Rattle.std.specs.Prelude.{◌≡◌, refl, true, false, List, [], ◌∷◌, ℕ}
use Rattle.plain_list.specs.PlainList.{with_node}
use Rattle.plain_list.specs.Naive.{naive_answer, naive_same, naive_root}
use Rattle.plain_list.specs.PlainStep.{plain_outcome, plain_run}
use Rattle.sequence.specs.Calls.{leaf, root, question, alike, told_all}
use Rattle.log_fields.specs.Field.{cut_short, next_at, body_at, field_at, whole_field}
use Rattle.lines.specs.Decimal.{digits, digits_up_to}
use Rattle.lines.specs.Line.{values_of, line_of, header_line, end_line}
use Rattle.report.specs.Report.{report}
use Rattle.turn.specs.Session.{step_of}
use Rattle.turn.specs.Asked.{call}
use Rattle.transcript.specs.Transcript.{scratch, read_from, read_log, transcript}
use Rattle.transcript_exact.specs.Listing.{Item, odd, whole, calls_in, replies_from, lines_from, total_of, Renumbering, listing}
use Rattle.starred.specs.Engine.{engine}
use Rattle.starred.specs.WorkedLog.{headed_by0, still}
use Rattle.starred.specs.FacesLog.{faces_bytes, faces_lines}

-- by what the program does
pub faces_log : transcript faces_bytes ≡ faces_lines
unfolding transcript read_log read_from step_of report
    field_at whole_field body_at next_at cut_short
    header_line line_of end_line values_of digits digits_up_to
    engine
faces_log = refl

-- and by the plain list, where the calls renumber so many rows, headed by row 0 or by the new root 6
abbrev faces_items : List Item
faces_items =
    whole (call (root false 0 scratch))
    ∷ whole (call (leaf 0 7 0 scratch))
    ∷ whole (call (leaf 0 7 1 scratch))
    ∷ whole (call (leaf 0 7 0 scratch))
    ∷ whole (call (alike 1 2))
    ∷ whole (call (alike 1 3))
    ∷ whole (call (leaf 2 9 1 scratch))
    ∷ whole (call (leaf 3 9 1 scratch))
    ∷ whole (call (alike 4 5))
    ∷ whole (call (root true 12 scratch))
    ∷ whole (call (leaf 6 12 1 scratch))
    ∷ whole (call (leaf 6 12 0 scratch))
    ∷ whole (call (alike 0 7))
    ∷ whole (call (alike 0 8))
    ∷ whole (call (question 4 5))
    ∷ whole (call (leaf 0 7 2 scratch))
    ∷ odd 7
    ∷ []

abbrev headed_by6 : ℕ → Renumbering
headed_by6 k = record { rows = k; head = 6 }

abbrev faces_renumber : List Renumbering
faces_renumber =
    headed_by0 1 ∷ headed_by0 2 ∷ headed_by0 3 ∷ headed_by0 4 ∷ still ∷ still ∷ headed_by0 5 ∷ headed_by0 6 ∷ still ∷ headed_by6 1 ∷ headed_by0 8 ∷ headed_by6 3
    ∷ still ∷ still ∷ still ∷ still ∷ []

pub faces_listing : listing faces_items faces_renumber ≡ faces_lines
unfolding listing calls_in replies_from lines_from total_of
    header_line line_of end_line values_of digits digits_up_to
    told_all plain_outcome plain_run with_node naive_answer naive_same naive_root
faces_listing = refl
