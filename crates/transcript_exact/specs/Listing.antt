-- The listing of a log by meaning (01, "Program and figures to check"): its fields, the plain list's replies to the calls that they ask for, and a line
-- to each. The plain list does not tell how many rows a call renumbers, nor their head, so both are handed in. The head stands last in a line (02).
use Rattle.std.specs.Prelude.{◌≡◌, true, List, [], ◌∷◌, ◌++◌, ◌≢◌, ℕ, ◌+◌, pos}
use Rattle.log_fields.specs.Outcome.{end, refusal as refused_at, field}
use Rattle.log_fields.specs.Field.{field_at}
use Rattle.lines.specs.Line.{header_line, end_line}
use Rattle.plain_list.specs.PlainList.{PlainList, empty_list, count_of}
use Rattle.plain_list.specs.PlainStep.{PlainReply, refusal as plain_refusal, node as plain_node, linked as plain_linked, answered as plain_answered, same as plain_same, passes as plain_passes}
use Rattle.plain_list.specs.PlainStep.{plain_outcome, plain_run}
use Rattle.sequence.specs.Calls.{Call, told, told_all, Reply, refusal, node, linked, answered, same, passes}
use Rattle.sequence.specs.Run.{rows_in, head_in}
use Rattle.report.specs.Printed.{Printed, printed_refusal, printed, letter_of, printed_line}
use Rattle.turn.specs.Asked.{Asked, call, nothing, asked_by}
use Rattle.transcript_exact.specs.Level.{level_in}
use Rattle.transcript.specs.Transcript.{rows, scratch}

-- ---- the fields

-- a field that the reader refuses, by the refusal's number, or a whole field
pub data Item : Type 0 where
  odd : ℕ → Item
  whole : Asked → Item

-- the fields of a log from a place on: to the log's end, or to refusal 8, which ends the reading
pub data Reads (log : List ℕ) : ℕ → List Item → Type 0 where
  at_end : {place : ℕ} → field_at log place ≡ end → Reads log place []
  cut_short : {place next : ℕ} → field_at log place ≡ refused_at 8 next → Reads log place (odd 8 ∷ [])
  past_odd : {place n next : ℕ} {items : List Item} → field_at log place ≡ refused_at n next → n ≢ 8 → Reads log next items → Reads log place (odd n ∷ items)
  past_whole : {place kind next : ℕ} {v : List ℕ} {items : List Item} → field_at log place ≡ field kind v next → Reads log next items
      → Reads log place (whole (asked_by scratch kind v) ∷ items)

-- the calls that fields ask for, in their order
unfoldable pub calls_in : List Item → List Call
calls_in [] = []
calls_in (odd n ∷ items) = calls_in items
calls_in (whole nothing ∷ items) = calls_in items
calls_in (whole (call q) ∷ items) = q ∷ calls_in items

-- ---- the replies

-- how many rows a call renumbers, and their head
pub record Renumbering : Type 0 where
  pub rows : ℕ
  pub head : ℕ

-- the plain list's reply, with what the call renumbers
abbrev pub with_renumbering : PlainReply → Renumbering → Reply
with_renumbering (plain_refusal n) k = refusal n
with_renumbering (plain_node n) k = node n k.rows k.head
with_renumbering plain_linked k = linked k.rows k.head
with_renumbering (plain_answered r) k = answered r.nca r.to_x r.to_y (pos r.distance_x) (pos r.distance_y) r.label
with_renumbering (plain_same b) k = same b
with_renumbering plain_passes k = passes true

-- what the plain list's replies to calls print, from the list p on, where the calls renumber these; the level is that in the list after the call
unfoldable pub replies_from : PlainList → List Call → List Renumbering → List Printed
replies_from p [] ks = []
replies_from p (q ∷ qs) [] = []
replies_from p (q ∷ qs) (k ∷ ks) =
    let o = plain_outcome rows p (told q) in
    printed (letter_of q) (level_in o.after) (with_renumbering o.reply k) ∷ replies_from o.after qs ks

-- what a reply says was renumbered
abbrev pub renumbering_in : Reply → Renumbering
renumbering_in r = record { rows = rows_in r; head = head_in r }

-- and what replies say
unfoldable pub renumberings_in : List Reply → List Renumbering
renumberings_in [] = []
renumberings_in (r ∷ rs) = renumbering_in r ∷ renumberings_in rs

-- ---- the lines

-- the lines of fields, the first of them of this ordinal, by what the replies to their calls print. Each field takes an ordinal; one that the reader
-- refuses prints the refusal, one that asks for a call the reply to it, and filler prints no line
unfoldable pub lines_from : ℕ → List Item → List Printed → List ℕ
lines_from i [] replies = []
lines_from i (odd n ∷ items) replies = printed_line i (printed_refusal n) ++ lines_from (i + 1) items replies
lines_from i (whole nothing ∷ items) replies = lines_from (i + 1) items replies
lines_from i (whole (call q) ∷ items) [] = []
lines_from i (whole (call q) ∷ items) (r ∷ replies) = printed_line i r ++ lines_from (i + 1) items replies

unfoldable pub total_of : List Renumbering → ℕ
total_of [] = 0
total_of (k ∷ ks) = k.rows + total_of ks

-- header, a line to each field, and the last line with the count and the total renumbered
unfoldable pub listing : List Item → List Renumbering → List ℕ
listing items ks =
    header_line rows
    ++ lines_from 1 items (replies_from empty_list (calls_in items) ks)
    ++ end_line (count_of (plain_run rows empty_list (told_all (calls_in items))).last) (total_of ks)
