-- All that the program prints is the listing of the log: each line is the plain list's reply in 01's form, with the rows that the call renumbered and their
-- head. The calls are a list of demand 3, and the table and the total that the program ends with are those of that list.
use Rattle.std.specs.Prelude.{◌≡◌, List, ℕ, ◌*◌, ◌≤◌}
use Rattle.sequence.specs.Run.{start, run, total_in}
use Rattle.sequence.specs.SequenceExact.{SequenceExact, rows_per_joining}
use Rattle.transcript.specs.Transcript.{read_log, rows, lent, lent_tally, scratch, opening, transcript}
use Rattle.transcript_exact.specs.Listing.{Item, Reads, calls_in, renumberings_in, listing}

pub record TranscriptExact (log : List ℕ) : Type 0 where
  -- the fields of the log
  pub items : List Item
  pub reads : Reads log 0 items
  -- what demand 3 says of their calls: every reply is the plain list's, and tells the rows renumbered and their head; the tally is the plain list's
  pub calls : SequenceExact rows lent lent_tally (calls_in items)
  -- the lines, one by one
  pub lines : transcript log ≡ listing items (renumberings_in (run (start lent lent_tally) (calls_in items)).replies)
  -- what the program ends with
  pub table : (read_log log scratch opening).last.fast ≡ (run (start lent lent_tally) (calls_in items)).last
  pub total : (read_log log scratch opening).last.total ≡ total_in (run (start lent lent_tally) (calls_in items)).replies
  -- at most 120 rows for each node
  pub most : (read_log log scratch opening).last.total ≤ rows_per_joining * (read_log log scratch opening).last.fast.state.count
