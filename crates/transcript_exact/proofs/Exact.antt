-- The program keeps `TranscriptExact` on every log.
use Rattle.std.specs.Prelude.{◌≡◌, refl, List, ℕ, suc, length}
use Rattle.std.proofs.Common.{sym, ap, ◌∙◌, arith}
use Rattle.plain_list.specs.PlainList.{empty_list}
use Rattle.plain_list.proofs.Joinings.{unlinked}
use Rattle.sequence.specs.Run.{Fast, table_in, start, run, total_in}
use Rattle.sequence.proofs.Invariant.{start_stands}
use Rattle.sequence.proofs.SequenceExact.{sequence_exact, total_nodes}
use Rattle.transcript.specs.Transcript.{read_log, rows, lent, lent_tally, scratch, opening, transcript}
use Rattle.transcript.specs.WholeLaws.{lent_fits, lent_long}
use Rattle.transcript_exact.specs.Listing.{calls_in, listing}
use Rattle.transcript_exact.specs.Exact.{TranscriptExact}
use Rattle.transcript_exact.proofs.LevelLaws.{one_empty}
use Rattle.transcript_exact.proofs.Logged.{logged_linkless}
use Rattle.transcript_exact.proofs.ReadingLaws.{listed}
use Rattle.transcript_exact.proofs.ReplyLaws.{rows_sum, turns_plain}

pub transcript_exact : (log : List ℕ) → TranscriptExact log
unfolding transcript read_log listing
transcript_exact log =
    let l = listed log (suc (length log)) opening refl (omega arith) (omega arith) in
    let e = sequence_exact rows lent lent_tally lent_fits lent_long (calls_in l.items) in
    let total : (read_log log scratch opening).last.total ≡ total_in (run (start lent lent_tally) (calls_in l.items)).replies = l.total ∙ omega arith in
    let printed = turns_plain (start_stands rows lent lent_tally lent_fits lent_long) (one_empty (table_in (start lent lent_tally)) refl) l.calls in
    record {
      items = l.items;
      reads = l.reads;
      calls = e;
      lines = rw (l.text, printed, ap (λ (f : Fast). f.state.count) l.fast ∙ sym e.count, total ∙ rows_sum (run (start lent lent_tally) (calls_in l.items)).replies);
      table = l.fast;
      total = total;
      most = rw (total, l.fast) (total_nodes e (unlinked rows empty_list (logged_linkless l.calls)));
    }
