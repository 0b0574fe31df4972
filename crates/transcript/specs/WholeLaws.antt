-- Header, fields and last line, one after another, are the transcript.
use Rattle.std.specs.Prelude.{◌≡◌, Bool, true, false, Result, Ok, Err, List, ◌++◌, ℕ, ◌*◌, pos, length}
use Rattle.std.proofs.Common.{sym, ◌∙◌, true≢false, arith}
use Rattle.std.proofs.Math.Path.{ap}
use Rattle.std.proofs.lemmas.List.{length-replicate}
use Rattle.lines.specs.declared.Text.{Text}
use Rattle.lines.specs.Text.{text_of}
use Rattle.lines.specs.Line.{header_line, end_line}
use Rattle.table.specs.declared.refusal.Refusal.{Refusal}
use Rattle.table.specs.declared.state.State.{State}
use Rattle.layer.specs.Layout.{field_stride, number_stride, entry_stride}
use Rattle.table.specs.Parts.{Parts}
use Rattle.table.specs.Capacity.{Fits}
use Rattle.tally.specs.Layout.{tally_length}
use Rattle.set_up.specs.Outcome.{Outcome, refusal, empty, outcome_of}
use Rattle.set_up.specs.Blank.{set_up, parts_after, tally_after}
use Rattle.set_up.specs.BlankLaws.{set_up_served}
use Rattle.turn.specs.declared.Reading.{Reading}
use Rattle.turn.specs.Session.{Session, session_of, written}
use Rattle.turn.specs.SessionLaws.{written_text}
use Rattle.transcript.specs.Transcript.{read_log, rows, lent, lent_tally, scratch, opening, transcript}

-- ---- set-up

pub lent_fits : Fits rows lent
lent_fits =
    record {
      least = omega arith;
      most = omega arith;
      levels = length-replicate rows (pos 0);
      fields = length-replicate {A = ℕ} (rows * field_stride) 0;
      numbers = length-replicate {A = ℕ} (rows * number_stride) 0;
      ancestors = length-replicate {A = ℕ} (rows * entry_stride) 0;
    }

pub lent_long : length lent_tally ≡ tally_length
lent_long = length-replicate {A = ℕ} tally_length 0

abbrev none_yet : State
none_yet = record { count = 0 }

lent_empty : set_up lent lent_tally ≡ empty 0
lent_empty = set_up_served lent lent_tally rows lent_fits lent_long

is_empty : Outcome → Bool
is_empty (empty c) = true
is_empty (refusal n) = false

count_in : Outcome → ℕ
count_in (empty c) = c
count_in (refusal n) = 0

pub set_up_not_refused : (m : Result State Refusal) (r : Refusal) → outcome_of m ≡ set_up lent lent_tally → m ≡ Err r → ⊥
unfolding is_empty
set_up_not_refused m r e f = true≢false (ap is_empty (sym lent_empty ∙ sym e ∙ ap outcome_of f))

pub set_up_state : (m : Result State Refusal) (s : State) → outcome_of m ≡ set_up lent lent_tally → m ≡ Ok s → s ≡ none_yet
unfolding count_in
set_up_state m s e f = ap (λ (c : ℕ). record { count = c }) (ap count_in (ap outcome_of (sym f) ∙ e ∙ lent_empty))

pub opens : (t : Parts) (w : List ℕ) (s : State) → t ≡ parts_after lent lent_tally → w ≡ tally_after lent lent_tally → s ≡ none_yet
    → session_of t w (record { place = 0; ordinal = 1; total = 0; state = s; on = true }) ≡ opening
opens t w s e k f = rw (e, k, f)

-- ---- the text

-- the last line, by where the reading ended
abbrev last_line : Session → List ℕ
last_line s = end_line s.fast.state.count s.total

-- what stands in the buffer after each part, where the reading starts at s
module _ (log : List ℕ) (s : Session) (t : Parts) (w : List ℕ) (r : Reading) (header end : Text) {headed read whole : List ℕ} where
  pub transcribed : s ≡ opening → header ≡ text_of (header_line rows) → headed ≡ written header
      → read ≡ headed ++ (read_log log scratch s).text → session_of t w r ≡ (read_log log scratch s).last
      → end ≡ text_of (end_line r.state.count r.total) → whole ≡ read ++ written end
      → whole ≡ transcript log
  unfolding transcript
  transcribed o h one two l e three =
      let fields = ap (λ (x : Session). (read_log log scratch x).text) o in
      let last = written_text end _ e ∙ ap last_line (l ∙ ap (λ (x : Session). (read_log log scratch x).last) o) in
      rw (three, two, one, written_text header _ h, fields, last)
