-- The program's reading prints the lines of the fields, by the turns of the run of their calls.
use Rattle.std.specs.Prelude.{◌≡◌, true, false, not, List, [], ◌∷◌, ◌≢◌, eqb, length}
use Rattle.std.proofs.Math.Path.{refl}
use Rattle.std.proofs.Common.{◌∙◌, ne_eqb}
use Prim.Native.Nat.{ℕ, zero, suc, ◌+◌, ◌≤◌, ◌<◌}
use Rattle.std.proofs.Math.Decide.{ℕ_discrete}
use native.Mathlib.Omega.{arith}
use Rattle.log_fields.specs.Outcome.{Outcome, end, refusal as refused_at, field}
use Rattle.log_fields.specs.Field.{field_at}
use Rattle.sequence.specs.Calls.{Call}
use Rattle.sequence.specs.Run.{Fast, step, run, total_in}
use Rattle.report.specs.Printed.{Printed, printed_by}
use Rattle.report.specs.Report.{report}
use Rattle.turn.specs.Asked.{Asked, call, nothing, asked_by}
use Rattle.turn.specs.Session.{Session, whole_field, step_by, step_of}
use Rattle.transcript.specs.PlaceLaws.{step_moves}
use Rattle.transcript.specs.Transcript.{Reached, stopped, before, read_from, scratch}
use Rattle.transcript.specs.TranscriptLaws.{read_on, read_off}
use Rattle.transcript_exact.specs.Logged.{AllLogged, none_logged, logged, Fair, fair_call, fair_nothing}
use Rattle.transcript_exact.proofs.Logged.{asked_fair}
use Rattle.transcript_exact.specs.Listing.{Item, odd, whole, Reads, at_end, cut_short, past_odd, past_whole, calls_in, lines_from}

-- what the replies to calls print, by the turns of the run
unfoldable pub turns_from : Fast → List Call → List Printed
turns_from f [] = []
turns_from f (q ∷ qs) = printed_by q (step f q) ∷ turns_from (step f q).after qs

-- from s on the fields are read, their lines printed, and their calls made
pub record Listed (log : List ℕ) (s : Session) (r : Reached) : Type 0 where
  pub items : List Item
  pub reads : Reads log s.place items
  pub calls : AllLogged (calls_in items)
  pub text : r.text ≡ lines_from s.ordinal items (turns_from s.fast (calls_in items))
  pub fast : r.last.fast ≡ (run s.fast (calls_in items)).last
  pub total : r.last.total ≡ s.total + total_in (run s.fast (calls_in items)).replies

module _ (log : List ℕ) (s : Session) (rest : Reached) where
  -- the log's end
  listed_end : field_at log s.place ≡ end → rest ≡ stopped (step_by scratch s end).after → Listed log s (before [] rest)
  unfolding calls_in lines_from run total_in
  listed_end e z = rw z record { items = []; reads = at_end e; calls = none_logged; text = refl; fast = refl; total = omega arith }

  -- a field that the reader refuses
  listed_cut : {next : ℕ} → field_at log s.place ≡ refused_at 8 next → rest ≡ stopped (step_by scratch s (refused_at 8 next)).after
      → Listed log s (before (step_by scratch s (refused_at 8 next)).text rest)
  unfolding calls_in lines_from run total_in
  listed_cut e z = rw z record { items = odd 8 ∷ []; reads = cut_short e; calls = none_logged; text = refl; fast = refl; total = omega arith }

  listed_odd : {n next : ℕ} → field_at log s.place ≡ refused_at n next → n ≢ 8 → Listed log (step_by scratch s (refused_at n next)).after rest
      → Listed log s (before (step_by scratch s (refused_at n next)).text rest)
  unfolding calls_in lines_from
  listed_odd {n} e d l = record {
    items = odd n ∷ l.items;
    reads = past_odd e d l.reads;
    calls = l.calls;
    text = rw l.text;
    fast = l.fast;
    total = l.total;
  }

  -- a whole field
  listed_asked : {next : ℕ} (a : Asked) → Fair a → ((items : List Item) → Reads log next items → Reads log s.place (whole a ∷ items))
      → Listed log (whole_field s next a).after rest → Listed log s (before (whole_field s next a).text rest)
  unfolding calls_in lines_from turns_from run total_in report
  listed_asked (call q) (fair_call g) r l = record {
    items = whole (call q) ∷ l.items;
    reads = r l.items l.reads;
    calls = logged g l.calls;
    text = rw l.text;
    fast = l.fast;
    total = l.total ∙ omega arith;
  }
  listed_asked nothing fair_nothing r l = record {
    items = whole nothing ∷ l.items;
    reads = r l.items l.reads;
    calls = l.calls;
    text = l.text;
    fast = l.fast;
    total = l.total;
  }

  -- by the field at the place
  listed_field : (o : Outcome) → field_at log s.place ≡ o
      → ((step_by scratch s o).after.on ≡ true → Listed log (step_by scratch s o).after rest)
      → ((step_by scratch s o).after.on ≡ false → rest ≡ stopped (step_by scratch s o).after)
      → Listed log s (before (step_by scratch s o).text rest)
  listed_field end e on off = listed_end e (off refl)
  listed_field (refused_at n next) e on off = elim (ℕ_discrete n 8) [
    | yes z ↦ cut n z e off
    | no d ↦ listed_odd e d (on (rw (ne_eqb n 8 d) refl))
  ]
    where
      cut : (n : ℕ) → n ≡ 8 → field_at log s.place ≡ refused_at n next
          → (not (eqb n 8) ≡ false → rest ≡ stopped (step_by scratch s (refused_at n next)).after) → Listed log s (before (step_by scratch s (refused_at n next)).text rest)
      cut n z e off = let o = rw z at off in rw z (listed_cut (rw z at e) (o refl))
  listed_field (field kind v next) e on off =
      listed_asked (asked_by scratch kind v) (asked_fair scratch kind v) (λ items r. past_whole e r) (on_asked (asked_by scratch kind v) on)
    where
      on_asked : (a : Asked) → ((whole_field s next a).after.on ≡ true → Listed log (whole_field s next a).after rest)
          → Listed log (whole_field s next a).after rest
      on_asked (call q) f = f refl
      on_asked nothing f = f refl

module _ (log : List ℕ) where
  -- all fields, where there is fuel for each
  pub listed : (n : ℕ) (s : Session) → s.on ≡ true → s.place ≤ length log → length log < s.place + n → Listed log s (read_from n log scratch s)
  unfolding step_of
  listed zero s on h enough = absurd (omega arith)
  listed (suc n) s on h enough =
      let m = step_moves log scratch s h in
      rw (read_on log scratch n s on)
      (listed_field log s (read_from n log scratch (step_of log scratch s).after) (field_at log s.place) refl
      (λ o. listed n (step_of log scratch s).after o m.most (omega (arith, m.on o)))
      (λ o. read_off log scratch n (step_of log scratch s).after o))
