-- What is proved of `SequenceExact`.
use Rattle.std.specs.Prelude.{◌≡◌, List, [], ◌∷◌, ℕ, ◌+◌, ◌*◌, ◌≤◌, length}
use Rattle.std.proofs.Common.{arith}
use Rattle.table.specs.Parts.{Parts}
use Rattle.table.specs.Capacity.{Fits}
use Rattle.tally.specs.Layout.{tally_length}
use Rattle.set_up.specs.Blank.{set_up}
use Rattle.set_up.specs.BlankLaws.{set_up_served}
use Rattle.plain_list.specs.PlainList.{PlainList, empty_list}
use Rattle.plain_list.specs.PlainStep.{plain_outcome, plain_run}
use Rattle.plain_list.specs.StoredList.{StoredList, stored_run}
use Rattle.plain_list.specs.Joinings.{Unlinked}
use Rattle.plain_list.proofs.Joinings.{joinings_count}
use Rattle.sequence.specs.Calls.{Call, first, leaf, root, root_over, link, question, alike, inspection, told, told_all}
use Rattle.sequence.specs.Run.{Fast, start, step, run, total_in}
use Rattle.sequence.specs.Agrees.{AllAgree, end, next}
use Rattle.sequence.specs.Invariant.{Stands}
use Rattle.sequence.proofs.Invariant.{start_stands}
use Rattle.sequence.proofs.Tally.{tally_shown}
use Rattle.sequence.specs.StepExact.{StepStands}
use Rattle.sequence.proofs.AskedSteps.{question_step, alike_step, inspection_step}
use Rattle.sequence.proofs.GrowthSteps.{first_step, leaf_step, root_step, over_step}
use Rattle.sequence.proofs.LinkSteps.{link_step}
use Rattle.sequence.specs.SequenceExact.{EachExact, SequenceExact, done, rows_per_joining, then}

-- One call

module _ {c : ℕ} {f : Fast} {p : PlainList} {l : StoredList} {total joinings : ℕ} (s : Stands c f p l total joinings) where
  pub step_exact : (q : Call) → StepStands c f p l total joinings q (plain_outcome c p (told q)) (step f q)
  step_exact (first scratch) = first_step s scratch
  step_exact (leaf v l a scratch) = leaf_step s v l a scratch
  step_exact (root named opening scratch) = root_step s named opening scratch
  step_exact (root_over x named opening scratch) = over_step s x named opening scratch
  step_exact (link x v door scratch) = link_step s x v door scratch
  step_exact (question x y) = question_step s x y
  step_exact (alike x y) = alike_step s x y
  step_exact (inspection scratch) = inspection_step s scratch

-- From wherever the table stands beside the lists

record RunExact (c : ℕ) (f : Fast) (p : PlainList) (l : StoredList) (total joinings : ℕ) (calls : List Call) : Type 0 where
  replies : AllAgree (plain_run c p (told_all calls)).replies (run f calls).replies
  each : EachExact c f p l calls
  stands : Stands c (run f calls).last (plain_run c p (told_all calls)).last (stored_run c p l (told_all calls)) (total + total_in (run f calls).replies)
      (joinings + (plain_run c p (told_all calls)).joinings)

stands_at : {c : ℕ} {f : Fast} {p : PlainList} {l : StoredList} {m n i j : ℕ} → m ≡ n → i ≡ j → Stands c f p l m i → Stands c f p l n j
stands_at e d s = rw (← e, ← d) s

run_from : (calls : List Call) → {c : ℕ} {f : Fast} {p : PlainList} {l : StoredList} {total joinings : ℕ} → Stands c f p l total joinings
    → RunExact c f p l total joinings calls
unfolding plain_run stored_run run told_all total_in
run_from [] s = record { replies = end; each = done; stands = stands_at (omega arith) (omega arith) s }
run_from (q ∷ qs) {c} {f} {p} {l} s =
    let one = step_exact s q in
    let rest = run_from qs one.stands in
    record {
      replies = next one.exact.agrees rest.replies;
      each = then one.exact rest.each;
      stands = stands_at (omega arith) (omega arith) rest.stands;
    }

run_exact : {c : ℕ} {f : Fast} {p : PlainList} {l : StoredList} {total joinings : ℕ} → Stands c f p l total joinings → (calls : List Call)
    → RunExact c f p l total joinings calls
run_exact s calls = run_from calls s

-- The theorem

pub sequence_exact : (c : ℕ) (parts : Parts) (w : List ℕ) → Fits c parts → length w ≡ tally_length → (calls : List Call) → SequenceExact c parts w calls
sequence_exact c parts w f long calls =
    let r = run_exact (start_stands c parts w f long) calls in
    let s = r.stands in
    record {
      set_up = set_up_served parts w c f long;
      replies = r.replies;
      each = r.each;
      total = omega (arith, s.paid);
      fits = s.fits;
      rules = s.rules;
      count = s.count;
      shows = s.shows;
      stored = s.stored;
      tally = tally_shown s.proper s.shows s.count s.tally;
    }

-- What follows from it

-- where no tree was linked, at most 120 rows are renumbered for each node (01)
pub total_nodes : {c : ℕ} {parts : Parts} {w : List ℕ} {calls : List Call} → SequenceExact c parts w calls → Unlinked (plain_run c empty_list (told_all calls)).replies
    → total_in (run (start parts w) calls).replies ≤ rows_per_joining * (run (start parts w) calls).last.state.count
total_nodes {c} {calls = calls} e u = omega (arith, e.total, e.count, joinings_count c (told_all calls) u)
