-- Demand 3 (01, "Demand 3 and the plain list"; 02, "Coupled rooms"): a list of calls, of any length, from what set-up leaves, gives the outcomes of the
-- plain list. All of it is one claim about the list.
use Rattle.std.specs.Prelude.{◌≡◌, List, [], ◌∷◌, ℕ, ◌*◌, ◌≤◌}
use Rattle.table.specs.Parts.{Parts}
use Rattle.table.specs.Capacity.{Fits}
use Rattle.table.specs.Rules.{Rules}
use Rattle.layer.specs.Layer.{parent}
use Rattle.table.specs.PlainTree.{plain}
use Rattle.set_up.specs.Outcome.{empty}
use Rattle.set_up.specs.Blank.{set_up}
use Rattle.plain_list.specs.PlainList.{PlainList, empty_list, count_of}
use Rattle.plain_list.specs.PlainStep.{plain_outcome, plain_after, plain_run}
use Rattle.plain_list.specs.PlainTally.{PlainTally}
use Rattle.plain_list.specs.Shows.{Shows}
use Rattle.plain_list.specs.StoredList.{StoredList, stored_after, stored_run}
use Rattle.plain_list.specs.Stores.{Stores}
use Rattle.sequence.specs.Calls.{Call, told, told_all}
use Rattle.sequence.specs.Run.{Fast, table_in, start, step, run, total_in}
use Rattle.sequence.specs.Agrees.{AllAgree}
use Rattle.sequence.specs.StepExact.{StepExact}

-- each call of the list, on what the calls before it left, is exact
pub data EachExact (c : ℕ) : Fast → PlainList → StoredList → List Call → Type 0 where
  done : {f : Fast} {p : PlainList} {l : StoredList} → EachExact c f p l []
  then : {f : Fast} {p : PlainList} {l : StoredList} {q : Call} {qs : List Call}
      → StepExact c f (stored_after c p l (told q)) q (plain_outcome c p (told q)) (step f q)
      → EachExact c (step f q).after (plain_after c p (told q)) (stored_after c p l (told q)) qs → EachExact c f p l (q ∷ qs)

-- over all calls, at most so many rows are renumbered for each joining
abbrev pub rows_per_joining : ℕ
rows_per_joining = 120

-- the calls, one after another, from what set-up leaves in parts of capacity c and a tally w
pub record SequenceExact (c : ℕ) (parts : Parts) (w : List ℕ) (calls : List Call) : Type 0 where
  -- set-up is never refused
  pub set_up : set_up parts w ≡ empty 0
  -- every reply is the plain list's
  pub replies : AllAgree (plain_run c empty_list (told_all calls)).replies (run (start parts w) calls).replies
  -- each question draws on few rows; each served growth answers the rows at or below its head in the stored tree and the head, each served link those of
  -- its joinings and the first row of the receiving tree, and both leave what their frame names; the tally is the plain list's; a refusal changes nothing
  pub each : EachExact c (start parts w) empty_list [] calls
  -- the rows renumbered by all calls together
  pub total : total_in (run (start parts w) calls).replies ≤ rows_per_joining * (plain_run c empty_list (told_all calls)).joinings
  -- at the end the parts fit, the table passes inspection, its count, plain trees, labels and faces are the plain list's, its stored trees the stored list's, and
  -- the tally is the full count over the plain list's labels
  pub fits : Fits c (run (start parts w) calls).last.parts
  pub rules : Rules c (table_in (run (start parts w) calls).last)
  pub count : count_of (plain_run c empty_list (told_all calls)).last ≡ (run (start parts w) calls).last.state.count
  pub shows : Shows (plain (table_in (run (start parts w) calls).last)) (table_in (run (start parts w) calls).last).label (table_in (run (start parts w) calls).last).face (plain_run c empty_list (told_all calls)).last
  pub stored : Stores (parent (table_in (run (start parts w) calls).last).layer) (run (start parts w) calls).last.state.count
      (stored_run c empty_list [] (told_all calls))
  pub tally : PlainTally (plain_run c empty_list (told_all calls)).last (run (start parts w) calls).last.tally
