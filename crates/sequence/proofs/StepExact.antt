-- What is proved of `StepExact`.
use Rattle.std.specs.Prelude.{◌≡◌, refl, ◌≢◌, ℕ}
use Rattle.std.proofs.Common.{arith}
use Rattle.table.specs.Parts.{Parts}
use Rattle.layer.specs.Layer.{parent}
use Rattle.table.specs.Capacity.{Fits}
use Rattle.table.specs.declared.state.State.{State}
use Rattle.query.specs.FewRows.{DrawsOn}
use Rattle.query.specs.FewRowsLaws.{question_few_rows}
use Rattle.plain_list.specs.PlainList.{PlainList}
use Rattle.plain_list.specs.PlainStep.{PlainCall, PlainReply, replies as plain_replies}
use Rattle.plain_list.specs.StoredList.{StoredList, stored_by}
use Rattle.plain_list.specs.Stores.{Stores}
use Rattle.sequence.specs.Calls.{Call, Reply, node, linked, told}
use Rattle.sequence.specs.Run.{Fast, table_in, replies, rows_in}
use Rattle.sequence.specs.Agrees.{Agrees, refusals, nodes, links, answers, alikes, pass}
use Rattle.sequence.specs.Invariant.{Stands}
use Rattle.sequence.proofs.Tally.{tally_shown}
use Rattle.sequence.specs.StepExact.{StepStands, joinings, most_rows}

-- Laws

pub few_rows : {c : ℕ} (a : Parts) → Fits c a → (s : State) (x y : ℕ) → DrawsOn most_rows c a s x y
few_rows a f s x y = let d = question_few_rows a f s x y in record { rows = d.rows; few = omega (arith, d.few); decide = d.decide }

-- a reply that tells of no node and of no link leaves the stored list as it is
kept_stored : {r : PlainReply} {u : Reply} (p : PlainList) (l : StoredList) (q : PlainCall) → Agrees r u → ((n k h : ℕ) → u ≢ node n k h)
    → ((k h : ℕ) → u ≢ linked k h) → l ≡ stored_by p l q r
kept_stored p l q (refusals n) d i = refl
kept_stored p l q (nodes n k h) d i = absurd (d n k h refl)
kept_stored p l q (links k h) d i = absurd (i k h refl)
kept_stored p l q (answers r) d i = refl
kept_stored p l q (alikes b) d i = refl
kept_stored p l q pass d i = refl

-- a call that changes nothing and renumbers nothing
pub still : {c : ℕ} {f : Fast} {p : PlainList} {l : StoredList} {total joinings : ℕ} → Stands c f p l total joinings → (q : Call) {r : PlainReply} {u : Reply}
    → Agrees r u → rows_in u ≡ 0 → ((n k h : ℕ) → u ≢ node n k h) → ((k h : ℕ) → u ≢ linked k h)
    → StepStands c f p l total joinings q (plain_replies r p) (replies f u)
still {c} {f} {p} {l} {total} {joinings} s q {r} {u} a z d i = record {
  exact = record {
    agrees = a;
    few = λ x y _. few_rows f.parts s.fits f.state x y;
    renumbers = λ n k h e. absurd (d n k h e);
    links = λ k h e. absurd (i k h e);
    stored = same;
    tally = tally_shown s.proper s.shows s.count s.tally;
    kept = λ n e. refl;
  };
  stands = record {
    fits = s.fits;
    rules = s.rules;
    tally = s.tally;
    proper = s.proper;
    shows = s.shows;
    count = s.count;
    stored = same;
    paid = omega (arith, s.paid);
  };
}
  where
    same : Stores (parent (table_in f).layer) f.state.count (stored_by p l (told q) r)
    same = rw (kept_stored p l (told q) a d i) at s.stored
