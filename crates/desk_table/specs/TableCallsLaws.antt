-- Set-up and link, by whether the out slice has its length, from what the call of the engine and the reply left.
use Rattle.std.specs.Prelude.{◌≡◌, ◌≢◌, Result, Ok, Err, List, ℕ, ◌<◌, length}
use Rattle.std.proofs.Math.Path.{refl, ap}
use Rattle.std.proofs.Common.{arith, ◌∙◌}
use Rattle.table.specs.declared.refusal.Refusal.{Refusal}
use Rattle.table.specs.declared.state.State.{State}
use Rattle.table.specs.Parts.{Parts}
use Rattle.table.specs.Refusal.{number_of}
use Rattle.set_up.specs.Outcome.{Outcome as SetUpOutcome}
use Rattle.set_up.specs.Blank.{set_up, parts_after, tally_after}
use Rattle.link.specs.declared.Joined.{Joined}
use Rattle.link.specs.Outcome.{outcome_of as link_of}
use Rattle.link.specs.Link as link
use Rattle.replies.specs.ReplyLaws.{on_length_lem, off_length}
use Rattle.replies.specs.Reply.{Reply, reply, misfit, made_reply, link_reply, outcome}
use Rattle.desk_table.specs.TableCalls.{set_up_call, link_call, LinkCall}

module _ (t : Parts) (w out : List ℕ) {r : ℕ} where
  pub set_up_misfit : r ≡ 3 → length out ≢ 1 → outcome t w (reply r out) ≡ set_up_call t w out
  unfolding set_up_call
  set_up_misfit h e = rw h (off_length 1 out _ (outcome t w (misfit out)) e)

-- u are the parts where the loan ends, here and below, v those that the call left
module _ (t u : Parts) (w k out after : List ℕ) {r : ℕ} where
  pub set_up_served : {v : Parts} (m : SetUpOutcome) → length out ≡ 1 → m ≡ set_up t w → v ≡ parts_after t w → k ≡ tally_after t w → reply r after ≡ made_reply out m
      → u ≡ v → outcome u k (reply r after) ≡ set_up_call t w out
  unfolding set_up_call
  set_up_served m e a b d h back = rw (h, a, back ∙ b, d) (on_length_lem 1 out (outcome (parts_after t w) (tally_after t w) (made_reply out (set_up t w))) _ e)

module _ (t : Parts) (w out scratch : List ℕ) (s : State) (x v door : ℕ) {r : ℕ} where
  pub link_misfit : r ≡ 3 → length out ≢ 2 → LinkCall t w out scratch s x v door scratch (outcome t w (reply r out))
  unfolding link_call
  link_misfit h e = record { outcome = rw h (off_length 2 out _ (outcome t w (misfit out)) e); unchanged = λ _. refl }

  pub link_served : {v' : Parts} (u : Parts) (k after left : List ℕ) (l : Result Joined Refusal) → length out ≡ 2 → link.LinkCall t v' w k scratch left s x v door l → reply r after ≡ link_reply out (link_of l) → u ≡ v'
      → LinkCall t w out scratch s x v door left (outcome u k (reply r after))
  unfolding link_call
  link_served {v'} u k after left l e q h back = record {
    outcome = rw (h, back, ← q.outcome) (on_length_lem 2 out (outcome v' k (link_reply out (link_of l))) _ e);
    unchanged = go l q h;
  }
    where
      go : (l : Result Joined Refusal) → link.LinkCall t v' w k scratch left s x v door l → reply r after ≡ link_reply out (link_of l) → 0 < r → left ≡ scratch
      go (Ok j) q h p = let z : r ≡ 0 = ap (λ (p : Reply ℕ). p.number) h in absurd (omega arith)
      go (Err n) q h p = q.unchanged (number_of n) refl
