-- The growths, by whether the out slice has its length, from what the call of the engine and the reply left.
use Rattle.std.specs.Prelude.{◌≡◌, ◌≢◌, List, ℕ, length}
use Rattle.table.specs.Parts.{Parts}
use Rattle.growth.specs.Outcome.{Outcome as GrowthOutcome}
use Rattle.growth.specs.Growth.{Result as Growth}
use Rattle.growth.specs.Growth as growth
use Rattle.replies.specs.ReplyLaws.{on_length_lem, off_length}
use Rattle.replies.specs.Reply.{reply, misfit, grown_reply, outcome}
use Rattle.desk_growth.specs.GrowthCalls.{growth_call}

module _ (t : Parts) (w out : List ℕ) {r : ℕ} where
  pub growth_misfit : (o : Growth) → r ≡ 3 → length out ≢ 4 → outcome t w (reply r out) ≡ growth_call t w out o
  unfolding growth_call
  growth_misfit o h e = rw h (off_length 4 out _ (outcome t w (misfit out)) e)

module _ (t u : Parts) (w k out after : List ℕ) {r : ℕ} where
  -- u are the parts where the loan ends, v those that the call left
  pub growth_served : {v : Parts} (g : GrowthOutcome) (o : Growth) → length out ≡ 4 → reply r after ≡ grown_reply out g → growth.growth_result v k g ≡ o → u ≡ v → outcome u k (reply r after) ≡ growth_call t w out o
  unfolding growth_call
  growth_served {v} g o e h a back = rw (h, back, ← a) (on_length_lem 4 out (outcome v k (grown_reply out g)) _ e)
