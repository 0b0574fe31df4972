-- The call by whether the out slice has its length.
use Rattle.std.specs.Prelude.{◌≡◌, ◌≢◌, List, ℕ, length}
use Rattle.log_fields.specs.Outcome.{Outcome}
use Rattle.log_fields.specs.Field.{field_at}
use Rattle.replies.specs.Reply.{reply, misfit}
use Rattle.replies.specs.ReplyLaws.{on_length_lem, off_length}
use Rattle.desk_log.specs.LogCalls.{field_reply, field_call}

module _ (log : List ℕ) (place : ℕ) (out : List ℕ) {r : ℕ} where
  pub field_misfit : r ≡ 3 → length out ≢ 4 → reply r out ≡ field_call log place out
  unfolding field_call
  field_misfit h e = rw h (off_length 4 out _ (misfit out) e)

  pub field_read : (after : List ℕ) (f : Outcome) → length out ≡ 4 → f ≡ field_at log place → reply r after ≡ field_reply out f → reply r after ≡ field_call log place out
  unfolding field_call
  field_read after f e q h = rw (h, q) (on_length_lem 4 out (field_reply out (field_at log place)) _ e)
