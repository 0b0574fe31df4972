-- The calls that only read a table, by whether the out slice has its length, from what the call of the engine and the reply left.
use Rattle.std.specs.Prelude.{◌≡◌, ◌≢◌, Bool, Result, Ok, Err, List, ℕ, ◌<◌, ℤ, length}
use Rattle.std.proofs.Math.Path.{refl, ap}
use Rattle.std.proofs.Common.{arith}
use Rattle.table.specs.declared.refusal.Refusal.{Refusal}
use Rattle.table.specs.declared.state.State.{State}
use Rattle.table.specs.Parts.{Parts}
use Rattle.table.specs.Refusal.{number_of}
use Rattle.query.specs.Outcome.{Outcome as QuestionOutcome}
use Rattle.query.specs.Question.{question}
use Rattle.alike.specs.Outcome.{Outcome as AlikeOutcome}
use Rattle.alike.specs.Alike.{alike}
use Rattle.inspect.specs.Outcome.{outcome_of as inspection_of}
use Rattle.inspect.specs.Inspection.{inspection, Inspection}
use Rattle.replies.specs.ReplyLaws.{on_length_lem, off_length}
use Rattle.replies.specs.Reply.{Reply, reply, misfit, question_reply, alike_reply, inspection_reply}
use Rattle.desk_questions.specs.QuestionCalls.{question_call, alike_call, inspection_call, InspectionCall}

module _ (t : Parts) (s : State) {r : ℕ} where
  module _ (out : List ℤ) (x y : ℕ) where
    pub question_misfit : r ≡ 3 → length out ≢ 6 → reply r out ≡ question_call t out s x y
    unfolding question_call
    question_misfit h e = rw h (off_length 6 out _ (misfit out) e)

    pub question_served : (after : List ℤ) (a : QuestionOutcome) → length out ≡ 6 → a ≡ question t s x y → reply r after ≡ question_reply out a → reply r after ≡ question_call t out s x y
    unfolding question_call
    question_served after a e q h = rw (h, q) (on_length_lem 6 out (question_reply out (question t s x y)) _ e)

  module _ (out : List ℕ) (x y : ℕ) where
    pub alike_misfit : r ≡ 3 → length out ≢ 1 → reply r out ≡ alike_call t out s x y
    unfolding alike_call
    alike_misfit h e = rw h (off_length 1 out _ (misfit out) e)

    pub alike_served : (after : List ℕ) (a : AlikeOutcome) → length out ≡ 1 → a ≡ alike t s x y → reply r after ≡ alike_reply out a → reply r after ≡ alike_call t out s x y
    unfolding alike_call
    alike_served after a e q h = rw (h, q) (on_length_lem 1 out (alike_reply out (alike t s x y)) _ e)

  module _ (w out scratch : List ℕ) where
    pub inspection_misfit : r ≡ 3 → length out ≢ 1 → InspectionCall t w out scratch s scratch (reply r out)
    unfolding inspection_call
    inspection_misfit h e = record { replied = rw h (off_length 1 out _ (misfit out) e); unchanged = λ _. refl }

    pub inspection_served : (after left : List ℕ) (i : Result Bool Refusal) → length out ≡ 1 → Inspection t w scratch s left i → reply r after ≡ inspection_reply out (inspection_of i) → InspectionCall t w out scratch s left (reply r after)
    unfolding inspection_call
    inspection_served after left i e q h = record {
      replied = rw (h, q.outcome) (on_length_lem 1 out (inspection_reply out (inspection t w (length scratch) s)) _ e);
      unchanged = go i q h;
    }
      where
        go : (i : Result Bool Refusal) → Inspection t w scratch s left i → reply r after ≡ inspection_reply out (inspection_of i) → 0 < r → left ≡ scratch
        go (Ok b) q h l = let z : r ≡ 0 = ap (λ (p : Reply ℕ). p.number) h in absurd (omega arith)
        go (Err n) q h l = q.unchanged (number_of n) refl
