-- The code's answer is the report, where its parts are those of the call's reply.
use Rattle.std.specs.Prelude.{◌≡◌, refl, Bool, List, [], ℤ, ℕ, length}
use Rattle.table.specs.Parts.{Parts, level_at}
use Rattle.table.specs.declared.state.State.{State}
use Rattle.growth.specs.Outcome.{Outcome}
use Rattle.growth.specs.Growth.{growth_result, add_leaf, add_root}
use Rattle.query.specs.Outcome.{Outcome as QuestionOutcome, refusal as no_answer, answered}
use Rattle.query.specs.Question.{question as ask}
use Rattle.alike.specs.Outcome.{Outcome as AlikeOutcome, refusal as no_value, same}
use Rattle.alike.specs.Alike.{alike as compare}
use Rattle.sequence.specs.Calls.{Call, leaf, root, question, alike}
use Rattle.sequence.specs.Run.{step, rows_in, grown_reply, state_after, after_growth, question_reply, alike_reply}
use Rattle.report.specs.declared.reply.Shown.{Shown}
use Rattle.report.specs.declared.serve.Served.{Served}
use Rattle.report.specs.Printed.{printed, printed_of, letter_of, question_letter, alike_letter}
use Rattle.report.specs.Report.{report_by, report, fast_of, report_of}

-- what the code answers of a growth
pub record OfGrowth (letter : ℕ) (t : Parts) (s : State) (g : Outcome) (r : Served) : Type 0 where
  pub shown : printed_of r.shown ≡ printed letter (level_at t.levels) (grown_reply g)
  pub rows : r.rows ≡ rows_in (grown_reply g)
  pub state : r.state ≡ state_after s g

growth_report : (q : Call) (t : Parts) (w : List ℕ) (s : State) (g : Outcome) (r : Served) → OfGrowth (letter_of q) t s g r
    → report_of t w r ≡ report_by q (after_growth s (growth_result t w g))
growth_report q t w s g r o = rw (o.shown, o.rows, o.state)

-- from the parts t and the tally w to u and w'; v are the parts that the call left
module _ (t u : Parts) (w w' : List ℕ) (s : State) (g : Outcome) (r : Served) where
  pub leaf_report : {v : Parts} (x l a : ℕ) (scratch : List ℕ) → growth_result v w' g ≡ add_leaf t w (length scratch) s x l a → OfGrowth (letter_of (leaf x l a scratch)) v s g r
      → u ≡ v → report_of u w' r ≡ report (fast_of t w s) (leaf x l a scratch)
  unfolding report step
  leaf_report {v} x l a scratch e o back = rw (back, ← e) (growth_report (leaf x l a scratch) v w' s g r o)

  pub root_report : {v : Parts} (named : Bool) (opening : ℕ) (scratch : List ℕ) → growth_result v w' g ≡ add_root t w (length scratch) s named opening
      → OfGrowth (letter_of (root named opening scratch)) v s g r → u ≡ v → report_of u w' r ≡ report (fast_of t w s) (root named opening scratch)
  unfolding report step
  root_report {v} named opening scratch e o back = rw (back, ← e) (growth_report (root named opening scratch) v w' s g r o)

-- a question or alike, which changes nothing, prints no level and renumbers no row

question_levels : (level : ℕ → ℤ) (o : QuestionOutcome) → printed question_letter (level_at []) (question_reply o) ≡ printed question_letter level (question_reply o)
question_levels level (no_answer n) = refl
question_levels level (answered a u v i j l) = refl

question_rows : (o : QuestionOutcome) → 0 ≡ rows_in (question_reply o)
question_rows (no_answer n) = refl
question_rows (answered a u v i j l) = refl

alike_levels : (level : ℕ → ℤ) (o : AlikeOutcome) → printed alike_letter (level_at []) (alike_reply o) ≡ printed alike_letter level (alike_reply o)
alike_levels level (no_value n) = refl
alike_levels level (same b) = refl

alike_rows : (o : AlikeOutcome) → 0 ≡ rows_in (alike_reply o)
alike_rows (no_value n) = refl
alike_rows (same b) = refl

module _ (t : Parts) (w : List ℕ) (s : State) (x y : ℕ) (shown : Shown) where
  -- the code's answer where nothing changed
  abbrev pub unchanged : Served
  unchanged = record { state = s; rows = 0; shown = shown }

  pub question_report : (o : QuestionOutcome) → o ≡ ask t s x y → printed_of shown ≡ printed question_letter (level_at []) (question_reply o)
      → report_of t w unchanged ≡ report (fast_of t w s) (question x y)
  unfolding report step
  question_report o e p = rw (← e, p, question_levels (level_at t.levels) o, ← question_rows o)

  pub alike_report : (o : AlikeOutcome) → o ≡ compare t s x y → printed_of shown ≡ printed alike_letter (level_at []) (alike_reply o)
      → report_of t w unchanged ≡ report (fast_of t w s) (alike x y)
  unfolding report step
  alike_report o e p = rw (← e, p, alike_levels (level_at t.levels) o, ← alike_rows o)
