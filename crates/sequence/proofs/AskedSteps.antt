-- Question, alike and inspection, where the table stands beside the plain list: they change nothing and answer as it does.
use Rattle.std.proofs.Math.Path.{◌≡◌, refl, ap}
use Rattle.std.proofs.Common.{sym, ◌∙◌, arith}
use Rattle.std.proofs.Math.Bool.{Bool}
use Rattle.std.specs.Prelude.{true, ◌≢◌, List, ℕ, ◌<◌, length}
use Rattle.std.proofs.Math.Decide.{dec_lt, ℕ_discrete}
use borrow.Author.Tests.{eq-eqb, ne_eqb}
use Rattle.laws.specs.Test.{says_true, bit}
use Rattle.tree_laws.specs.Nca.{Kindred}
use Rattle.table.specs.declared.refusal.Refusal.{Refusal}
use Rattle.table.specs.declared.refusal.Refusal.TheVariants.{UnknownNode, Misfit, OtherTree}
use Rattle.table.specs.Refusal.{number_of}
use Rattle.tree_laws.specs.Answer.{Answer}
use Rattle.table.specs.PlainTree.{plain}
use Rattle.query.specs.Outcome.{Outcome as QuestionOutcome, refused as no_answer}
use Rattle.query.specs.Question.{question as ask}
use Rattle.query.specs.QuestionLaws.{question_unknown_x, question_unknown_y}
use Rattle.table.proofs.CapacityLaws.{fits_told}
use Rattle.tally.specs.FitLaws.{with_told}
use Rattle.query_exact.specs.QuestionExact.{given}
use Rattle.query_exact.proofs.QuestionExact.{question_exact, question_other_tree}
use Rattle.alike.specs.Outcome.{Outcome as AlikeOutcome, refused as no_value}
use Rattle.alike.specs.Alike.{alike as compare}
use Rattle.alike.proofs.AlikeLaws.{alike_unknown_x, alike_unknown_y}
use Rattle.alike_exact.specs.AlikeExact.{alike_exact, alike_other_tree}
use Rattle.inspect_exact.proofs.Exact.{inspect_exact}
use Rattle.inspect.specs.Outcome.{Outcome as InspectionOutcome, refused as not_inspected, passes as inspection_passes}
use Rattle.inspect.specs.Inspection.{inspection as inspect}
use Rattle.plain_list.specs.PlainList.{PlainList, count_of}
use Rattle.plain_list.specs.PlainStep.{PlainReply, PlainOutcome, replies as plain_replies, refusal as plain_refusal, answered as plain_answered, same as plain_same, passes as plain_passes}
use Rattle.plain_list.specs.PlainStep.{question as plain_question, alike as plain_alike, inspection as plain_inspection, refusal_of, root_in, plain_outcome}
use Rattle.plain_list.proofs.PlainStepLaws.{question_served, alike_served, inspection_served}
use Rattle.plain_list.proofs.PlainStepLaws.{question_unknown, question_apart, alike_unknown, alike_apart, inspection_misfit}
use Rattle.plain_list.proofs.Shows.{roots_kindred, kindred_roots, naive_is, naive_alike_is}
use Rattle.plain_list.specs.StoredList.{StoredList}
use Rattle.sequence.specs.Calls.{Call, question, alike, inspection, Reply, refusal, same, passes}
use Rattle.sequence.specs.Run.{Fast, table_in, Turn, replies, question_reply, alike_reply, inspection_reply, step}
use Rattle.sequence.specs.Agrees.{refusals, answers, alikes, pass}
use Rattle.sequence.specs.Invariant.{Stands}
use Rattle.sequence.specs.StepExact.{StepStands}
use Rattle.sequence.proofs.StepExact.{still}
use Rattle.sequence.proofs.Trees.{in_use}

module _ {c : ℕ} {f : Fast} {p : PlainList} {stored : StoredList} {total joinings : ℕ} (s : Stands c f p stored total joinings) where
  -- the outcomes of both sides, where neither changes anything
  pub steps_by : (q : Call) {o : PlainOutcome} {u : Turn} (r : PlainReply) (v : Reply) → o ≡ plain_replies r p → u ≡ replies f v
      → StepStands c f p stored total joinings q (plain_replies r p) (replies f v) → StepStands c f p stored total joinings q o u
  steps_by q r v e i k = rw (e, i) k

  pub still_refused : (q : Call) (n : ℕ) → StepStands c f p stored total joinings q (refusal_of n p) (replies f (refusal n))
  still_refused q n = still s q (refusals n) refl (λ n k h e. let z : ◌≡◌ {A = ℕ} 0 1 = cc in omega arith) (λ k h e. let z : ◌≡◌ {A = ℕ} 0 1 = cc in omega arith)

  -- Nodes of one tree

  one_tree : (x y : ℕ) → x < count_of p → y < count_of p → root_in p x ≡ root_in p y → Kindred (plain (table_in f)) x y
  one_tree x y l m e = roots_kindred s.proper s.shows l m e

  two_trees : (x y : ℕ) → x < count_of p → y < count_of p → root_in p x ≢ root_in p y → ¬ Kindred (plain (table_in f)) x y
  two_trees x y l m d k = d (kindred_roots s.proper s.shows l m k)

  -- Question

  module _ (x y : ℕ) where
    question_refused : (r : Refusal) → plain_outcome c p (plain_question x y) ≡ refusal_of (number_of r) p → ask f.parts f.state x y ≡ no_answer r
        → StepStands c f p stored total joinings (question x y) (plain_outcome c p (plain_question x y)) (step f (question x y))
    unfolding step
    question_refused r e i = steps_by (question x y) (plain_refusal (number_of r)) (refusal (number_of r)) e
        (ap (λ (o : QuestionOutcome). replies f (question_reply o)) i) (still_refused (question x y) (number_of r))

    question_given : (r : Answer) → plain_outcome c p (plain_question x y) ≡ plain_replies (plain_answered r) p
        → ask f.parts f.state x y ≡ given r
        → StepStands c f p stored total joinings (question x y) (plain_outcome c p (plain_question x y)) (step f (question x y))
    unfolding step
    question_given r e i = steps_by (question x y) (plain_answered r) _ e (ap (λ (o : QuestionOutcome). replies f (question_reply o)) i)
        (still s (question x y) (answers r) refl (λ n k h e. let z : ◌≡◌ {A = ℕ} 0 1 = cc in omega arith) (λ k h e. let z : ◌≡◌ {A = ℕ} 0 1 = cc in omega arith))

    question_answered : x < count_of p → y < count_of p → root_in p x ≡ root_in p y
        → StepStands c f p stored total joinings (question x y) (plain_outcome c p (plain_question x y)) (step f (question x y))
    question_answered l m k =
        let e = question_exact f.parts f.state x y s.fits s.rules (in_use s l) (in_use s m) (one_tree x y l m k) in
        question_given e.value
        (question_served c p x y l m k ∙ ap (λ (a : Answer). plain_replies (plain_answered a) p) (naive_is s.proper s.shows l m k e.answers))
        e.outcome

    pub question_step : StepStands c f p stored total joinings (question x y) (plain_outcome c p (plain_question x y)) (step f (question x y))
    question_step = elim (dec_lt x (count_of p)) [
      | no i ↦ question_refused UnknownNode (question_unknown c p x y (λ h. i h.0))
          (sym (question_unknown_x f.parts f.state x y (fits_told s.fits) (omega (arith, s.count))))
      | yes l ↦ elim (dec_lt y (count_of p)) [
        | no j ↦ question_refused UnknownNode (question_unknown c p x y (λ h. j h.1))
            (sym (question_unknown_y f.parts f.state x y (fits_told s.fits) (in_use s l) (omega (arith, s.count))))
        | yes m ↦ elim (ℕ_discrete (root_in p x) (root_in p y)) [
          | no d ↦ question_refused OtherTree (question_apart c p x y l m d)
              (question_other_tree f.parts f.state x y s.fits s.rules (in_use s l) (in_use s m) (two_trees x y l m d))
          | yes k ↦ question_answered l m k
        ]
      ]
    ]

  -- Alike

  module _ (x y : ℕ) where
    alike_refused : (r : Refusal) → plain_outcome c p (plain_alike x y) ≡ refusal_of (number_of r) p → compare f.parts f.state x y ≡ no_value r
        → StepStands c f p stored total joinings (alike x y) (plain_outcome c p (plain_alike x y)) (step f (alike x y))
    unfolding step
    alike_refused r e i = steps_by (alike x y) (plain_refusal (number_of r)) (refusal (number_of r)) e
        (ap (λ (o : AlikeOutcome). replies f (alike_reply o)) i) (still_refused (alike x y) (number_of r))

    alike_answered : x < count_of p → y < count_of p → root_in p x ≡ root_in p y
        → StepStands c f p stored total joinings (alike x y) (plain_outcome c p (plain_alike x y)) (step f (alike x y))
    unfolding step
    alike_answered l m k =
        let e = alike_exact f.parts f.state x y s.fits s.rules (in_use s l) (in_use s m) (one_tree x y l m k) in
        let b : Bool = e.value in
        steps_by (alike x y) (plain_same (bit b)) (same (bit b))
        (alike_served c p x y l m k ∙ ap (λ (a : Bool). plain_replies (plain_same (bit a)) p) (naive_alike_is s.proper s.shows l m e.says))
        (ap (λ (o : AlikeOutcome). replies f (alike_reply o)) e.outcome)
        (still s (alike x y) (alikes (bit b)) refl (λ n k h e. let z : ◌≡◌ {A = ℕ} 0 1 = cc in omega arith) (λ k h e. let z : ◌≡◌ {A = ℕ} 0 1 = cc in omega arith))

    pub alike_step : StepStands c f p stored total joinings (alike x y) (plain_outcome c p (plain_alike x y)) (step f (alike x y))
    alike_step = elim (dec_lt x (count_of p)) [
      | no i ↦ alike_refused UnknownNode (alike_unknown c p x y (λ h. i h.0))
          (sym (alike_unknown_x f.parts f.state x y (fits_told s.fits) (omega (arith, s.count))))
      | yes l ↦ elim (dec_lt y (count_of p)) [
        | no j ↦ alike_refused UnknownNode (alike_unknown c p x y (λ h. j h.1))
            (sym (alike_unknown_y f.parts f.state x y (fits_told s.fits) (in_use s l) (omega (arith, s.count))))
        | yes m ↦ elim (ℕ_discrete (root_in p x) (root_in p y)) [
          | no d ↦ alike_refused OtherTree (alike_apart c p x y l m d)
              (alike_other_tree f.parts f.state x y s.fits s.rules (in_use s l) (in_use s m) (two_trees x y l m d))
          | yes k ↦ alike_answered l m k
        ]
      ]
    ]

  -- Inspection

  inspection_is : (n : ℕ) → n ≡ c → inspect f.parts f.tally n f.state ≡ inspection_passes true
  unfolding inspect
  inspection_is n e = rw (with_told f.parts f.tally s.fits s.tally.long, eq-eqb n c e, says_true (inspect_exact c (table_in f) f.tally s.fits.most s.tally.long) record { rules = s.rules; tally = s.tally }) refl

  inspection_not : (n : ℕ) → n ≢ c → inspect f.parts f.tally n f.state ≡ not_inspected Misfit
  unfolding inspect
  inspection_not n d = rw (with_told f.parts f.tally s.fits s.tally.long, ne_eqb n c d) refl

  pub inspection_step : (scratch : List ℕ) → StepStands c f p stored total joinings (inspection scratch) (plain_outcome c p (plain_inspection (length scratch)))
      (step f (inspection scratch))
  unfolding step
  inspection_step scratch = elim (ℕ_discrete (length scratch) c) [
    | no d ↦ steps_by (inspection scratch) (plain_refusal 3) (refusal 3) (inspection_misfit c p (length scratch) d)
        (ap (λ (o : InspectionOutcome). replies f (inspection_reply o)) (inspection_not (length scratch) d)) (still_refused (inspection scratch) 3)
    | yes e ↦ steps_by (inspection scratch) plain_passes (passes true) (inspection_served c p (length scratch) e)
        (ap (λ (o : InspectionOutcome). replies f (inspection_reply o)) (inspection_is (length scratch) e))
        (still s (inspection scratch) pass refl (λ n k h e. let z : ◌≡◌ {A = ℕ} 0 1 = cc in omega arith) (λ k h e. let z : ◌≡◌ {A = ℕ} 0 1 = cc in omega arith))
  ]
