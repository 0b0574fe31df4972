-- What follows from `question_exact`.
use Rattle.std.specs.Prelude.{◌≡◌, ◌≢◌, ℕ, ◌<◌, pos}
use Rattle.std.proofs.Math.Path.{refl}
use Rattle.std.proofs.Common.{ap, ◌∙◌, arith}
use Rattle.std.proofs.Math.Decide.{dec_lt, ℕ_discrete}
use Rattle.tree_laws.specs.Ancestor.{here}
use Rattle.tree_laws.specs.Depth.{arrived}
use Rattle.tree_laws.specs.Nca.{itself}
use Rattle.tree_laws.specs.NcaLaws.{nca_kindred}
use Rattle.table.specs.declared.refusal.Refusal.TheVariants.{Corrupt}
use Rattle.table.specs.declared.state.State.{State}
use Rattle.table.specs.Parts.{Parts}
use Rattle.table.specs.Capacity.{Fits}
use Rattle.table.proofs.CapacityLaws.{fits_told}
use Rattle.layer.specs.StoredTree.{first}
use Rattle.table.specs.PlainTree.{plain}
use Rattle.tree_laws.specs.Answer.{Answer, Answers}
use Rattle.table.specs.Rules.{Rules}
use Rattle.query.specs.Outcome.{answered, refused}
use Rattle.query.specs.Question.{question}
use Rattle.query.specs.QuestionLaws.{question_unknown_x, question_unknown_y}
use Rattle.query_exact.specs.SoughtExact.{recorded}
use Rattle.query_exact.specs.QuestionExact.{given}
use Rattle.query_exact.proofs.QuestionExact.{answers_one, tree_exact, other_tree, question_exact}

-- What follows from it

module _ {c : ℕ} (parts : Parts) (state : State) (f : Fits c parts) (r : Rules c (recorded parts state)) where
  -- whatever is the answer on the plain trees is the outcome
  pub question_answer : {x y : ℕ} {a : Answer} → x < state.count → y < state.count
      → Answers (plain (recorded parts state)) (recorded parts state).label x y a → question parts state x y ≡ given a
  question_answer {x} {y} l m h =
      let e = question_exact parts state x y f r l m (nca_kindred h.characteristic.nca) in
      e.outcome ∙ ap given (answers_one r f.most l m e.answers h)

  -- a question on a node with itself gives it three times, at distances 0
  pub question_itself : (x : ℕ) → x < state.count → question parts state x x ≡ answered x x x (pos 0) (pos 0) ((recorded parts state).label x)
  question_itself x l = question_answer {a = record { nca = x; to_x = x; to_y = x; distance_x = 0; distance_y = 0; label = _ }} l l record {
    characteristic = record { nca = record { left = here; right = here; deepest = λ b s _. s }; toward_x = itself refl; toward_y = itself refl };
    distance_x = arrived;
    distance_y = arrived;
    label = refl;
  }

  -- no question gives refusal 4, on whatever nodes
  pub question_not_corrupt : (x y : ℕ) → question parts state x y ≢ refused Corrupt
  question_not_corrupt x y e = elim (dec_lt x state.count) [
    | no i ↦ let u = question_unknown_x parts state x y (fits_told f) (omega arith) in let z : ◌≡◌ {A = ℕ} 0 1 = cc in omega arith
    | yes l ↦ elim (dec_lt y state.count) [
      | no j ↦ let u = question_unknown_y parts state x y (fits_told f) l (omega arith) in let z : ◌≡◌ {A = ℕ} 0 1 = cc in omega arith
      | yes m ↦ elim (ℕ_discrete (first (recorded parts state).layer x) (first (recorded parts state).layer y)) [
        | yes k ↦ let u = (tree_exact parts state x y f r l m k).outcome in let z : ◌≡◌ {A = ℕ} 0 1 = cc in omega arith
        | no d ↦ let u = other_tree parts state x y f r l m d in let z : ◌≡◌ {A = ℕ} 0 1 = cc in omega arith
      ]
    ]
  ]
