-- The outcome of a question is the answer on the plain trees, or refusal 12.
use Rattle.std.specs.Prelude.{◌≡◌, ◌≢◌, Option, ℕ, ◌≤◌, ◌<◌}
use Rattle.std.proofs.Math.Path.{refl}
use Rattle.std.proofs.Common.{sym}
use Rattle.tree_laws.specs.AncestorLaws.{anc_in}
use Rattle.tree_laws.specs.DepthLaws.{steps_one, depth_forest}
use Rattle.tree_laws.specs.Nca.{Kindred}
use Rattle.tree_laws.specs.NcaLaws.{characteristic_unique}
use Rattle.table.specs.declared.refusal.Refusal.TheVariants.{OtherTree}
use Rattle.table.specs.declared.state.State.{State}
use Rattle.table.specs.Parts.{Parts}
use Rattle.table.specs.Capacity.{node_limit, Fits}
use Rattle.table.specs.Table.{Table}
use Rattle.layer.specs.StoredTree.{first}
use Rattle.table.specs.PlainTree.{plain}
use Rattle.tree_laws.specs.Answer.{Answer, Answers}
use Rattle.table.specs.Rules.{Rules}
use Rattle.table.proofs.Rules.{numbered}
use Rattle.layer_laws.specs.Numbered.{InTree}
use Rattle.layer_laws.proofs.Numbered.{in_tree}
use Rattle.ancestry.specs.declared.stored.Fork.{Fork}
use Rattle.ancestry_exact.specs.ForkExact.{ForkExact}
use Rattle.ancestry_exact.proofs.StoredExact.{stored_exact}
use Rattle.query.specs.Outcome.{refused}
use Rattle.query.specs.Question.{is_served, served, question}
use Rattle.query.specs.QuestionLaws.{question_by}
use Rattle.query_exact.specs.PlainShape.{plain_shape, kindred_first, first_kindred}
use Rattle.query_exact.specs.PlainExact.{level_passes, node_passes, plain_exact, distance_exact}
use Rattle.query_exact.specs.SoughtExact.{recorded, asked_one, asked_two}
use Rattle.query_exact.specs.QuestionExact.{ExactOutcome}

-- Laws

module _ {capacity : ℕ} {t : Table} (r : Rules capacity t) (fits : capacity ≤ node_limit) where
  -- of an exact answer every test of the service passes, and levels give the distances
  served_exact : {f : ℕ} (x y : ℕ) → InTree t.layer f x → InTree t.layer f y → (o : Option Fork) → ForkExact (plain t) x y o
      → ExactOutcome t x y (served t x y o)
  unfolding served is_served
  served_exact {f} x y i j o a =
      let g = a.fork in
      let u = distance_exact r fits i a.characteristic.nca.left in
      let v = distance_exact r fits j a.characteristic.nca.right in
      let l = anc_in (depth_forest (plain_shape r fits)) i.in_use a.characteristic.nca.left in
      record {
        value = record {
          nca = g.nca;
          to_x = g.to_x;
          to_y = g.to_y;
          distance_x = u.distance;
          distance_y = v.distance;
          label = t.label g.nca;
        };
        answers = record { characteristic = a.characteristic; distance_x = u.steps; distance_y = v.steps; label = refl };
        outcome = rw (
          a.sound,
          node_passes r fits x i.in_use,
          node_passes r fits y j.in_use,
          level_passes r fits g.nca l,
          u.levels,
          v.levels,
        );
      }

  -- two nodes have one answer
  pub answers_one : {x y : ℕ} {a b : Answer} → x < t.layer.count → y < t.layer.count → Answers (plain t) t.label x y a → Answers (plain t) t.label x y b → a ≡ b
  answers_one {x} {y} {a} {b} l m f g =
      let tree = plain_shape r fits in
      let e = characteristic_unique (depth_forest tree) l m f.characteristic g.characteristic in
      let i : a.distance_x ≡ b.distance_x = steps_one tree l (rw e.nca at f.distance_x) g.distance_x in
      let j : a.distance_y ≡ b.distance_y = steps_one tree m (rw e.nca at f.distance_y) g.distance_y in
      let k : a.label ≡ b.label = cc in
      rw (e.nca, e.to_x, e.to_y, i, j, k)

module _ {c : ℕ} (parts : Parts) (state : State) (x y : ℕ) (fits : Fits c parts) (r : Rules c (recorded parts state))
    (l : x < state.count) (m : y < state.count) where
  -- by the first rows of their trees
  pub tree_exact : first (recorded parts state).layer x ≡ first (recorded parts state).layer y → ExactOutcome (recorded parts state) x y (question parts state x y)
  tree_exact e =
      let i = in_tree (numbered r fits.most) x l in
      let j : InTree (recorded parts state).layer (first (recorded parts state).layer x) y = rw e (in_tree (numbered r fits.most) y m) in
      let a = plain_exact r fits.most (stored_exact (numbered r fits.most)) x y i j in
      rw (← question_by parts state x y (asked_one parts state x y fits r l m e)) (served_exact r fits.most x y i j _ a)

  pub other_tree : first (recorded parts state).layer x ≢ first (recorded parts state).layer y → question parts state x y ≡ refused OtherTree
  other_tree d = sym (question_by parts state x y (asked_two parts state x y fits r l m d))

-- The theorem

pub question_exact : {c : ℕ} (parts : Parts) (state : State) (x y : ℕ) → Fits c parts → Rules c (recorded parts state) → x < state.count → y < state.count
    → Kindred (plain (recorded parts state)) x y → ExactOutcome (recorded parts state) x y (question parts state x y)
question_exact parts state x y f r l m k = tree_exact parts state x y f r l m (kindred_first r f.most l m k)

pub question_other_tree : {c : ℕ} (parts : Parts) (state : State) (x y : ℕ) → Fits c parts → Rules c (recorded parts state) → x < state.count → y < state.count
    → ¬ Kindred (plain (recorded parts state)) x y → question parts state x y ≡ refused OtherTree
question_other_tree parts state x y f r l m k = other_tree parts state x y f r l m (λ e. k (first_kindred r f.most l m e))
