-- What joinings keep, cost and leave.
use Rattle.std.specs.Prelude.{◌≡◌, refl, List, [], ◌∷◌, ℕ, ◌+◌, ◌*◌, ◌≤◌, ◌<◌, pos, ◌+ℤ◌, length}
use Rattle.std.proofs.Common.{ap, sym, ◌∙◌, inl, inr, arith}
use Rattle.tree_laws.specs.ChildLinks.{Member}
use Rattle.tree_laws.specs.Chains.{Once}
use Rattle.tree_laws.specs.SizeDepth.{size_le}
use Rattle.layer.specs.Layer.{Layer, parent, depth}
use Rattle.layer.specs.Numbered.{Numbered}
use Rattle.table.specs.Table.{Table}
use Rattle.join_laws.specs.Joined.{SameNode}
use Rattle.join_laws.specs.Lag.{lag, worth, per_join}
use Rattle.join_laws.proofs.JoinStep.{step_planted, join_keeps}
use Rattle.join_laws.proofs.JoinPays.{join_pays}
use Rattle.growth_laws.specs.Grown.{SameMarks}
use Rattle.link_laws.specs.Joinings.{Joinings, done, next}

same_trans : {t m d : Layer} {x : ℕ} → SameNode t m x → SameNode m d x → SameNode t d x
same_trans p q = record {
  same_parent = q.same_parent ∙ p.same_parent;
  same_depth = q.same_depth ∙ p.same_depth;
}

module _ {target label face : ℕ → ℕ} where
  pub joinings_numbered : {t d : Table} {zs : List ℕ} {k : ℕ} → Numbered t.layer → Joinings target label face t d zs k → Numbered d.layer
  joinings_numbered r done = r
  joinings_numbered r (next s g j) = joinings_numbered (join_keeps r s) j

  -- the rows renumbered are paid for by the lag and 120 for each joining
  pub joinings_pay : {t d : Table} {zs : List ℕ} {k : ℕ} → Numbered t.layer → Joinings target label face t d zs k
      → worth * lag d.layer + k ≤ worth * lag t.layer + per_join * length zs
  joinings_pay r done = omega arith
  joinings_pay r (next s g j) = omega (arith, join_pays r s, joinings_pay (join_keeps r s) j)

  pub joinings_count : {t d : Table} {zs : List ℕ} {k : ℕ} → Joinings target label face t d zs k → d.layer.count ≡ t.layer.count
  joinings_count done = refl
  joinings_count (next s g j) = joinings_count j ∙ (step_planted s).count

  -- each joining renumbers no more rows than are in use
  pub joinings_rows : {t d : Table} {zs : List ℕ} {k : ℕ} → Joinings target label face t d zs k → k ≤ length zs * t.layer.count
  joinings_rows done = omega arith
  joinings_rows {t} (next {m = m} {h = h} {k = k} {zs = zs} s g j) =
      let e : m.layer.count ≡ t.layer.count = (step_planted s).count in
      let rest : k ≤ length zs * t.layer.count = rw e at (joinings_rows j) in
      omega (arith, size_le (parent m.layer) (depth m.layer) m.layer.count h)

  -- rows that do not join keep their place, label, face and level
  pub joinings_rest : {t d : Table} {zs : List ℕ} {k : ℕ} → Joinings target label face t d zs k → (x : ℕ) → x < t.layer.count → (Member zs x → ⊥)
      → SameNode t.layer d.layer x
  joinings_rest done x l n = record { same_parent = refl; same_depth = refl }
  joinings_rest (next s g j) x l n =
      let k = step_planted s in
      same_trans (k.old x record { inside = l; other = λ e. n (inl e) }) (joinings_rest j x (omega (arith, k.count)) (λ m. n (inr m)))

  pub joinings_marks : {t d : Table} {zs : List ℕ} {k : ℕ} → Joinings target label face t d zs k → (x : ℕ) → x < t.layer.count → (Member zs x → ⊥)
      → SameMarks t d x
  joinings_marks done x l n = record { same_label = refl; same_face = refl; same_level = refl }
  joinings_marks (next s g j) x l n =
      let o = g.old x record { inside = l; other = λ e. n (inl e) } in
      let i = joinings_marks j x (omega (arith, (step_planted s).count)) (λ m. n (inr m)) in
      record { same_label = i.same_label ∙ o.same_label; same_face = i.same_face ∙ o.same_face; same_level = i.same_level ∙ o.same_level }

-- targets stand before the rows that join under them
abbrev pub Before : (ℕ → ℕ) → List ℕ → Type 0
Before target [] = Unit {0}
Before target (z ∷ zs) = (Member (z ∷ zs) (target z) → ⊥) × Before target zs

-- row z came under its target, with its label and its face, one level below it
pub record Came (target label face : ℕ → ℕ) (d : Table) (z : ℕ) : Type 0 where
  pub in_use : target z < d.layer.count
  pub under : parent d.layer z ≡ target z
  pub label_is : d.label z ≡ label z
  pub face_is : d.face z ≡ face z
  pub level : d.level z ≡ d.level (target z) +ℤ pos 1

module _ {target label face : ℕ → ℕ} where
  pub joinings_came : {t d : Table} {zs : List ℕ} {k : ℕ} → Joinings target label face t d zs k → Once zs → Before target zs → (z : ℕ) → Member zs z
      → Came target label face d z
  joinings_came done o b z m = absurd m
  joinings_came (next s g j) o b z (inr m) = joinings_came j o.1 b.1 z m
  joinings_came {t} {d} (next {m = m} {z = y} s g j) o b z (inl e) =
      let k = step_planted s in
      let l : y < m.layer.count = omega (arith, k.count, k.alone.inside) in
      let w : target y < m.layer.count = omega (arith, k.count, k.over.inside) in
      let n = joinings_marks j y l o.0 in
      let u = joinings_marks j (target y) w (λ i. b.0 (inr i)) in
      rw e record {
        in_use = omega (arith, w, joinings_count j);
        under = (joinings_rest j y l o.0).same_parent ∙ k.new.parent_is;
        label_is = n.same_label ∙ g.label_is;
        face_is = n.same_face ∙ g.face_is;
        level = n.same_level ∙ g.level_is ∙ ap (λ l. l +ℤ pos 1) (sym (u.same_level ∙ (g.old (target y) k.over).same_level));
      }
