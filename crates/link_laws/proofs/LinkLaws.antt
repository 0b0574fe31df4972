-- A link keeps the rules of inspection, is the plain list's step, and pays for itself.
use Rattle.std.specs.Prelude.{◌≡◌, refl, ◌≢◌, ℕ, suc, ◌+◌, ◌*◌, ◌≤◌, ◌<◌, ℤ, pos, ◌+ℤ◌}
use Rattle.std.proofs.Common.{ap, sym, ◌∙◌, inl, inr, arith}
use Rattle.std.proofs.Math.IntN.{+ℤ_assoc}
use Rattle.std.proofs.Math.Decide.{ℕ_discrete}
use Rattle.laws.specs.Test.{says_true, says_false, says_eqb}
use Rattle.tree_laws.specs.Ancestor.{none, Anc, here, there, Forest}
use Rattle.tree_laws.specs.AncestorLaws.{row_some, anc_in}
use Rattle.tree_laws.specs.ChildLinks.{Member}
use Rattle.tree_laws.specs.Depth.{Steps, arrived, step}
use Rattle.tree_laws.specs.Top.{top_is, top_anc}
use Rattle.layer.specs.Layer.{parent, depth}
use Rattle.layer.specs.StoredTree.{first}
use Rattle.layer.specs.Numbered.{Numbered}
use Rattle.table.specs.Capacity.{node_limit}
use Rattle.table.specs.Table.{Table}
use Rattle.table.specs.PlainTree.{root, plain}
use Rattle.table.specs.Rules.{Bounded, Rules}
use Rattle.table.proofs.Rules.{numbered, rules_of}
use Rattle.layer_laws.specs.Numbered.{InTree}
use Rattle.layer_laws.proofs.Numbered.{first_is}
use Rattle.table_laws.specs.LevelLaws.{tree_parent, plain_tree, parent_in}
use Rattle.join_laws.specs.Lag.{lag, worth, per_join}
use Rattle.join_laws.proofs.LoneLaws.{parted_numbered, parted_lag}
use Rattle.join_laws.proofs.Trees.{own_trees, stored}
use Rattle.growth_laws.specs.Below.{JoinedLeaf, Grows, grows_recorded, plain_old, plain_joined}
use Rattle.growth_laws.specs.Grown.{SameMarks}
use Rattle.link_laws.proofs.JoiningsLaws.{joinings_numbered, joinings_pay, joinings_count, joinings_rows, joinings_rest, joinings_marks, Came, joinings_came}
use Rattle.link_laws.specs.Link.{target, column_with, Linked, StoredLink, PlainLink}
use Rattle.link_laws.specs.Order.{tree_rows}
use Rattle.link_laws.proofs.OrderLaws.{in_x, steps_depth_under, order_once, order_before, order_length}

module _ {capacity : ℕ} {t d : Table} {x v door k : ℕ} (r : Rules capacity t) (small : capacity ≤ node_limit) (q : Linked t d x v door k) where
  apart_numbered : Numbered q.apart.layer
  apart_numbered = parted_numbered (numbered r small) q.parted

  pub link_numbered : Numbered d.layer
  link_numbered = joinings_numbered apart_numbered q.joins

  count_is : d.layer.count ≡ t.layer.count
  count_is = joinings_count q.joins ∙ q.count

  was : Forest (parent t.layer) (depth t.layer) t.layer.count
  was = stored (own_trees (numbered r small))

  -- the rows of the other trees
  pub record Stays (w : ℕ) : Type 0 where
    pub inside : w < t.layer.count
    pub other : first t.layer w ≢ first t.layer x

  unmoved : {w : ℕ} → Stays w → Member q.order w → ⊥
  unmoved {w} p m = p.other (q.ordered.moved w m)

  pub marks_rest : {w : ℕ} → Stays w → SameMarks t d w
  marks_rest {w} p =
      let m = joinings_marks q.joins w (omega (arith, q.count, p.inside)) (unmoved p) in
      record {
        same_label = m.same_label ∙ q.labels w p.inside;
        same_face = m.same_face ∙ q.faces w p.inside;
        same_level = m.same_level ∙ q.levels w p.inside p.other;
      }

  parent_rest : {w : ℕ} → Stays w → parent d.layer w ≡ parent t.layer w
  parent_rest {w} p = (joinings_rest q.joins w (omega (arith, q.count, p.inside)) (unmoved p)).same_parent
      ∙ (q.parted.kept w p.inside (says_false (says_eqb (first t.layer w) (first t.layer x)) p.other)).same_parent

  stays_up : {a w : ℕ} → Stays w → Anc (parent t.layer) a w → Stays a
  stays_up {a} {w} p h = record { inside = anc_in was p.inside h; other = λ e. p.other (sym (top_anc was p.inside h) ∙ e) }

  came : {w : ℕ} → w < t.layer.count → first t.layer w ≡ first t.layer x → Came (target t x v) (column_with t.label x door) (column_with t.face x 0) d w
  came {w} l e = joinings_came q.joins (order_once r small q.linkable q.ordered) (order_before r small q.linkable q.ordered) w (q.ordered.all w l e)

  -- a row of the linked tree joined as a leaf
  within : {column : ℕ → ℕ} {limit : ℕ} (o : ℕ) → Bounded t column limit → o ≤ limit → {w : ℕ} → w < t.layer.count → column_with column x o w ≤ limit
  within o b m {w} l = elim (ℕ_discrete w x) [
    | yes e ↦ rw (says_true (says_eqb w x) e) m
    | no n ↦ rw (says_false (says_eqb w x) n) (b.most w l)
  ]

  moved : {w : ℕ} → w < t.layer.count → first t.layer w ≡ first t.layer x → JoinedLeaf d w
  moved {w} l e =
      let c = came l e in
      record {
        some = row_some (stored (own_trees link_numbered)) c.in_use c.under;
        below = rw c.under c.level;
        labelled = rw c.label_is (within door r.one.labels q.linkable.most l);
        faced = rw c.face_is (within 0 r.one.faces (omega arith) l);
      }

  -- the first row of a tree, and its root, stand in that tree
  first_own : {f : ℕ} → f < t.layer.count → parent t.layer f ≡ none → first t.layer f ≡ f
  first_own l e = top_is was l record { over = here; top = e }

  first_root : {f : ℕ} → f < t.layer.count → parent t.layer f ≡ none → first t.layer (t.root f) ≡ f
  first_root {f} l e = let s = r.one.lines.root f l e in top_is was s.in_use record { over = s.over; top = e }

  grows : Grows t d Stays
  grows = record {
    more = omega (arith, count_is);
    older = record { inside = λ w p. p.inside; above = λ w p h. stays_up p (there h here); same = λ w p. parent_rest p };
    either = λ w l. let i : w < t.layer.count = omega (arith, count_is) in elim (ℕ_discrete (first t.layer w) (first t.layer x)) [
      | yes e ↦ inr (λ p. p.other e, moved i e)
      | no n ↦ inl record { inside = i; other = n }
    ];
    same_level = λ w p. (marks_rest p).same_level;
    same_label = λ w p. (marks_rest p).same_label;
    same_face = λ w p. (marks_rest p).same_face;
    same_root = λ f p e. q.roots f p.inside p.other;
    root_kept = λ f p e. record {
      inside = (r.one.lines.root f p.inside e).in_use;
      other = λ z. p.other (first_own p.inside e ∙ sym (first_root p.inside e) ∙ z);
    };
  }

  pub link_keeps_rules : Rules capacity d
  link_keeps_rules = rules_of (grows_recorded r small link_numbered grows (omega (arith, count_is, r.one.trees.count))) link_numbered

  pub link_stored : StoredLink t d x v
  link_stored = record { moved = λ w l e. (came l e).under; rest = λ w l n. parent_rest record { inside = l; other = n } }

  -- where row w comes, its label and its face
  plain_is : {w : ℕ} → w < t.layer.count → plain d w ≡ target t x v w
  plain_is {w} l = elim (ℕ_discrete (first t.layer w) (first t.layer x)) [
    | yes e ↦ plain_joined r small link_numbered grows w (omega (arith, count_is)) (λ p. p.other e) ∙ (came l e).under
    | no n ↦ plain_old r small link_numbered grows w record { inside = l; other = n } ∙ (rw (says_false (says_eqb w x) (λ z. n (ap (first t.layer) z))) refl)
  ]

  column_is : (was' now' : ℕ → ℕ) (o : ℕ) → ((w : ℕ) → w < t.layer.count → first t.layer w ≡ first t.layer x → now' w ≡ column_with was' x o w)
      → ((w : ℕ) → Stays w → now' w ≡ was' w) → (w : ℕ) → w < t.layer.count → now' w ≡ column_with was' x o w
  column_is was' now' o comes rest w l = elim (ℕ_discrete (first t.layer w) (first t.layer x)) [
    | yes e ↦ comes w l e
    | no n ↦ rest w record { inside = l; other = n } ∙ (rw (says_false (says_eqb w x) (λ z. n (ap (first t.layer) z))) refl)
  ]

  label_is : (w : ℕ) → w < t.layer.count → d.label w ≡ column_with t.label x door w
  label_is = column_is t.label d.label door (λ w l e. (came l e).label_is) (λ w p. (marks_rest p).same_label)

  face_is_lem : (w : ℕ) → w < t.layer.count → d.face w ≡ column_with t.face x 0 w
  face_is_lem = column_is t.face d.face 0 (λ w l e. (came l e).face_is) (λ w p. (marks_rest p).same_face)

  pub link_plain : PlainLink t d x v door
  link_plain = record {
    count = count_is;
    under = rw (says_true (says_eqb x x) refl) at (plain_is q.linkable.in_use);
    parents = λ w l n. rw (says_false (says_eqb w x) n) at (plain_is l);
    labelled = rw (says_true (says_eqb x x) refl) at (label_is x q.linkable.in_use);
    labels = λ w l n. rw (says_false (says_eqb w x) n) at (label_is w l);
    faced = rw (says_true (says_eqb x x) refl) at (face_is_lem x q.linkable.in_use);
    faces = λ w l n. rw (says_false (says_eqb w x) n) at (face_is_lem w l);
  }

  -- levels shift by as much as brings x one below v: a row k steps below x comes k + 1 below v
  level_over : d.level v ≡ t.level v
  level_over = (marks_rest record { inside = q.linkable.over; other = q.linkable.other }).same_level

  below_x : {k w : ℕ} → w < t.layer.count → first t.layer w ≡ first t.layer x → Steps (plain t) x (suc k) w → w ≢ x
  below_x {k} {w} l e s z =
      let i = in_x r small q.linkable l e in
      let own : Steps (plain t) x 0 w = rw z arrived in
      omega (arith, steps_depth_under r small q.linkable i s, steps_depth_under r small q.linkable i own)

  pub link_levels : {k w : ℕ} → w < t.layer.count → first t.layer w ≡ first t.layer x → Steps (plain t) x k w → d.level w ≡ t.level v +ℤ pos (k + 1)
  link_levels l e arrived = rw (says_true (says_eqb x x) refl, level_over) at (came l e).level
  link_levels {w = w} l e (step {k = k} g s) =
      let n : w ≢ x = below_x l e (step {k = k} g s) in
      let i = in_x r small q.linkable l e in
      let under : plain t w ≡ tree_parent t (first t.layer x) w = plain_tree r small i in
      let j : InTree t.layer (first t.layer x) (plain t w) = rw under (parent_in r small i (λ z. g (under ∙ z))) in
      let above : d.level w ≡ d.level (plain t w) +ℤ pos 1 = rw (says_false (says_eqb w x) n) at (came l e).level in
      let next : suc k + 1 ≡ k + 1 + 1 = omega arith in
      above ∙ ap (λ (z : ℤ). z +ℤ pos 1) (link_levels j.in_use (first_is (numbered r small) j) s) ∙ +ℤ_assoc (t.level v) (pos (k + 1)) (pos 1) ∙ ap (λ (m : ℕ). t.level v +ℤ pos m) (sym next)

  -- the rows renumbered are paid for by the lag and 120 for each row that joined
  pub link_pays : worth * lag d.layer + k ≤ worth * lag t.layer + per_join * tree_rows t.layer x
  link_pays = omega (arith, joinings_pay apart_numbered q.joins, parted_lag (numbered r small) q.parted, order_length r small q.linkable q.ordered)

  -- and no more than all rows in use for each
  pub link_rows : k ≤ tree_rows t.layer x * t.layer.count
  link_rows = rw (order_length r small q.linkable q.ordered, q.count) at (joinings_rows q.joins)
