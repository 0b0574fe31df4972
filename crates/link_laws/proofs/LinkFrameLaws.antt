-- A link leaves the trees that it does not name as they were.
use Rattle.std.specs.Prelude.{◌≡◌, refl, ◌≢◌, List, ℕ, ◌≤◌, ◌<◌}
use Rattle.std.proofs.Common.{sym, ◌∙◌, inl, inr, arith}
use Rattle.std.proofs.Math.Decide.{ℕ_discrete}
use Rattle.laws.specs.Test.{says_true, says_false, says_eqb}
use Rattle.tree_laws.specs.Ancestor.{none, here, there, Forest}
use Rattle.tree_laws.specs.ChildLinks.{Member}
use Rattle.tree_laws.specs.Top.{top_anc}
use Rattle.layer.specs.Layer.{parent, depth}
use Rattle.layer.specs.Numbered.{Numbered}
use Rattle.layer.specs.StoredTree.{first}
use Rattle.table.specs.Capacity.{node_limit}
use Rattle.table.specs.PlainTree.{plain}
use Rattle.table.specs.Rules.{Rules}
use Rattle.table.proofs.Rules.{numbered}
use Rattle.table.specs.Table.{Table}
use Rattle.layer_laws.proofs.Numbered.{first_is}
use Rattle.table_laws.specs.LevelLaws.{plain_tree, parent_in}
use Rattle.join_laws.proofs.JoinStep.{step_planted, join_keeps}
use Rattle.join_laws.proofs.KeptLaws.{kept_same, kept_trans}
use Rattle.join_laws.specs.Lone.{Kept}
use Rattle.join_laws.proofs.LoneLaws.{parted_numbered}
use Rattle.join_laws.proofs.Trees.{own_trees, stored}
use Rattle.join_laws.proofs.WholeTrees.{WholeTrees, whole_after, join_spares}
use Rattle.growth_laws.specs.GrowthFrame.{Untouched}
use Rattle.link_laws.specs.Joinings.{Joinings, done, next}
use Rattle.link_laws.specs.Link.{target, Linked}
use Rattle.link_laws.specs.LinkFrame.{Elsewhere}
use Rattle.link_laws.proofs.LinkLaws.{marks_rest}
use Rattle.link_laws.proofs.OrderLaws.{in_x, some}

-- whole trees of which neither the rows that join nor their targets are
pub joinings_spare : {target label face : ℕ → ℕ} {t d : Table} {zs : List ℕ} {k : ℕ} {In : ℕ → Type 0} → Numbered t.layer → Joinings target label face t d zs k
    → WholeTrees t.layer In → ((z : ℕ) → Member zs z → ¬ In z) → ((z : ℕ) → Member zs z → ¬ In (target z))
    → (x : ℕ) → x < t.layer.count → In x → Kept t.layer d.layer x
joinings_spare r done w rows targets x l i = kept_same
joinings_spare r (next {z = z} s g j) w rows targets x l i =
    let not_z = rows z (inl refl) in
    let not_v = targets z (inl refl) in
    kept_trans (join_spares r s w not_z not_v x l i)
    (joinings_spare (join_keeps r s) j (whole_after r s w not_z not_v) (λ y m. rows y (inr m)) (λ y m. targets y (inr m)) x (omega (arith, (step_planted s).count)) i)

module _ {capacity : ℕ} {t d : Table} {x v door k : ℕ} (r : Rules capacity t) (small : capacity ≤ node_limit) (q : Linked t d x v door k) where
  num : Numbered t.layer
  num = numbered r small

  was : Forest (parent t.layer) (depth t.layer) t.layer.count
  was = stored (own_trees num)

  -- a row and the one above it stand in one tree
  one_tree : {w : ℕ} → w < t.layer.count → parent t.layer w ≢ none → first t.layer (parent t.layer w) ≡ first t.layer w
  one_tree l e = top_anc was l (there e here)

  above : {w : ℕ} → Elsewhere t x v w → parent t.layer w ≢ none → Elsewhere t x v (parent t.layer w)
  above {w} p e = record {
    in_use = was.inside w p.in_use e;
    not_linked = λ i. p.not_linked (sym (one_tree p.in_use e) ∙ i);
    not_receiving = λ i. p.not_receiving (sym (one_tree p.in_use e) ∙ i);
  }

  below : {w : ℕ} → w < t.layer.count → parent t.layer w ≢ none → Elsewhere t x v (parent t.layer w) → Elsewhere t x v w
  below l e p = record {
    in_use = l;
    not_linked = λ i. p.not_linked (one_tree l e ∙ i);
    not_receiving = λ i. p.not_receiving (one_tree l e ∙ i);
  }

  -- rows of the linked tree stand alone, the others are as they were
  parted_kept : {w : ℕ} → w < t.layer.count → first t.layer w ≢ first t.layer x → Kept t.layer q.apart.layer w
  parted_kept {w} l n = q.parted.kept w l (says_false (says_eqb (first t.layer w) (first t.layer x)) n)

  apart_whole : WholeTrees q.apart.layer (Elsewhere t x v)
  apart_whole = record {
    above = λ w l p e. let s = (parted_kept p.in_use p.not_linked).same_parent in rw s (above p (λ y. e (s ∙ y)));
    below = λ w l e p. let i : w < t.layer.count = omega (arith, q.count) in elim (ℕ_discrete (first t.layer w) (first t.layer x)) [
      | yes y ↦ absurd (e (q.parted.alone w l (says_true (says_eqb (first t.layer w) (first t.layer x)) y)).parent_none)
      | no n ↦ let s = (parted_kept i n).same_parent in below i (λ y. e (s ∙ y)) (rw s at p)
    ];
  }

  -- the plain parent of a row of the linked tree stands in that tree
  plain_first : {z : ℕ} → Member q.order z → z ≢ x → first t.layer (plain t z) ≡ first t.layer x
  plain_first {z} m n =
      let l = q.ordered.inside z m in
      let e = q.ordered.moved z m in
      let i = in_x r small q.linkable l e in
      rw (plain_tree r small i) (first_is num (parent_in r small i (some r small q.linkable l e n)))

  -- so a target stands in one of the two
  target_apart : (z : ℕ) → Member q.order z → ¬ Elsewhere t x v (target t x v z)
  target_apart z m p = elim (ℕ_discrete z x) [
    | yes e ↦ (rw (says_true (says_eqb z x) e) at p).not_receiving refl
    | no n ↦ (rw (says_false (says_eqb z x) n) at p).not_linked (plain_first m n)
  ]

  pub link_elsewhere : (w : ℕ) → Elsewhere t x v w → Untouched t d w
  link_elsewhere w p =
      let i : w < q.apart.layer.count = omega (arith, q.count, p.in_use) in
      record {
        row = kept_trans (parted_kept p.in_use p.not_linked)
            (joinings_spare (parted_numbered num q.parted) q.joins apart_whole (λ z m o. o.not_linked (q.ordered.moved z m)) target_apart w i p);
        marks = marks_rest r small q record { inside = p.in_use; other = p.not_linked };
        same_root = q.roots w p.in_use p.not_linked;
      }
