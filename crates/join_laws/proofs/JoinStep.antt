-- What is proved of `JoinStep`.
use Rattle.std.specs.Prelude.{◌≡◌, ℕ, ◌<◌}
use Rattle.std.proofs.Common.{sym, ◌∙◌, arith}
use Rattle.tree_laws.specs.Depth.{Depth}
use Rattle.layer.specs.Layer.{Layer, parent, depth}
use Rattle.layer.specs.Numbered.{Numbered}
use Rattle.join_laws.specs.Joined.{SameNode, Planted}
use Rattle.join_laws.specs.Renumbered.{SameLinks, SameTree}
use Rattle.join_laws.specs.Ready.{Ready}
use Rattle.join_laws.specs.Trees.{OwnTrees}
use Rattle.join_laws.proofs.Trees.{trees_rule, trees_same}
use Rattle.join_laws.proofs.JoinedLaws.{planted_depth}
use Rattle.join_laws.proofs.JoinedLinks.{planted_links}
use Rattle.join_laws.proofs.ReadyLaws.{ready}
use Rattle.join_laws.proofs.RoomLaws.{room_of}
use Rattle.join_laws.proofs.RenumberedLaws.{renumbered_trees, renumbered_set, renumbered_small}
use Rattle.join_laws.proofs.RenumberedSpans.{renumbered_inside, renumbered_dense, renumbered_apart, renumbered_first}
use Rattle.join_laws.proofs.RenumberedEntries.{renumbered_entries}
use Rattle.join_laws.specs.JoinStep.{JoinStep}

-- renumbering leaves the stored tree as it is
planted_same : {t m d : Layer} {z v : ℕ} → Planted t m z v → SameTree m d → Planted t d z v
planted_same {t} {m} {d} {z} k s = record {
  count = s.count ∙ k.count;
  alone = k.alone;
  over = k.over;
  old = λ x o. let e = s.node x (still o.inside) in record {
    same_parent = e.same_parent ∙ (k.old x o).same_parent;
    same_depth = e.same_depth ∙ (k.old x o).same_depth;
  };
  links = λ x o. let e = s.links x (still o.inside) in record {
    first_given = λ i j. e.same_first ∙ (k.links x o).first_given i j;
    first_kept = λ i. e.same_first ∙ (k.links x o).first_kept i;
    last_given = λ i. e.same_last ∙ (k.links x o).last_given i;
    last_kept = λ i. e.same_last ∙ (k.links x o).last_kept i;
    next_given = λ i. e.same_next ∙ (k.links x o).next_given i;
    next_kept = λ i. e.same_next ∙ (k.links x o).next_kept i;
  };
  new = record {
    parent_is = n.same_parent ∙ k.new.parent_is;
    depth_is = n.same_depth ∙ k.new.depth_is;
    first_none = c.same_first ∙ k.new.first_none;
    last_none = c.same_last ∙ k.new.last_none;
    next_none = c.same_next ∙ k.new.next_none;
  };
}
  where
    still : {x : ℕ} → x < t.count → x < m.count
    still l = omega (arith, k.count)

    n : SameNode m d z
    n = s.node z (still k.alone.inside)

    c : SameLinks m d z
    c = s.links z (still k.alone.inside)

pub step_planted : {t d : Layer} {z v h : ℕ} → JoinStep t d z v h → Planted t d z v
step_planted k = planted_same k.joined.planted k.renumbered.tree

module _ {t d : Layer} {z v h : ℕ} (r : Numbered t) (k : JoinStep t d z v h) where
  pub step_ready : Ready k.between h
  step_ready = ready r k.joined k.head

  back : {x : ℕ} → x < d.count → x < k.between.count
  back l = omega (arith, k.renumbered.tree.count)

  after : Depth (parent d) (depth d) d.count
  after = planted_depth r (step_planted k)

  -- the trees of d, over its own stored tree
  own : OwnTrees d
  own =
      let e : d.count ≡ k.between.count = k.renumbered.tree.count in
      rw (← e) at (trees_same (renumbered_trees step_ready k.renumbered) (rw e at after) (λ x l. (k.renumbered.tree.node x l).same_parent))

  pub join_keeps : Numbered d
  join_keeps = record {
    one = record {
      count = omega (arith, r.one.count, k.renumbered.tree.count, k.joined.planted.count);
      inside = after.inside;
      depth = λ x l. record { first = after.root x l; below = after.step x l };
      children = planted_links r (step_planted k);
    };
    two = trees_rule own;
    three = λ x l. renumbered_set step_ready k.renumbered x (back l);
    four = λ x l. renumbered_small step_ready k.renumbered x (back l);
    five = record {
      apart = λ v l w j. renumbered_apart step_ready k.renumbered v (back l) w (back j);
      inside = λ x l. renumbered_inside step_ready k.renumbered x (back l);
      room = λ x l. room_of (renumbered_trees step_ready k.renumbered) (renumbered_set step_ready k.renumbered)
          (renumbered_small step_ready k.renumbered) x (back l) (renumbered_dense step_ready k.renumbered x (back l));
      dense = λ x l. rw k.renumbered.tree.count (renumbered_dense step_ready k.renumbered x (back l));
      first = λ x l e. renumbered_first step_ready k.renumbered x (back l) (sym (k.renumbered.tree.node x (back l)).same_parent ∙ e);
    };
    six = λ x l i b. renumbered_entries step_ready k.renumbered i b x (back l);
  }
