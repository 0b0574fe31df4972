-- Whole stored trees, and that a row which joins another tree leaves theirs as they were.
use Rattle.std.specs.Prelude.{◌≡◌, ◌≢◌, ℕ, ◌<◌}
use Rattle.std.proofs.Common.{ap, sym, ◌∙◌, inl, inr, arith}
use Rattle.tree_laws.specs.Ancestor.{none, Anc, here, there, Forest}
use Rattle.tree_laws.specs.AncestorLaws.{row_some}
use Rattle.tree_laws.specs.Join.{Old}
use Rattle.tree_laws.specs.JoinLaws.{old_or}
use Rattle.layer.specs.Layer.{Layer, parent, depth, upper}
use Rattle.layer.specs.Numbered.{Numbered}
use Rattle.join_laws.specs.Joined.{Planted}
use Rattle.join_laws.proofs.JoinedLinks.{last_child}
use Rattle.join_laws.specs.JoinStep.{JoinStep}
use Rattle.join_laws.proofs.JoinStep.{step_planted, join_keeps}
use Rattle.join_laws.specs.Frame.{Frame}
use Rattle.join_laws.proofs.FrameLaws.{join_frame, join_head}
use Rattle.join_laws.specs.Lone.{Kept}
use Rattle.join_laws.specs.Trees.{OwnTrees}
use Rattle.join_laws.proofs.Trees.{own_trees, stored, stored_anc}

-- with a row the set has the rows above it and below it
pub record WholeTrees (t : Layer) (In : ℕ → Type 0) : Type 0 where
  pub above : (x : ℕ) → x < t.count → In x → parent t x ≢ none → In (parent t x)
  pub below : (x : ℕ) → x < t.count → parent t x ≢ none → In (parent t x) → In x

module _ {t : Layer} {In : ℕ → Type 0} (f : Forest (parent t) (depth t) t.count) (w : WholeTrees t In) where
  tree_above : {a x : ℕ} → x < t.count → Anc (parent t) a x → In x → In a
  tree_above l here i = i
  tree_above {x = x} l (there d q) i = tree_above (f.inside x l d) q (w.above x l i d)

  tree_below : {a x : ℕ} → x < t.count → Anc (parent t) a x → In a → In x
  tree_below l here i = i
  tree_below {x = x} l (there d q) i = w.below x l d (tree_below (f.inside x l d) q i)

-- row z, which stands alone, joins under v; neither is of the set
module _ {t d : Layer} {z v h : ℕ} {In : ℕ → Type 0} (r : Numbered t) (k : JoinStep t d z v h) (w : WholeTrees t In) (not_z : ¬ In z) (not_v : ¬ In v) where
  planted : Planted t d z v
  planted = step_planted k

  old : {x : ℕ} → x < t.count → In x → Old t.count z x
  old l i = record { inside = l; other = λ e. not_z (rw e at i) }

  pub whole_after : WholeTrees d In
  whole_after = record {
    above = λ x l i e.
        let o : Old t.count z x = old (omega (arith, planted.count)) i in
        let s = (planted.old x o).same_parent in
        rw s (w.above x o.inside i (λ y. e (s ∙ y)));
    below = λ x l e i. elim (old_or {n = t.count} z x (omega (arith, planted.count))) [
      | inl o ↦ let s = (planted.old x o).same_parent in w.below x o.inside (λ y. e (s ∙ y)) (rw s at i)
      | inr y ↦ absurd (not_v (rw (ap (parent d) y ∙ planted.new.parent_is) at i))
    ];
  }

  after : OwnTrees d
  after = own_trees (join_keeps r k)

  frame : Frame t d z v h
  frame = join_frame r k

  head_in : h < d.count
  head_in = (join_head r k).in_use

  -- the head is not of the set
  not_h : ¬ In h
  not_h i = not_z (tree_below (stored after) whole_after (omega (arith, planted.count, planted.alone.inside)) (join_head r k).new i)

  pub join_spares : (x : ℕ) → x < t.count → In x → Kept t d x
  join_spares x l i =
      let o : Old t.count z x = old l i in
      let out : ¬ Anc (parent d) h x = λ a. not_h (tree_above (stored after) whole_after (omega (arith, planted.count)) a i) in
      let up : ¬ Anc (upper d) x h = λ a. not_h (tree_below (stored after) whole_after head_in (stored_anc after head_in a) i) in
      let p = frame.place x o out in
      let c = frame.links x o in
      record {
        same_parent = (frame.node x o).same_parent;
        same_depth = (frame.node x o).same_depth;
        same_first = c.first_kept (inl not_v_lem);
        same_last = c.last_kept not_v_lem;
        same_next = c.next_kept (λ e. let y = last_child r planted l e in not_v (rw y at (w.above x l i (some y))));
        same_upper = p.same_upper;
        same_path = p.same_path;
        same_size = frame.size_rest x o out up;
        same_set_size = p.same_set_size;
        same_start = p.same_start;
        same_next_free = frame.next_free_rest x o out (λ e. up (there (row_some (stored after) (omega (arith, planted.count)) (sym e)) (rw e here)));
        same_entry = p.same_entry;
      }
    where
      not_v_lem : x ≢ v
      not_v_lem e = not_v (rw e at i)

      some : parent t x ≡ v → parent t x ≢ none
      some e = row_some (stored (own_trees r)) planted.over.inside e
