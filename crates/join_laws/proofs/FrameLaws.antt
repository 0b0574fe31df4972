-- A join changes what the frame says, and the head's rows are as the frame says.
use Rattle.std.specs.Prelude.{◌≡◌, ◌≢◌, ℕ, ◌<◌}
use Rattle.std.proofs.Common.{ap, sym, ◌∙◌, inl, inr, arith}
use Rattle.tree_laws.specs.Ancestor.{Anc, Forest}
use Rattle.tree_laws.specs.AncestorLaws.{trans, linear, anc_in, anc_copy, anc_back}
use Rattle.tree_laws.specs.Join.{Old}
use Rattle.tree_laws.specs.Size.{size as size_in}
use Rattle.tree_laws.specs.SizeLaws.{size_same}
use Rattle.layer.specs.Layer.{Layer, parent, depth, upper, size}
use Rattle.layer.specs.Numbered.{Numbered}
use Rattle.join_laws.specs.Joined.{Planted, SamePlace}
use Rattle.join_laws.specs.Renumbered.{Below, rows}
use Rattle.join_laws.specs.Frame.{Frame, HeadRows}
use Rattle.join_laws.specs.Ready.{Ready}
use Rattle.join_laws.proofs.Trees.{own_trees, stored, stored_anc}
use Rattle.join_laws.proofs.JoinedLaws.{new_in}
use Rattle.join_laws.proofs.RebuiltLaws.{agree_swap, agree_over}
use Rattle.join_laws.proofs.RenumberedLaws.{agree, head_rows, head_size}
use Rattle.join_laws.specs.JoinStep.{JoinStep}
use Rattle.join_laws.proofs.JoinStep.{step_planted, step_ready, join_keeps}

module _ {t d : Layer} {z v h : ℕ} (r : Numbered t) (k : JoinStep t d z v h) where
  set : Ready k.between h
  set = step_ready r k

  planted : Planted t d z v
  planted = step_planted k

  tree : Forest (parent k.between) (depth k.between) k.between.count
  tree = stored set.trees

  inside : {x : ℕ} → Old t.count z x → x < k.between.count
  inside o = omega (arith, k.joined.planted.count, o.inside)

  -- the stored tree is the same before the head is renumbered and after
  anc_after : {a x : ℕ} → x < k.between.count → Anc (parent k.between) a x → Anc (parent d) a x
  anc_after l = anc_copy (λ y q. (k.renumbered.tree.node y (anc_in tree l q)).same_parent)

  anc_before : {a x : ℕ} → x < k.between.count → Anc (parent d) a x → Anc (parent k.between) a x
  anc_before l = anc_back (λ y q. (k.renumbered.tree.node y (anc_in tree l q)).same_parent)

  outside : {x : ℕ} → Old t.count z x → ¬ Below d h x → ¬ Below k.between h x
  outside l o b = o (anc_after (inside l) b)

  place : (x : ℕ) → Old t.count z x → ¬ Below k.between h x → SamePlace t d x
  place x l o =
      let was = k.joined.old x l in
      let now = k.renumbered.numbers_out x (inside l) o in
      record {
        same_path = k.renumbered.built.path_out x (inside l) o ∙ was.same_path;
        same_upper = k.renumbered.built.upper_out x (inside l) o ∙ was.same_upper;
        same_set_size = now.same_set_size ∙ was.same_set_size;
        same_start = now.same_start ∙ was.same_start;
        same_entry = λ i b. now.same_entry i b ∙ was.same_entry i b;
      }

  -- an outside row is above the head exactly when it is above z
  above_new : {x : ℕ} → Old t.count z x → ¬ Below k.between h x → Anc (upper d) x h → Anc (upper k.between) x z
  above_new l o q = trans (agree_over (agree_swap (agree set k.renumbered)) set.in_use o q) k.head.over

  above_head : {x : ℕ} → Old t.count z x → ¬ Below k.between h x → Anc (upper k.between) x z → Anc (upper d) x h
  above_head l o q = elim (linear q k.head.over) [
    | inl z ↦ agree_over (agree set k.renumbered) set.in_use o z
    | inr z ↦ absurd (o (stored_anc set.trees (inside l) z))
  ]

  pub join_frame : Frame t d z v h
  join_frame = record {
    count = planted.count;
    node = planted.old;
    links = planted.links;
    place = λ x l o. place x l (outside l o);
    size_above = λ x l o q.
        (k.renumbered.numbers_out x (inside l) (outside l o)).same_size ∙ k.joined.size_chain x l (above_new l (outside l o) q);
    size_rest = λ x l o n.
        (k.renumbered.numbers_out x (inside l) (outside l o)).same_size ∙ k.joined.size_rest x l (λ q. n (above_head l (outside l o) q));
    next_free_above = λ i. rw k.renumbered.built.upper_head (k.renumbered.next_free_head (λ z. i (k.renumbered.built.upper_head ∙ z)));
    next_free_rest = λ x l o n.
        k.renumbered.next_free_out x (inside l) (outside l o) (λ z. n (z ∙ sym k.renumbered.built.upper_head)) ∙ k.joined.next_free_old x l;
  }

  rows_after : rows d h ≡ rows k.between h
  rows_after =
      let e : d.count ≡ k.between.count = k.renumbered.tree.count in
      ap (λ (n : ℕ). size_in (parent d) (depth d) n h) e
      ∙ size_same (rw e at (stored (own_trees (join_keeps r k)))) tree h (λ x l. anc_before l) (λ x l. anc_after l)

  pub join_head : HeadRows t d z h
  join_head = record {
    in_use = omega (arith, set.in_use, k.renumbered.tree.count);
    new = anc_after (new_in r k.joined) (stored_anc set.trees (new_in r k.joined) k.head.over);
    number = rows_after ∙ sym (head_rows set k.renumbered);
    set = λ x l b. let i : x < k.between.count = omega (arith, k.renumbered.tree.count) in k.renumbered.set_sizes x i (anc_before i b);
    size_old = λ n. head_size set k.renumbered ∙ k.joined.size_chain h (other n) k.head.over;
    size_new = λ e. head_size set k.renumbered ∙ ap (size k.between) e ∙ k.joined.size_new;
    outgrown = λ n. omega (arith, k.head.due, head_size set k.renumbered, (k.joined.old h (other n)).same_set_size);
  }
    where
      other : h ≢ z → Old t.count z h
      other n = record { inside = omega (arith, set.in_use, k.joined.planted.count); other = n }
