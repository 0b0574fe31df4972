-- With a lone row joined, the head of its chain is ready to be renumbered.
use Rattle.std.specs.Prelude.{◌≡◌, ◌≢◌, ℕ, ◌+◌, ◌*◌, ◌≤◌, ◌<◌}
use Rattle.std.proofs.Common.{ap, sym, ◌∙◌, inl, inr, arith}
use Rattle.tree_laws.specs.Ancestor.{none, here, there, Forest}
use Rattle.tree_laws.specs.AncestorLaws.{trans, linear, towards, anc_in, no_loop, dec_anc, row_some}
use Rattle.tree_laws.specs.Compressed.{Apex}
use Rattle.tree_laws.specs.Join.{Old}
use Rattle.tree_laws.specs.JoinLaws.{old_or}
use Rattle.tree_laws.specs.Size.{size as size_in}
use Rattle.tree_laws.specs.SizeLaws.{size_children, ChildOf, child_sum_some}
use Rattle.span.specs.Constants.{growth_up, growth_down}
use Rattle.layer.specs.Layer.{Layer, parent, depth, upper, path, size, set_size, next_free}
use Rattle.layer.specs.Spans.{p}
use Rattle.layer.specs.Numbered.{Numbered}
use Rattle.join_laws.specs.Joined.{Joined}
use Rattle.join_laws.specs.Head.{Head}
use Rattle.join_laws.specs.Renumbered.{Below}
use Rattle.join_laws.specs.Ready.{Ready}
use Rattle.join_laws.specs.Trees.{OwnTrees}
use Rattle.join_laws.proofs.Trees.{own_trees, stored, uppers, upper_apex, upper_out_lem, stored_anc}
use Rattle.join_laws.proofs.JoinedLaws.{was, new_in, inserted_trees, p_old, small_old, settled_old}

module _ {t m : Layer} {z v h : ℕ} (r : Numbered t) (k : Joined t m z v) (e : Head m z h) where
  trees : OwnTrees m
  trees = inserted_trees r k

  chains : Forest (upper m) (depth m) m.count
  chains = uppers trees

  head_in : h < m.count
  head_in = anc_in chains (new_in r k) e.over

  -- z is at or below the head, so a row outside is another one
  outside_old : (x : ℕ) → x < m.count → ¬ Below m h x → Old t.count z x
  outside_old x l o = elim (old_or z x (was r k l)) [ inl i ↦ i | inr q ↦ absurd (o (rw q (stored_anc trees (new_in r k) e.over))) ]

  -- and is not due: above the head none is, and elsewhere sizes did not grow
  outside_calm : (x : ℕ) → Old t.count z x → ¬ Below m h x → growth_down * size m x < growth_up * set_size m x
  outside_calm x l o = elim (dec_anc chains x z (new_in r k)) [
    | no n ↦ omega (arith, k.size_rest x l n, (k.old x l).same_set_size, (r.three x l.inside).growth)
    | yes q ↦ elim (linear q e.over) [
      | inl z ↦ e.calm x z (λ i. o (rw i here))
      | inr z ↦ absurd (o (stored_anc trees (omega (arith, k.planted.count, l.inside)) z))
    ]
  ]

  -- the compressed parent u of the head is old, and one row larger than before
  module _ (i : upper m h ≢ none) where
    u_old : Old t.count z (upper m h)
    u_old = outside_old (upper m h) (chains.inside h head_in i) (upper_out_lem trees h head_in i)

    u_size : size m (upper m h) ≡ size t (upper m h) + 1
    u_size = k.size_chain (upper m h) u_old (trans (there i here) e.over)

    small_head : 2 * size m h + set_size m (upper m h) ≤ 2 * size m (upper m h)
    small_head = elim (old_or z h (was r k head_in)) [
      | inl l ↦ small_old r k h l i
      | inr q ↦ omega (arith, ap (size m) q, k.size_new, u_size, (k.old (upper m h) u_old).same_set_size, (r.three (upper m h) u_old.inside).most)
    ]

    -- u is not due, so it had a child before
    u_child : ChildOf (upper t) t.count (upper m h)
    u_child = child_sum_some (upper t) t.count (upper m h) (size_in (upper t) (depth t) t.count) (omega (
      arith,
      r.two.size (upper m h) u_old.inside,
      size_children (uppers (own_trees r)) (upper m h) u_old.inside,
      u_size,
      e.calm (upper m h) (there i here) (λ z. no_loop chains h head_in i (rw z here)),
      (k.old (upper m h) u_old).same_set_size,
      (r.three (upper m h) u_old.inside).most,
    ))

    -- and its next free number is p or above
    own_head : p m (upper m h) ≤ next_free m (upper m h)
    own_head =
        let w = u_child.row in
        let n : upper t w ≢ none = λ z. i (sym u_child.over ∙ z) in
        omega (
          arith,
          rw u_child.over at ((r.five.inside w u_child.inside).low n),
          rw u_child.over at ((r.five.inside w u_child.inside).high n),
          p_old r k (upper m h) u_old,
          k.next_free_old (upper m h) u_old,
        )

  -- the new row is an apex, and so is each row above it on the chain
  head_apex : Apex (parent m) (path m) h
  head_apex = elim (towards e.over) [
    | inr w ↦ rw w.over at (upper_apex trees w.child (anc_in chains (new_in r k) w.down) w.some)
    | inl q ↦ rw q (λ i y.
        let n : path t v ≡ z = sym (k.old v k.planted.over).same_path ∙ ap (path m) (sym k.planted.new.parent_is) ∙ y in
        let s : path t v ≢ none = row_some (stored (own_trees r)) k.planted.alone.inside n in
        row_some (stored (own_trees r)) k.planted.over.inside (r.two.path v k.planted.over.inside s).parent (ap (parent t) n ∙ k.planted.alone.top))
  ]

  pub ready : Ready m h
  ready = record {
    trees = trees;
    in_use = head_in;
    apex = head_apex;
    due = e.due;
    small = small_head;
    own = own_head;
    row = λ x l o. let i = outside_old x l o in settled_old r k x i (outside_calm x i o);
    apart = λ x l y j o q n i z.
        let b = outside_old x l o in
        let c = outside_old y j q in
        rw ((k.old x b).same_start, (k.old y c).same_start, (k.old x b).same_set_size, (k.old y c).same_set_size)
        (r.five.apart x b.inside y c.inside n (λ w. i ((k.old x b).same_upper ∙ w)) (sym (k.old x b).same_upper ∙ z ∙ (k.old y c).same_upper));
  }
