-- A layer that is ready, its head renumbered, has rules 2 to 4.
use Rattle.std.specs.Prelude.{◌≡◌, refl, ◌≢◌, ℕ, ◌+◌, ◌*◌, ◌≤◌, ◌<◌}
use Rattle.std.proofs.Common.{sym, ◌∙◌, inl, inr, arith}
use Rattle.std.proofs.Math.Decide.{ℕ_discrete}
use Rattle.tree_laws.specs.Ancestor.{none, Forest}
use Rattle.tree_laws.specs.AncestorLaws.{cases, dec_anc}
use Rattle.tree_laws.specs.Compressed.{Apex, Compressed}
use Rattle.tree_laws.specs.CompressedLaws.{apex_or, size_apex_lem, size_alone}
use Rattle.tree_laws.specs.Size.{size as size_in}
use Rattle.tree_laws.specs.SizeLaws.{size_children, size_pos, size_mono, child_sum_one}
use Rattle.layer.specs.Layer.{Layer, parent, depth, upper, path, size, set_size}
use Rattle.layer.specs.CompressedTree.{SetSize, SmallChild}
use Rattle.join_laws.specs.Renumbered.{Below, rows, Renumbered}
use Rattle.join_laws.specs.Ready.{Ready}
use Rattle.join_laws.specs.Trees.{Trees}
use Rattle.join_laws.proofs.Trees.{stored, uppers, upper_parent, upper_above, upper_apex, upper_out_lem, upper_outside, upper_some, upper_below}
use Rattle.join_laws.proofs.RebuiltLaws.{rebuilt_compressed, rebuilt_apex, rebuilt_in_use, rebuilt_link, Agree, agree_size}

module _ {m d : Layer} {h : ℕ} (r : Ready m h) (k : Renumbered m d h) where
  pub tree : Forest (parent m) (depth m) m.count
  tree = stored r.trees

  pub apex : Apex (parent m) (path d) h
  apex = rebuilt_apex r.trees r.in_use r.apex k.built

  compressed : Compressed (parent m) (path d) (upper d) m.count
  compressed = rebuilt_compressed r.trees r.in_use r.apex k.built

  pub agree : Agree m (path m) (path d) (upper m) (upper d) h
  agree = record {
    tree = tree;
    in_use = r.in_use;
    left = r.trees.compressed;
    right = compressed;
    left_apex = r.apex;
    right_apex = apex;
    same = k.built.upper_out;
    head = k.built.upper_head;
  }

  -- Rule 2, over the stored tree of m

  pub renumbered_trees : Trees (parent m) (depth m) m.count d
  renumbered_trees = record {
    shape = r.trees.shape;
    in_use = rebuilt_in_use r.trees r.in_use r.apex k.built;
    link = rebuilt_link r.trees r.in_use r.apex k.built;
    compressed = compressed;
    sizes = λ v l. elim (dec_anc tree h v l) [
      | yes b ↦ k.sizes v l b
      | no o ↦ (k.numbers_out v l o).same_size ∙ r.trees.sizes v l ∙ agree_size agree v o
    ];
  }

  sizes : (v : ℕ) → v < m.count → size d v ≡ size_in (upper d) (depth m) m.count v
  sizes = renumbered_trees.sizes

  -- the size of an apex is the number of rows below it in the stored tree
  apex_rows : (v : ℕ) → v < m.count → Apex (parent m) (path d) v → size d v ≡ rows m v
  apex_rows v l a = sizes v l ∙ size_apex_lem tree compressed v a

  -- the head's size is the number of rows that are renumbered, and does not change
  pub head_rows : size d h ≡ rows m h
  head_rows = apex_rows h r.in_use apex

  pub head_size : size d h ≡ size m h
  head_size = head_rows ∙ sym (size_apex_lem tree r.trees.compressed h r.apex) ∙ sym (r.trees.sizes h r.in_use)

  upper_in : (x : ℕ) → x < m.count → upper d x ≢ none → upper d x < m.count
  upper_in = (uppers renumbered_trees).inside

  -- Rule 3

  pub renumbered_set : (x : ℕ) → x < m.count → SetSize d x
  renumbered_set x l = elim (dec_anc tree h x l) [
    | yes b ↦
        let s : set_size d x ≡ size d x = k.set_sizes x l b in
        let o : 1 ≤ size d x = omega (arith, sizes x l, size_pos (uppers renumbered_trees) x l) in
        record { positive = omega arith; most = omega arith; growth = omega arith }
    | no o ↦
        let s = (r.row x l o).set_size in
        let e = k.numbers_out x l o in
        record {
          positive = omega (arith, s.positive, e.same_set_size);
          most = omega (arith, s.most, e.same_set_size, e.same_size);
          growth = omega (arith, s.growth, e.same_set_size, e.same_size);
        }
  ]

  -- Rule 4

  -- below the head a compressed child is light, or a row of the path and alone
  small_below : (w : ℕ) → w < m.count → Below m h w → w ≢ h → 2 * size d w ≤ size d (upper d w)
  small_below w l b n = elim (apex_or (parent m) (path d) w) [
    | inl a ↦ omega (
      arith,
      apex_rows w l a,
      k.built.light w l (upper_parent renumbered_trees w l some) above (a (upper_parent renumbered_trees w l some)),
      size_mono tree (upper_above renumbered_trees w l some),
      apex_rows (upper d w) (upper_in w l some) (upper_apex renumbered_trees w l some),
    )
    | inr o ↦ omega (
      arith,
      sizes w l,
      size_alone tree compressed w l o,
      sizes (upper d w) (upper_in w l some),
      size_children (uppers renumbered_trees) (upper d w) (upper_in w l some),
      child_sum_one (upper d) m.count (upper d w) (size_in (upper d) (depth m) m.count) w l refl,
    )
  ]
    where
      some : upper d w ≢ none
      some = upper_some renumbered_trees apex l b n

      above : Below m h (parent m w)
      above = elim (cases b) [ inl e ↦ absurd (n (sym e)) | inr s ↦ s.1 ]

  -- elsewhere x has the compressed parent of before, an outside row
  small_outside : (x : ℕ) → x < m.count → upper d x ≡ upper m x → (upper m x ≢ none → ¬ Below m h (upper m x))
      → (upper m x ≢ none → 2 * size d x + set_size m (upper m x) ≤ 2 * size m (upper m x)) → SmallChild d x
  small_outside x l e o f i =
      let j : upper m x ≢ none = λ z. i (e ∙ z) in
      let u = k.numbers_out (upper m x) ((uppers r.trees).inside x l j) (o j) in
      rw e (omega (arith, u.same_size, u.same_set_size, f j))

  pub renumbered_small : (x : ℕ) → x < m.count → SmallChild d x
  renumbered_small x l = elim (dec_anc tree h x l) [
    | no o ↦ small_outside x l (k.built.upper_out x l o) (upper_outside r.trees x l o) (rw (k.numbers_out x l o).same_size (r.row x l o).small)
    | yes b ↦ elim (ℕ_discrete x h) [
      | yes e ↦ rw e (small_outside h r.in_use k.built.upper_head (upper_out_lem r.trees h r.in_use) (rw head_size r.small))
      | no n ↦ λ i. omega (arith, small_below x l b n, k.set_sizes (upper d x) (upper_in x l i) (upper_below renumbered_trees apex l b n))
    ]
  ]
