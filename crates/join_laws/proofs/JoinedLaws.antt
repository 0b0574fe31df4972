-- With a lone row joined, rule 2 holds again, and rules 4 to 6 at the other rows.
use Rattle.std.specs.Prelude.{◌≡◌, refl, ◌≢◌, ℕ, ◌+◌, ◌*◌, ◌≤◌, ◌<◌, eqb}
use Rattle.std.proofs.Common.{ap, sym, ◌∙◌, inl, inr, arith}
use Rattle.std.proofs.Math.Decide.{ℕ_discrete}
use Rattle.laws.specs.Test.{bit, says_false, says_eqb}
use Rattle.laws.specs.Sum.{sum_eq}
use Rattle.laws.specs.Fourth.{fourth, fourth_zero}
use Rattle.tree_laws.specs.Ancestor.{none, here, there, Forest}
use Rattle.tree_laws.specs.AncestorLaws.{trans, row_some, dec_anc}
use Rattle.tree_laws.specs.Compressed.{Compressed}
use Rattle.tree_laws.specs.CompressedLaws.{from_step, compressed_forest}
use Rattle.tree_laws.specs.Depth.{Depth}
use Rattle.tree_laws.specs.DepthLaws.{depth_forest}
use Rattle.tree_laws.specs.Join.{Old, Alone, Joins}
use Rattle.tree_laws.specs.JoinLaws.{old_or, old_up, old_anc, anc_old, join_depth, size_over, size_other, size_new_lem}
use Rattle.tree_laws.specs.Size.{child_sum}
use Rattle.span.specs.Constants.{growth_up, growth_down}
use Rattle.layer.specs.Layer.{Layer, parent, depth, upper, path, size, set_size, start, next_free}
use Rattle.layer.specs.Spans.{p, end}
use Rattle.layer.specs.Entries.{Entry}
use Rattle.layer.specs.Numbered.{Numbered}
use Rattle.layer_laws.proofs.Numbered.{shape}
use Rattle.join_laws.specs.Joined.{Planted, Joined}
use Rattle.join_laws.proofs.EntryLaws.{entry_copy}
use Rattle.join_laws.proofs.StepLaws.{Near, step_copy}
use Rattle.join_laws.specs.Ready.{Settled}
use Rattle.join_laws.specs.Trees.{OwnTrees}
use Rattle.join_laws.proofs.Trees.{own_trees, stored, uppers, upper_step, upper_above, upper_parent}

-- a row that stands alone does so in the compressed tree too
pub upper_alone : {t : Layer} {z : ℕ} → Numbered t → Alone (parent t) t.count z → Alone (upper t) t.count z
upper_alone {t} {z} r a =
    let before = own_trees r in
    record {
      inside = a.inside;
      top = before.compressed.root z a.inside a.top;
      bare = λ x i e.
          let n : upper t x ≢ none = row_some (uppers before) a.inside e in
          let p : parent t x ≢ none = upper_parent before x i n in
          elim (ℕ_discrete x z) [
            | yes y ↦ p (rw y a.top)
            | no d ↦ (old_anc (stored before) a (old_up (stored before) a x record { inside = i; other = d } p) (rw e at (upper_above before x i n))).other refl
          ];
    }

-- the stored tree: z joins it as a leaf
module _ {t m : Layer} {z v : ℕ} (r : Numbered t) (k : Planted t m z v) where
  parent_joins : Joins (parent t) (parent m) t.count z v
  parent_joins = record { alone = k.alone; over = k.over; same = λ x o. (k.old x o).same_parent; under = k.new.parent_is }

  pub planted_depth : Depth (parent m) (depth m) m.count
  planted_depth = rw k.count (join_depth (shape r) parent_joins (λ x o. (k.old x o).same_depth) k.new.depth_is)

module _ {t m : Layer} {z v : ℕ} (r : Numbered t) (k : Joined t m z v) where
  before : OwnTrees t
  before = own_trees r

  still : {x : ℕ} → x < t.count → x < m.count
  still l = omega (arith, k.planted.count)

  pub was : {x : ℕ} → x < m.count → x < t.count
  was l = omega (arith, k.planted.count)

  pub new_in : z < m.count
  new_in = still k.planted.alone.inside

  parent_old_lem : (x : ℕ) → Old t.count z x → parent m x ≡ parent t x
  parent_old_lem x o = (k.planted.old x o).same_parent

  parent_other : (x : ℕ) → Old t.count z x → parent t x ≢ none → Old t.count z (parent t x)
  parent_other = old_up (stored before) k.planted.alone

  -- Rule 2

  tree : Forest (parent m) (depth m) m.count
  tree = depth_forest (planted_depth r k.planted)

  near_old : (x : ℕ) → Old t.count z x → Near (parent t) (parent m) (path t) (path m) (upper t) (upper m) x
  near_old x o = record {
    same_parent = parent_old_lem x o;
    same_upper = (k.old x o).same_upper;
    above_parent = λ i. parent_old_lem (parent t x) (parent_other x o i);
    above_upper = λ i. (k.old (parent t x) (parent_other x o i)).same_upper;
    above_path = λ i j. (k.old (parent t (parent t x)) (parent_other (parent t x) (parent_other x o i) j)).same_path;
  }

  compressed : Compressed (parent m) (path m) (upper m) m.count
  compressed = from_step tree (λ x l. elim (old_or z x (was l)) [
    | inl o ↦ step_copy (near_old x o) (upper_step before x o.inside)
    | inr e ↦ rw e k.upper_new
  ])

  -- z joins the compressed tree as a leaf too
  upper_old : Old t.count z (upper m z)
  upper_old =
      let n : parent m z ≢ none = row_some (stored before) k.planted.over.inside k.planted.new.parent_is in
      old_anc (stored before) k.planted.alone k.planted.over
      (anc_old (stored before) (parent_joins r k.planted) k.planted.over (rw k.planted.new.parent_is at (compressed.first z new_in n).above))

  upper_joins : Joins (upper t) (upper m) t.count z (upper m z)
  upper_joins = record { alone = upper_alone r k.planted.alone; over = upper_old; same = λ x o. (k.old x o).same_upper; under = refl }

  uppers_new : Forest (upper m) (depth m) t.count
  uppers_new = rw k.planted.count at (compressed_forest tree compressed)

  pub inserted_trees : OwnTrees m
  inserted_trees = record {
    shape = planted_depth r k.planted;
    in_use = λ x l h. elim (old_or z x (was l)) [
      | inl o ↦ rw (k.old x o).same_path (still (before.in_use x o.inside (λ y. h ((k.old x o).same_path ∙ y))))
      | inr e ↦ absurd (h (ap (path m) e ∙ k.path_new))
    ];
    link = λ x l h. elim (old_or z x (was l)) [
      | inl o ↦
          let n : path t x ≢ none = λ y. h ((k.old x o).same_path ∙ y) in
          let q : Old t.count z (path t x) = record {
            inside = before.in_use x o.inside n;
            other = λ e. row_some (stored before) o.inside (before.link x o.inside n) (ap (parent t) e ∙ k.planted.alone.top);
          } in
          rw (k.old x o).same_path (parent_old_lem (path t x) q ∙ before.link x o.inside n)
      | inr e ↦ absurd (h (ap (path m) e ∙ k.path_new))
    ];
    compressed = compressed;
    sizes = λ x l. rw k.planted.count (elim (old_or z x (was l)) [
      | inl o ↦ elim (dec_anc uppers_new x z k.planted.alone.inside) [
        | yes q ↦ k.size_chain x o q ∙ ap (λ (s : ℕ). s + 1) (before.sizes x o.inside) ∙ sym (size_over (uppers before) upper_joins uppers_new x o q)
        | no n ↦ k.size_rest x o n ∙ before.sizes x o.inside ∙ sym (size_other (uppers before) upper_joins uppers_new x o n)
      ]
      | inr e ↦ rw e (k.size_new ∙ sym (size_new_lem (uppers before) upper_joins uppers_new))
    ]);
  }

  -- Rules 3 to 6 at the other rows, but that they may be due

  size_grows : (x : ℕ) → Old t.count z x → size t x ≤ size m x
  size_grows x o = elim (dec_anc (uppers inserted_trees) x z new_in) [
    | yes q ↦ omega (arith, k.size_chain x o q)
    | no n ↦ omega (arith, k.size_rest x o n)
  ]

  pub p_old : (x : ℕ) → Old t.count z x → p m x ≡ p t x
  p_old x o = omega (arith, (k.old x o).same_start, ap fourth (k.old x o).same_set_size)

  end_old : (x : ℕ) → Old t.count z x → end m x ≡ end t x
  end_old x o = omega (arith, (k.old x o).same_start, ap fourth (k.old x o).same_set_size)

  module _ (x : ℕ) (o : Old t.count z x) (i : upper m x ≢ none) where
    upper_was : upper t x ≢ none
    upper_was y = i ((k.old x o).same_upper ∙ y)

    upper_in : Old t.count z (upper t x)
    upper_in = old_up (uppers before) (upper_alone r k.planted.alone) x o upper_was

    -- the chain of a row goes on in its compressed parent
    pub small_old : 2 * size m x + set_size m (upper m x) ≤ 2 * size m (upper m x)
    small_old = rw (k.old x o).same_upper (elim (dec_anc (uppers inserted_trees) x z new_in) [
      | yes q ↦ omega (
        arith,
        k.size_chain x o q,
        k.size_chain (upper t x) upper_in (rw (k.old x o).same_upper at (trans (there i here) q)),
        (k.old (upper t x) upper_in).same_set_size,
        r.four x o.inside upper_was,
      )
      | no n ↦ omega (arith, k.size_rest x o n, size_grows (upper t x) upper_in, (k.old (upper t x) upper_in).same_set_size, r.four x o.inside upper_was)
    ])

    low_old : p m (upper m x) ≤ start m x
    low_old = rw (k.old x o).same_upper (omega (arith, (k.old x o).same_start, p_old (upper t x) upper_in, (r.five.inside x o.inside).low upper_was))

    high_old : end m x ≤ next_free m (upper m x)
    high_old = rw (k.old x o).same_upper (omega (arith, end_old x o, k.next_free_old (upper t x) upper_in, (r.five.inside x o.inside).high upper_was))

  -- z, which had no compressed parent and has set size 0, adds nothing to the sum of a row
  sum_old : (u : ℕ) → u < t.count → child_sum (upper m) (λ w. fourth (set_size m w)) m.count u ≡ child_sum (upper t) (λ w. fourth (set_size t w)) t.count u
  unfolding child_sum
  sum_old u i = rw k.planted.count
      (sum_eq (λ w. bit (eqb (upper m w) u) * fourth (set_size m w)) (λ w. bit (eqb (upper t w) u) * fourth (set_size t w)) t.count each)
    where
      at_z : bit (eqb (upper m z) u) * fourth (set_size m z) ≡ bit (eqb (upper t z) u) * fourth (set_size t z)
      at_z = rw (k.set_size_new, fourth_zero, says_false (says_eqb (upper t z) u) (λ e. row_some (uppers before) i e (upper_alone r k.planted.alone).top)) (omega arith)

      each : (w : ℕ) → w < t.count → bit (eqb (upper m w) u) * fourth (set_size m w) ≡ bit (eqb (upper t w) u) * fourth (set_size t w)
      each w l = elim (old_or z w l) [
        | inl o ↦ rw ((k.old w o).same_upper, (k.old w o).same_set_size) refl
        | inr e ↦ rw e at_z
      ]

  entry_old : {i x e : ℕ} → Old t.count z x → Entry t i x e → Entry m i x e
  entry_old o = entry_copy (λ a q. (k.old a (old_anc (uppers before) (upper_alone r k.planted.alone) o q)).same_upper) (λ a q. (k.old a (old_anc (uppers before) (upper_alone r k.planted.alone) o q)).same_set_size)

  pub settled_old : (x : ℕ) → Old t.count z x → growth_down * size m x < growth_up * set_size m x → Settled m x
  settled_old x o near = record {
    set_size = record {
      positive = omega (arith, (r.three x o.inside).positive, (k.old x o).same_set_size);
      most = omega (arith, (r.three x o.inside).most, (k.old x o).same_set_size, size_grows x o);
      growth = near;
    };
    small = small_old x o;
    inside = record { low = low_old x o; high = high_old x o };
    dense = rw (sum_old x o.inside) (omega (arith, k.next_free_old x o, p_old x o, r.five.dense x o.inside));
    first = λ e. (k.old x o).same_start ∙ r.five.first x o.inside (sym (parent_old_lem x o) ∙ e);
    entries = λ i b. rw ((k.old x o).same_entry i b) (entry_old o (r.six x o.inside i b));
  }
