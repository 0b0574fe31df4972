-- A layer in which whole trees were parted into rows that stand alone is numbered again, and lags no further.
use Rattle.std.specs.Prelude.{◌≡◌, refl, Bool, true, ◌⊎◌, ◌≢◌, [], ℕ, zero, suc, ◌+◌, ◌-◌, ◌*◌, ◌≤◌, ◌<◌, eqb}
use Rattle.std.proofs.Math.Path.{ap, sym}
use Rattle.std.proofs.Common.{◌∙◌}
use Rattle.std.proofs.Math.Bool.{false}
use Rattle.std.proofs.Math.Logic.{inl, inr}
use Rattle.std.proofs.Math.Decide.{ℕ_discrete}
use native.Mathlib.Omega.{arith}
use Rattle.laws.specs.Test.{bit, says_true, says_false, says_eqb}
use Rattle.laws.specs.Sum.{sum_to, sum_le, sum_eq, count_one}
use Rattle.laws.specs.Fourth.{fourth}
use Rattle.tree_laws.specs.Ancestor.{none, Anc, here, there, Forest, is_ancestor}
use Rattle.tree_laws.specs.AncestorLaws.{cases, dec_anc, anc_copy, anc_back, says_is_ancestor}
use Rattle.tree_laws.specs.ChildLinks.{end}
use Rattle.tree_laws.specs.Chains.{chain_copy}
use Rattle.tree_laws.specs.Compressed.{Compressed}
use Rattle.tree_laws.specs.CompressedLaws.{from_step, compressed_forest}
use Rattle.tree_laws.specs.Depth.{Depth}
use Rattle.tree_laws.specs.DepthLaws.{depth_forest}
use Rattle.tree_laws.specs.Size.{size as size_in, child_sum}
use Rattle.layer.specs.Layer.{Layer, parent, depth, upper, path, size, set_size, start, next_free}
use Rattle.layer.specs.StoredTree.{Child, ChildLinks}
use Rattle.layer.specs.CompressedTree.{SetSize}
use Rattle.layer.specs.Spans.{p, end as end_of}
use Rattle.layer.specs.EntriesLaws.{entry_root}
use Rattle.layer.specs.Numbered.{Numbered}
use Rattle.join_laws.proofs.EntryLaws.{entry_copy}
use Rattle.join_laws.proofs.StepLaws.{Near, step_copy}
use Rattle.join_laws.specs.Trees.{OwnTrees}
use Rattle.join_laws.proofs.Trees.{own_trees, uppers, upper_step, stored_anc}
use Rattle.join_laws.specs.Lag.{lag}
use Rattle.join_laws.specs.Lone.{Lone, Kept, Parted}

-- a sum whose last rows are 0
sum_tail : (f : ℕ → ℕ) (n m : ℕ) → n ≤ m → ((j : ℕ) → n ≤ j → j < m → f j ≡ 0) → sum_to f m ≡ sum_to f n
sum_tail f n zero l h = let e : n ≡ 0 = omega arith in rw e refl
sum_tail f n (suc m) l h = elim (ℕ_discrete n (suc m)) [
  | yes e ↦ rw e refl
  | no d ↦ omega (arith, h m (omega arith) (omega arith), sum_tail f n m (omega arith) (λ j a b. h j a (omega arith)))
]

one_room : 1 ≤ 0 + 4 * fourth 1
unfolding fourth
one_room = omega arith

one_dense : (s : ℕ) → 671 * (1 - (0 + fourth 1)) ≤ 6480 * s
unfolding fourth
one_dense s = omega arith

true_or : (b : Bool) → (b ≡ true) ⊎ (b ≡ false)
true_or true = inl refl
true_or false = inr refl

not_both : {b : Bool} → b ≡ true → b ≡ false → ⊥
not_both e f = let z : true ≡ false = sym e ∙ f in let y : ◌≡◌ {A = ℕ} 0 1 = cc in omega arith

module _ {t d : Layer} {lone : ℕ → Bool} (r : Numbered t) (k : Parted t d lone) where
  before : OwnTrees t
  before = own_trees r

  some : {x y : ℕ} → y < d.count → x ≡ y → x ≢ none
  some i e y = omega (arith, k.most)

  still : {x : ℕ} → x < t.count → x < d.count
  still l = omega (arith, k.more)

  -- a row that is kept, with its number
  record Old (x : ℕ) : Type 0 where
    inside : x < t.count
    not : lone x ≡ false

  which : (x : ℕ) → x < d.count → (Lone d x × (lone x ≡ true)) ⊎ Old x
  which x l = elim (true_or (lone x)) [ inl e ↦ inl (k.alone x l e, e) | inr e ↦ inr record { inside = k.old x l e; not = e } ]

  kept : {x : ℕ} → Old x → Kept t d x
  kept {x} o = k.kept x o.inside o.not

  old_up : {x : ℕ} → Old x → parent t x ≢ none → Old (parent t x)
  old_up {x} o h = record { inside = r.one.inside x o.inside h; not = k.above x o.inside o.not h }

  old_anc : {a x : ℕ} → Old x → Anc (parent t) a x → Old a
  old_anc o here = o
  old_anc o (there h q) = old_anc (old_up o h) q

  -- rows above which stands a row that is kept are kept
  anc_old : {a x : ℕ} → x < t.count → Old a → Anc (parent t) a x → Old x
  anc_old l o here = o
  anc_old {a} {x} l o (there h q) =
      let u = anc_old (r.one.inside x l h) o q in
      record { inside = l; not = k.below x l h u.not }

  old_upper : {x : ℕ} → Old x → upper t x ≢ none → Old (upper t x)
  old_upper {x} o h = old_anc o (stored_anc before o.inside (there h here))

  old_chain : {a x : ℕ} → Old x → Anc (upper t) a x → Old a
  old_chain o q = old_anc o (stored_anc before o.inside q)

  -- Shape

  shape : Depth (parent d) (depth d) d.count
  shape = record {
    small = omega (arith, k.most);
    inside = λ x l h. elim (which x l) [
      | inl a ↦ absurd (h a.0.parent_none)
      | inr o ↦ rw (kept o).same_parent (still (r.one.inside x o.inside (λ z. h ((kept o).same_parent ∙ z))))
    ];
    root = λ x l h. elim (which x l) [
      | inl a ↦ a.0.depth_zero
      | inr o ↦ (kept o).same_depth ∙ (r.one.depth x o.inside).first (sym (kept o).same_parent ∙ h)
    ];
    step = λ x l h. elim (which x l) [
      | inl a ↦ absurd (h a.0.parent_none)
      | inr o ↦
          let i : parent t x ≢ none = λ z. h ((kept o).same_parent ∙ z) in
          rw ((kept o).same_parent, (kept o).same_depth, (kept (old_up o i)).same_depth) ((r.one.depth x o.inside).below i)
    ];
  }

  tree : Forest (parent d) (depth d) d.count
  tree = depth_forest shape

  -- Child links

  child_old : {v w : ℕ} → Old v → Child t v w → Old w
  child_old {v} {w} o c =
      let h : parent t w ≢ none = some (still o.inside) c.parent in
      record { inside = c.in_use; not = k.below w c.in_use h (rw c.parent o.not) }

  child_to : {v w : ℕ} → Old v → Child t v w → Child d v w
  child_to o c = record { in_use = still c.in_use; parent = (kept (child_old o c)).same_parent ∙ c.parent }

  child_from : {v w : ℕ} → v < d.count → Child d v w → Child t v w
  child_from {v} {w} l c = elim (which w c.in_use) [
    | inl a ↦ absurd (some l c.parent a.0.parent_none)
    | inr o ↦ record { in_use = o.inside; parent = sym (kept o).same_parent ∙ c.parent }
  ]

  links : (x : ℕ) → x < d.count → ChildLinks d x
  links x l = elim (which x l) [
    | inr o ↦
        let c = r.one.children x o.inside in
        record {
          list = c.list;
          chain = rw (kept o).same_first (chain_copy (λ w i. (kept (child_old o (c.over w i))).same_next) c.chain);
          over = λ w i. child_to o (c.over w i);
          all = λ w i. c.all w (child_from l i);
          last = (kept o).same_last ∙ c.last;
          alone = λ e. (kept o).same_next ∙ c.alone (sym (kept o).same_parent ∙ e);
        }
    | inl a ↦ record {
      list = [];
      chain = end a.0.first_none;
      over = λ w i. absurd i;
      all = λ w i. no_child a.1 i;
      last = a.0.last_none;
      alone = λ _. a.0.next_none;
    }
  ]
    where
      no_child : {w : ℕ} → lone x ≡ true → Child d x w → ⊥
      no_child {w} a i = elim (which w i.in_use) [
        | inl b ↦ some l i.parent b.0.parent_none
        | inr o ↦
            let e : parent t w ≡ x = sym (kept o).same_parent ∙ i.parent in
            not_both a (rw e at (old_up o (some l e)).not)
      ]

  -- The compressed tree

  near : (x : ℕ) → Old x → Near (parent t) (parent d) (path t) (path d) (upper t) (upper d) x
  near x o = record {
    same_parent = (kept o).same_parent;
    same_upper = (kept o).same_upper;
    above_parent = λ i. (kept (old_up o i)).same_parent;
    above_upper = λ i. (kept (old_up o i)).same_upper;
    above_path = λ i j. (kept (old_up (old_up o i) j)).same_path;
  }

  compressed : Compressed (parent d) (path d) (upper d) d.count
  compressed = from_step tree (λ x l. elim (which x l) [
    | inr o ↦ step_copy (near x o) (upper_step before x o.inside)
    | inl a ↦ record { root = λ _. a.0.upper_none; apex = λ h. absurd (h a.0.parent_none); along = λ h. absurd (h a.0.parent_none) }
  ])

  chains : Forest (upper d) (depth d) d.count
  chains = compressed_forest tree compressed

  chain_to : {a x : ℕ} → Old x → Anc (upper t) a x → Anc (upper d) a x
  chain_to o = anc_copy (λ b q. (kept (old_chain o q)).same_upper)

  chain_from : {a x : ℕ} → Old x → Anc (upper d) a x → Anc (upper t) a x
  chain_from o = anc_back (λ b q. (kept (old_chain o q)).same_upper)

  chain_lone : {a x : ℕ} → Lone d x → Anc (upper d) a x → a ≡ x
  chain_lone a q = elim (cases q) [ inl e ↦ e | inr z ↦ absurd (z.0 a.upper_none) ]

  -- the bits that a size counts
  below_same : (x : ℕ) → Old x → (y : ℕ) → y < t.count → bit (is_ancestor (upper d) (depth d) x y) ≡ bit (is_ancestor (upper t) (depth t) x y)
  below_same x o y l = elim (which y (still l)) [
    | inr q ↦ elim (dec x y q) [
      | inl a ↦ ap bit (says_true (says_is_ancestor chains x y (still l)) (chain_to q a) ∙ sym (says_true (says_is_ancestor (uppers before) x y l) a))
      | inr a ↦ ap bit (says_false (says_is_ancestor chains x y (still l)) (λ b. a (chain_from q b)) ∙ sym (says_false (says_is_ancestor (uppers before) x y l) a))
    ]
    | inl a ↦ ap bit (
        says_false (says_is_ancestor chains x y (still l)) (λ b. not_both a.1 (rw (chain_lone a.0 b) at o.not))
        ∙ sym (says_false (says_is_ancestor (uppers before) x y l) (λ b. not_both a.1 (anc_old l o (stored_anc before l b)).not)))
  ]
    where
      dec : (x y : ℕ) → Old y → Anc (upper t) x y ⊎ (Anc (upper t) x y → ⊥)
      dec x y q = elim (dec_anc (uppers before) x y q.inside) [ yes a ↦ inl a | no a ↦ inr a ]

  sizes : (x : ℕ) → x < d.count → size d x ≡ size_in (upper d) (depth d) d.count x
  unfolding size_in
  sizes x l = elim (which x l) [
    | inr o ↦
        (kept o).same_size ∙ r.two.size x o.inside
        ∙ sym (sum_tail (λ y. bit (is_ancestor (upper d) (depth d) x y)) t.count d.count k.more (λ y i j. ap bit (past o y i j))
        ∙ sum_eq (λ y. bit (is_ancestor (upper d) (depth d) x y)) (λ y. bit (is_ancestor (upper t) (depth t) x y)) t.count (below_same x o))
    | inl a ↦
        a.0.size_one ∙ sym (count_one (is_ancestor (upper d) (depth d) x) d.count x l (says_true (says_is_ancestor chains x x l) here)
        (λ y i n. says_false (says_is_ancestor chains x y i) (λ q. elim (which y i) [
          | inl b ↦ n (sym (chain_lone b.0 q))
          | inr o ↦ not_both a.1 (old_chain o (chain_from o q)).not
        ])))
  ]
    where
      past : Old x → (y : ℕ) → t.count ≤ y → y < d.count → is_ancestor (upper d) (depth d) x y ≡ false
      past o y i j = says_false (says_is_ancestor chains x y j) (λ q. elim (which y j) [
        | inl b ↦ let e = chain_lone b.0 q in omega (arith, o.inside)
        | inr u ↦ omega (arith, u.inside)
      ])

  -- Rules 3 to 6

  p_kept : {x : ℕ} → Old x → p d x ≡ p t x
  p_kept o = omega (arith, (kept o).same_start, ap fourth (kept o).same_set_size)

  end_kept : {x : ℕ} → Old x → end_of d x ≡ end_of t x
  end_kept o = omega (arith, (kept o).same_start, ap fourth (kept o).same_set_size)

  set_sizes : (x : ℕ) → x < d.count → SetSize d x
  set_sizes x l = elim (which x l) [
    | inr o ↦ let s = r.three x o.inside in record {
      positive = rw (kept o).same_set_size s.positive;
      most = rw ((kept o).same_set_size, (kept o).same_size) s.most;
      growth = rw ((kept o).same_set_size, (kept o).same_size) s.growth;
    }
    | inl a ↦ record {
      positive = omega (arith, a.0.set_size_one);
      most = omega (arith, a.0.set_size_one, a.0.size_one);
      growth = omega (arith, a.0.set_size_one, a.0.size_one);
    }
  ]

  module _ (x : ℕ) (o : Old x) (i : upper d x ≢ none) where
    upper_was : upper t x ≢ none
    upper_was y = i ((kept o).same_upper ∙ y)

    up : Kept t d (upper t x)
    up = kept (old_upper o upper_was)

    small_kept : 2 * size d x + set_size d (upper d x) ≤ 2 * size d (upper d x)
    small_kept = rw ((kept o).same_upper, (kept o).same_size, up.same_set_size, up.same_size) (r.four x o.inside upper_was)

    low_kept : p d (upper d x) ≤ start d x
    low_kept = rw (kept o).same_upper (omega (arith, p_kept (old_upper o upper_was), (kept o).same_start, (r.five.inside x o.inside).low upper_was))

    high_kept : end_of d x ≤ next_free d (upper d x)
    high_kept = rw (kept o).same_upper (omega (arith, end_kept o, up.same_next_free, (r.five.inside x o.inside).high upper_was))

  -- a row whose compressed parent is some row is kept
  has_upper : {x : ℕ} → x < d.count → upper d x ≢ none → Old x
  has_upper {x} l h = elim (which x l) [ inl a ↦ absurd (h a.0.upper_none) | inr o ↦ o ]

  sum_kept : (u : ℕ) → Old u → child_sum (upper d) (λ w. fourth (set_size d w)) d.count u ≡ child_sum (upper t) (λ w. fourth (set_size t w)) t.count u
  unfolding child_sum
  sum_kept u o =
      sum_tail (λ w. bit (eqb (upper d w) u) * fourth (set_size d w)) t.count d.count k.more (λ w i j. tail w i j)
      ∙ sum_eq (λ w. bit (eqb (upper d w) u) * fourth (set_size d w)) (λ w. bit (eqb (upper t w) u) * fourth (set_size t w)) t.count each
    where
      zero_bit : {w : ℕ} → Lone d w → bit (eqb (upper d w) u) ≡ 0
      zero_bit a = ap bit (says_false (says_eqb (upper d _) u) (λ e. some (still o.inside) e a.upper_none))

      tail : (w : ℕ) → t.count ≤ w → w < d.count → bit (eqb (upper d w) u) * fourth (set_size d w) ≡ 0
      tail w i j = elim (which w j) [
        | inl a ↦ rw (zero_bit a.0) (omega arith)
        | inr q ↦ absurd (omega (arith, q.inside))
      ]

      each : (w : ℕ) → w < t.count → bit (eqb (upper d w) u) * fourth (set_size d w) ≡ bit (eqb (upper t w) u) * fourth (set_size t w)
      each w l = elim (which w (still l)) [
        | inr q ↦ rw ((kept q).same_upper, (kept q).same_set_size) refl
        | inl a ↦ rw (
          zero_bit a.0,
          says_false (says_eqb (upper t w) u) (λ e.
              let n : upper t w ≢ none = some (still o.inside) e in
              not_both a.1 (anc_old l (rw (← e) at o) (stored_anc before l (there n here))).not),
        ) (omega arith)
      ]

  pub parted_numbered : Numbered d
  parted_numbered = record {
    one = record {
      count = k.most;
      inside = shape.inside;
      depth = λ x l. record { first = shape.root x l; below = shape.step x l };
      children = links;
    };
    two = record {
      path = λ x l h. elim (which x l) [
        | inl a ↦ absurd (h a.0.path_none)
        | inr o ↦
            let n : path t x ≢ none = λ z. h ((kept o).same_path ∙ z) in
            rw (kept o).same_path (child_to o (r.two.path x o.inside n))
      ];
      upper = λ x l. record { root = compressed.root x l; first = compressed.first x l };
      size = sizes;
    };
    three = set_sizes;
    four = λ x l h. small_kept x (has_upper l h) h;
    five = record {
      apart = λ v l w j n h e.
          let a = has_upper l h in
          let b = has_upper {x = w} j (λ z. h (e ∙ z)) in
          rw ((kept a).same_start, (kept b).same_start, (kept a).same_set_size, (kept b).same_set_size)
          (r.five.apart v a.inside w b.inside n (λ z. h ((kept a).same_upper ∙ z)) (sym (kept a).same_upper ∙ e ∙ (kept b).same_upper));
      inside = λ x l. record { low = λ h. low_kept x (has_upper l h) h; high = λ h. high_kept x (has_upper l h) h };
      room = λ x l. elim (which x l) [
        | inr o ↦ rw ((kept o).same_next_free, (kept o).same_start, (kept o).same_set_size) (r.five.room x o.inside)
        | inl a ↦ rw (a.0.next_free_one, a.0.start_zero, a.0.set_size_one) one_room
      ];
      dense = λ x l. elim (which x l) [
        | inr o ↦ rw (sum_kept x o) (omega (arith, (kept o).same_next_free, p_kept o, r.five.dense x o.inside))
        | inl a ↦ rw (a.0.next_free_one, a.0.start_zero, a.0.set_size_one) (one_dense _)
      ];
      first = λ x l e. elim (which x l) [
        | inr o ↦ (kept o).same_start ∙ r.five.first x o.inside (sym (kept o).same_parent ∙ e)
        | inl a ↦ a.0.start_zero
      ];
    };
    six = λ x l i b. elim (which x l) [
      | inr o ↦ rw ((kept o).same_entry i b) (entry_copy (λ a q. (kept (old_chain o q)).same_upper) (λ a q. (kept (old_chain o q)).same_set_size) (r.six x o.inside i b))
      | inl a ↦ rw (a.0.filled i b) (entry_root d chains i x l a.0.upper_none)
    ];
  }

  -- lone rows do not lag
  pub parted_lag : lag d ≤ lag t
  unfolding lag
  parted_lag = omega (
    arith,
    sum_tail (λ x. size d x - set_size d x) t.count d.count k.more (λ x i j. elim (which x j) [
      | inl a ↦ omega (arith, a.0.size_one, a.0.set_size_one)
      | inr o ↦ absurd (omega (arith, o.inside))
    ]),
    sum_le (λ x. size d x - set_size d x) (λ x. size t x - set_size t x) t.count (λ x l. elim (which x (still l)) [
      | inl a ↦ omega (arith, a.0.size_one, a.0.set_size_one)
      | inr o ↦ omega (arith, (kept o).same_size, (kept o).same_set_size)
    ]),
  )
