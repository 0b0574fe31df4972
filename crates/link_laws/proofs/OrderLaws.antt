-- The rows of a linked tree listed by their depth below its root, and by number, stand in their order; in that order each stands once, and after its target.
use Rattle.std.specs.Prelude.{◌≡◌, refl, true, ◌⊎◌, ◌≢◌, List, [], ◌∷◌, ℕ, ◌-◌, ◌≤◌, ◌<◌, length}
use Rattle.std.proofs.Common.{ap, sym, subst, ◌∙◌, inl, inr, arith}
use Rattle.std.proofs.Math.Decide.{ℕ_discrete}
use Rattle.laws.specs.Sum.{sum_eq}
use Rattle.laws.specs.Test.{bit, says_true, says_false, says_eqb, says_get, says_eq}
use Rattle.tree_laws.specs.Ancestor.{none, Anc}
use Rattle.tree_laws.specs.AncestorLaws.{cases}
use Rattle.tree_laws.specs.ChildLinks.{Member}
use Rattle.tree_laws.specs.Chains.{Once, is_in, says_in, once_count}
use Rattle.tree_laws.specs.Depth.{Depth, Steps, arrived, step}
use Rattle.tree_laws.specs.DepthLaws.{steps_depth, anc_steps}
use Rattle.tree_laws.specs.PlainDepthLaws.{plain_depth_lem}
use Rattle.tree_laws.specs.Reroot.{root as top}
use Rattle.tree_laws.specs.RerootLaws.{plain_is, plain_root_over}
use Rattle.tree_laws.specs.SizeDepth.{depth_below_lem}
use Rattle.layer.specs.Layer.{depth}
use Rattle.layer.specs.StoredTree.{first}
use Rattle.layer.specs.Numbered.{Numbered}
use Rattle.table.specs.Capacity.{node_limit}
use Rattle.table.specs.Table.{Table}
use Rattle.table.specs.PlainTree.{root, plain}
use Rattle.table.specs.Rules.{Rules}
use Rattle.table.proofs.Rules.{numbered}
use Rattle.layer_laws.specs.Numbered.{InTree}
use Rattle.layer_laws.proofs.Numbered.{shape, stored_tree, in_tree, first_is, stored_kindred}
use Rattle.table_laws.specs.Lines.{root_in_lem}
use Rattle.table_laws.specs.LevelLaws.{tree_parent, tree_depth, plain_tree, parent_in}
use Rattle.link_laws.proofs.JoiningsLaws.{Before}
use Rattle.link_laws.specs.Levels.{levels_from}
use Rattle.link_laws.proofs.Levels.{Of, levels_of, of_levels, levels_rise}
use Rattle.link_laws.specs.Link.{target, Linkable}
use Rattle.link_laws.specs.Order.{is_of_tree, tree_rows, Precedes, Rises, Order}

-- how deep row w lies below x in the plain tree of x
abbrev pub depth_under : Table → ℕ → ℕ → ℕ
depth_under t x = tree_depth t (first t.layer x)

-- the rows of the tree of x, depth by depth
abbrev pub link_order : Table → ℕ → List ℕ
link_order t x = levels_from (is_of_tree t.layer x) (depth_under t x) t.layer.count 0 t.layer.count

module _ {capacity : ℕ} {t : Table} {x v door : ℕ} (r : Rules capacity t) (small : capacity ≤ node_limit) (h : Linkable t x v door) where
  num : Numbered t.layer
  num = numbered r small

  pub in_x : {w : ℕ} → w < t.layer.count → first t.layer w ≡ first t.layer x → InTree t.layer (first t.layer x) w
  in_x {w} l e = rw e at (in_tree num w l)

  root_use : t.root (first t.layer x) < t.layer.count
  root_use = (root_in_lem r small (in_tree num x h.in_use)).in_use

  pub deep : Depth (tree_parent t (first t.layer x)) (depth_under t x) t.layer.count
  deep = plain_depth_lem (shape num) root_use

  over : {w : ℕ} → InTree t.layer (first t.layer x) w → Anc (tree_parent t (first t.layer x)) x w
  over {w} i = subst (λ (a : ℕ). Anc (tree_parent t (first t.layer x)) a w) h.is_root
      (plain_root_over (stored_tree num) root_use i.in_use (stored_kindred num i (root_in_lem r small i)))

  -- a linked row other than x has a plain parent, one level above
  pub some : {w : ℕ} → w < t.layer.count → first t.layer w ≡ first t.layer x → w ≢ x → tree_parent t (first t.layer x) w ≢ none
  some {w} l e n z = elim (cases (over (in_x l e))) [ inl y ↦ n (sym y) | inr s ↦ s.0 z ]

  -- Depths below x count steps in the plain tree

  steps_plain : {a k w : ℕ} → InTree t.layer (first t.layer x) w → Steps (tree_parent t (first t.layer x)) a k w → Steps (plain t) a k w
  steps_plain i arrived = arrived
  steps_plain {a} {w = w} i (step {k = k} d s) =
      let e : plain t w ≡ tree_parent t (first t.layer x) w = plain_tree r small i in
      let rest : Steps (plain t) a k (tree_parent t (first t.layer x) w) = steps_plain (parent_in r small i d) s in
      step {k = k} (λ z. d (sym e ∙ z)) (rw (← e) at rest)

  plain_steps : {a k y : ℕ} (w : ℕ) → y ≡ w → InTree t.layer (first t.layer x) w → Steps (plain t) a k y → Steps (tree_parent t (first t.layer x)) a k w
  plain_steps w e i arrived = rw (← e) arrived
  plain_steps w e i (step {k = k} d s) =
      let f : plain t w ≡ tree_parent t (first t.layer x) w = plain_tree r small i in
      let d' : tree_parent t (first t.layer x) w ≢ none = λ z. d (ap (plain t) e ∙ f ∙ z) in
      step {k = k} d' (plain_steps (tree_parent t (first t.layer x) w) (ap (plain t) e ∙ f) (parent_in r small i d') s)

  root_top : depth_under t x x ≡ 0
  root_top = deep.root x h.in_use (plain_is (stored_tree num) root_use h.in_use (rw h.is_root top))

  depth_steps : {w : ℕ} → InTree t.layer (first t.layer x) w → Steps (plain t) x (depth_under t x w) w
  depth_steps {w} i =
      let e : depth_under t x w - depth_under t x x ≡ depth_under t x w = omega (arith, root_top) in
      steps_plain i (rw e at (anc_steps deep i.in_use (over i)))

  pub steps_depth_under : {k w : ℕ} → InTree t.layer (first t.layer x) w → Steps (plain t) x k w → k ≡ depth_under t x w
  steps_depth_under i s = omega (arith, steps_depth deep i.in_use (plain_steps _ refl i s), root_top)

  -- The list is in order

  pub moved_get : (w : ℕ) → is_of_tree t.layer x w ≡ true → first t.layer w ≡ first t.layer x
  moved_get w e = says_get (says_eqb (first t.layer w) (first t.layer x)) e

  pub link_ordered : Order t x (link_order t x)
  link_ordered = record {
    inside = λ w i. (levels_of (is_of_tree t.layer x) (depth_under t x) t.layer.count 0 t.layer.count w i).inside;
    moved = λ w i. moved_get w (levels_of (is_of_tree t.layer x) (depth_under t x) t.layer.count 0 t.layer.count w i).picked;
    all = λ w l e. of_levels (is_of_tree t.layer x) (depth_under t x) t.layer.count 0 t.layer.count w record {
      inside = l;
      picked = says_true (says_eqb (first t.layer w) (first t.layer x)) e;
      low = omega arith;
      high = omega (arith, depth_below_lem deep w l);
    };
    rises = levels_rise (is_of_tree t.layer x) (depth_under t x) t.layer.count precede 0 t.layer.count;
  }
    where
      precede : (w y d e : ℕ) → Of (is_of_tree t.layer x) (depth_under t x) t.layer.count d 1 w → Of (is_of_tree t.layer x) (depth_under t x) t.layer.count e 1 y
          → (d < e) ⊎ ((d ≡ e) × (w < y)) → Precedes t x w y
      precede w y d e a b s = record {
        depth = depth_under t x w;
        under = depth_steps (in_x a.inside (moved_get w a.picked));
        depth_after = depth_under t x y;
        under_after = depth_steps (in_x b.inside (moved_get y b.picked));
        sooner = elim s [
          | inl l ↦ inl (omega (arith, a.low, a.high, b.low, b.high))
          | inr l ↦ inr (omega (arith, a.low, a.high, b.low, b.high, l.0), l.1)
        ];
      }

  -- Laws of every such order

  -- what comes before lies no deeper, and of two rows of one depth has the smaller number
  precedes_depth : {w y : ℕ} → InTree t.layer (first t.layer x) w → InTree t.layer (first t.layer x) y → Precedes t x w y
      → (depth_under t x w < depth_under t x y) ⊎ ((depth_under t x w ≡ depth_under t x y) × (w < y))
  precedes_depth i j p =
      let a = steps_depth_under i p.under in
      let b = steps_depth_under j p.under_after in
      elim p.sooner [ inl l ↦ inl (omega arith) | inr l ↦ inr (omega (arith, l.0), l.1) ]

  never_both : {w y : ℕ} → InTree t.layer (first t.layer x) w → InTree t.layer (first t.layer x) y → Precedes t x w y → Precedes t x y w → ⊥
  never_both i j p q = elim (precedes_depth i j p) [
    | inl l ↦ elim (precedes_depth j i q) [ inl k ↦ omega arith | inr k ↦ omega (arith, k.0) ]
    | inr l ↦ elim (precedes_depth j i q) [ inl k ↦ omega (arith, l.0) | inr k ↦ omega (arith, l.1, k.1) ]
  ]

  never_self : {w y : ℕ} → InTree t.layer (first t.layer x) w → y ≡ w → Precedes t x y w → ⊥
  never_self i e p = let q = rw e at p in never_both i i q q

  -- each row once
  once_from : (ys : List ℕ) → ((w : ℕ) → Member ys w → InTree t.layer (first t.layer x) w) → Rises (Precedes t x) ys → Once ys
  once_from [] i p = tt
  once_from (y ∷ ys) i p =
      (λ m. never_self (i y (inl refl)) refl (p.0 y m), once_from ys (λ w m. i w (inr m)) p.1)

  -- lists of the same rows are the same
  same_from : (zs ys : List ℕ) → ((w : ℕ) → Member zs w → InTree t.layer (first t.layer x) w) → Rises (Precedes t x) zs → Rises (Precedes t x) ys
      → ((w : ℕ) → Member zs w → Member ys w) → ((w : ℕ) → Member ys w → Member zs w) → zs ≡ ys
  same_from [] [] i p q f g = refl
  same_from [] (y ∷ ys) i p q f g = absurd (g y (inl refl))
  same_from (z ∷ zs) [] i p q f g = absurd (f z (inl refl))
  same_from (z ∷ zs) (y ∷ ys) i p q f g =
      let j = i y (g y (inl refl)) in
      let e : z ≡ y = elim (f z (inl refl)) [
        | inl e ↦ e
        | inr m ↦ elim (g y (inl refl)) [ inl e ↦ sym e | inr k ↦ absurd (never_both j (i z (inl refl)) (q.0 z m) (p.0 y k)) ]
      ] in
      let rest : zs ≡ ys = same_from zs ys (λ w m. i w (inr m)) p.1 q.1
      (λ w m. elim (f w (inr m)) [ inl o ↦ absurd (never_self (i w (inr m)) (e ∙ sym o) (p.0 w m)) | inr k ↦ k ])
      (λ w m. elim (g w (inr m)) [ inl o ↦ absurd (never_self (i w (g w (inr m))) (sym e ∙ sym o) (q.0 w m)) | inr k ↦ k ]) in
      rw (e, rest) refl

  module _ {zs : List ℕ} (o : Order t x zs) where
    own : (w : ℕ) → Member zs w → InTree t.layer (first t.layer x) w
    own w m = in_x (o.inside w m) (o.moved w m)

    pub order_once : Once zs
    order_once = once_from zs own o.rises

    -- a target stands in another tree or one step nearer to x
    nearer : (w : ℕ) → InTree t.layer (first t.layer x) w → InTree t.layer (first t.layer x) (target t x v w) → depth_under t x (target t x v w) < depth_under t x w
    nearer w i j = elim (ℕ_discrete w x) [
      | yes z ↦ absurd (h.other (first_is num (rw (says_true (says_eqb w x) z) at j)))
      | no n ↦
          let e : target t x v w ≡ tree_parent t (first t.layer x) w = rw (says_false (says_eqb w x) n) (plain_tree r small i) in
          rw e (omega (arith, deep.step w i.in_use (some i.in_use (first_is num i) n)))
    ]

    before_from : (ys : List ℕ) → ((w : ℕ) → Member ys w → InTree t.layer (first t.layer x) w) → Rises (Precedes t x) ys → Before (target t x v) ys
    before_from [] i p = tt
    before_from (y ∷ ys) i p = (
      λ m. elim m [
        | inl e ↦ omega (arith, nearer y (i y (inl refl)) (rw e (i y (inl refl))), ap (depth_under t x) e)
        | inr k ↦
            let j = i (target t x v y) (inr k) in
            let n = nearer y (i y (inl refl)) j in
            elim (precedes_depth (i y (inl refl)) j (p.0 (target t x v y) k)) [ inl l ↦ omega arith | inr l ↦ omega (arith, l.0) ]
      ],
      before_from ys (λ w m. i w (inr m)) p.1,
    )

    -- there is no other such list
    pub order_one : zs ≡ link_order t x
    order_one =
        let u = link_ordered in
        same_from zs (link_order t x) own o.rises u.rises (λ w m. u.all w (o.inside w m) (o.moved w m)) (λ w m. o.all w (u.inside w m) (u.moved w m))

    -- targets first
    pub order_before : Before (target t x v) zs
    order_before = before_from zs own o.rises

    -- as many as the tree has rows
    pub order_length : length zs ≡ tree_rows t.layer x
    order_length = sym (once_count zs t.layer.count order_once o.inside) ∙ sum_eq (λ w. bit (is_in zs w)) (λ w. bit (is_of_tree t.layer x w)) t.layer.count
        (λ w l. ap bit (says_eq (o.moved w) (o.all w l) (says_in zs w) (says_eqb (first t.layer w) (first t.layer x))))
