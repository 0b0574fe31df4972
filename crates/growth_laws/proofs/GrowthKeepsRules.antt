-- Growth and first nodes keep the rules of inspection, and their plain trees are one step of the plain list on.
use Rattle.std.specs.Prelude.{◌≡◌, refl, Bool, true, ◌⊎◌, ◌≢◌, ℕ, ◌≤◌, ◌<◌, eqb}
use Rattle.std.proofs.Math.Path.{ap}
use Rattle.std.proofs.Common.{sym, ◌∙◌, inl, inr, arith}
use Rattle.std.proofs.Math.Decide.{ℕ_discrete}
use Rattle.laws.specs.Test.{pick, says_true, says_false, says_eqb}
use Rattle.tree_laws.specs.Ancestor.{none, Anc, here, there, Forest}
use Rattle.tree_laws.specs.AncestorLaws.{cases, anc_in}
use Rattle.tree_laws.specs.Reroot.{PlainParent, root as top, turned, kept, plain_parent}
use Rattle.tree_laws.specs.RerootLaws.{plain_is, plain_parent_lem}
use Rattle.tree_laws.specs.Top.{First, top_first, top_is}
use Rattle.tree_laws.specs.Older.{Older, anc_to, anc_from, first_to, first_from, top_same, plain_same_lem}
use Rattle.layer.specs.Layer.{parent, depth}
use Rattle.layer.specs.StoredTree.{first}
use Rattle.layer.specs.Numbered.{Numbered}
use Rattle.table.specs.Capacity.{node_limit}
use Rattle.table.specs.Table.{Table}
use Rattle.table.specs.PlainTree.{root as root_in, plain}
use Rattle.table.specs.Line.{Rooted, OnLine, Level}
use Rattle.table.specs.Rules.{label_limit, face_limit, Bounded, Rules}
use Rattle.table.proofs.Rules.{numbered, rules_of}
use Rattle.join_laws.proofs.ExtendedLaws.{old_or_new, extended_numbered, extended_parent, extended_lone, extended_older}
use Rattle.join_laws.proofs.Trees.{own_trees, stored, trees_within}
use Rattle.growth_laws.specs.Growth.{Growth, leaf, root, Opens, Named, named_leaf, named_root, column_after}
use Rattle.growth_laws.proofs.ColumnLaws.{after_other, after_most, opens_most}
use Rattle.growth_laws.specs.Grown.{Grown, Started}
use Rattle.growth_laws.proofs.GrownLaws.{growth_numbered, growth_count, parent_old_lem, parent_new_lem, growth_older, new_some}
use Rattle.growth_laws.specs.PlainStep.{PlainStep, PlainStart}
use Rattle.growth_laws.specs.Below.{Grows, grows_recorded, plain_old, plain_joined}

-- A leaf

module _ {capacity : ℕ} {t d : Table} {v f s h : ℕ} (r : Rules capacity t) (small : capacity ≤ node_limit) (room : t.layer.count < capacity)
    (l : v < t.layer.count) (i : 1 ≤ f) (j : f ≤ label_limit) (m : s ≤ face_limit) (k : Grown t d (leaf v f s) h) where
  num : Numbered t.layer
  num = numbered r small

  leaf_root : (x : ℕ) → x < t.layer.count → d.root x ≡ t.root x
  leaf_root x b = k.roots x b ∙ (rw (says_false (says_eqb x none) (λ z. omega (arith, r.one.trees.count))) refl)

  leaf_grows : Grows t d (λ x. x < t.layer.count)
  leaf_grows = record {
    more = omega (arith, growth_count num k);
    older = growth_older num k;
    either = λ x b. elim (old_or_new (growth_count num k) x b) [
      | inl o ↦ inl o
      | inr e ↦ inr (
        λ o. omega arith,
        rw e record {
          some = new_some num k;
          below = rw (parent_new_lem num k, k.levels v l) k.level_new;
          labelled = rw k.label_new j;
          faced = rw k.face_new m;
        },
      )
    ];
    same_level = k.levels;
    same_label = k.labels;
    same_face = k.faces;
    same_root = λ x b _. leaf_root x b;
    root_kept = λ x b e. (r.one.lines.root x b e).in_use;
  }

  leaf_rules : Rules capacity d
  leaf_rules = rules_of (grows_recorded r small (growth_numbered num k) leaf_grows (omega (arith, growth_count num k))) (growth_numbered num k)

  leaf_plain : PlainStep t d (leaf v f s)
  leaf_plain = record {
    count = growth_count num k;
    parent_old = plain_old r small (growth_numbered num k) leaf_grows;
    parent_new = plain_joined r small (growth_numbered num k) leaf_grows t.layer.count (omega (arith, growth_count num k)) (λ o. omega arith) ∙ parent_new_lem num k;
    label_old = k.labels;
    label_new = k.label_new;
    face_old = k.faces;
    face_new = k.face_new;
  }

-- A new root

module _ {capacity : ℕ} {t d : Table} {q opening h : ℕ} {named : Bool} (r : Rules capacity t) (small : capacity ≤ node_limit) (room : t.layer.count < capacity)
    (l : q < t.layer.count) (own : root_in t q ≡ q) (through : Opens named opening) (k : Grown t d (root q named opening) h) where
  numq : Numbered t.layer
  numq = numbered r small

  was : Forest (parent t.layer) (depth t.layer) t.layer.count
  was = stored (own_trees numq)

  now : Forest (parent d.layer) (depth d.layer) d.layer.count
  now = stored (own_trees (growth_numbered numq k))

  more : t.layer.count ≤ d.layer.count
  more = omega (arith, growth_count numq k)

  old : Older (parent t.layer) (parent d.layer) t.layer.count (λ x. x < t.layer.count)
  old = growth_older numq k

  new_in : t.layer.count < d.layer.count
  new_in = omega (arith, growth_count numq k)

  -- the tree that grows, its first row and its old root q
  f : ℕ
  f = first t.layer q

  f_first : First (parent t.layer) f q
  unfolding f
  f_first = top_first was q l

  f_in : f < t.layer.count
  f_in = anc_in was l f_first.over

  f_root : t.root f ≡ q
  unfolding f
  f_root = own

  root_here : d.root f ≡ t.layer.count
  unfolding f
  root_here = k.roots (first t.layer q) f_in ∙ (rw (says_true (says_eqb (first t.layer q) (first t.layer q)) refl) refl)

  root_other : (x : ℕ) → x < t.layer.count → x ≢ f → d.root x ≡ t.root x
  unfolding f
  root_other x b n = k.roots x b ∙ (rw (says_false (says_eqb x (first t.layer q)) n) refl)

  -- ancestors of the new row
  over_new : {a : ℕ} → Anc (parent t.layer) a q → Anc (parent d.layer) a t.layer.count
  over_new {a} p = there {a = a} (new_some numq k) (rw (parent_new_lem numq k) (anc_to was now more old l p))

  new_over : {a : ℕ} → Anc (parent d.layer) a t.layer.count → (a ≡ t.layer.count) ⊎ Anc (parent t.layer) a q
  new_over p = elim (cases p) [ inl e ↦ inl e | inr s ↦ inr (anc_from was now more old l (rw (parent_new_lem numq k) at s.1)) ]

  first_new_lem : First (parent d.layer) f t.layer.count
  first_new_lem = record { over = over_new f_first.over; top = parent_old_lem numq k f f_in ∙ f_first.top }

  first_old : {x : ℕ} → x < d.layer.count → parent d.layer x ≡ none → x < t.layer.count
  first_old {x} b e = elim (old_or_new (growth_count numq k) x b) [ inl o ↦ o | inr z ↦ absurd (new_some numq k (rw z at e)) ]

  rooted : (x : ℕ) → x < d.layer.count → parent d.layer x ≡ none → Rooted d x
  rooted x b e =
      let o = first_old b e in
      elim (ℕ_discrete x f) [
        | yes z ↦ rw z record { in_use = rw root_here new_in; over = rw root_here first_new_lem.over }
        | no n ↦
            let s = r.one.lines.root x o (sym (parent_old_lem numq k x o) ∙ e) in
            record { in_use = rw (root_other x o n) (omega (arith, s.in_use, more)); over = rw (root_other x o n) (anc_to was now more old s.in_use s.over) }
      ]

  line_to : {x : ℕ} → x < t.layer.count → OnLine t x → OnLine d x
  line_to {x} b o =
      let i = first_to was now more old b o.is in
      let c : o.first < t.layer.count = anc_in was b o.is.over in
      elim (ℕ_discrete o.first f) [
        | yes z ↦ record { first = f; is = rw z at i; over = rw root_here (over_new (rw (ap t.root z ∙ f_root) at o.over)) }
        | no n ↦ record { first = o.first; is = i; over = rw (root_other o.first c n) (anc_to was now more old (r.one.lines.root o.first c o.is.top).in_use o.over) }
      ]

  line_from : {x : ℕ} → x < t.layer.count → OnLine d x → OnLine t x
  line_from {x} b o =
      let i = first_from was now more old b o.is in
      let c : o.first < t.layer.count = anc_in was b i.over in
      elim (ℕ_discrete o.first f) [
        | yes z ↦ elim (new_over (rw (ap d.root z ∙ root_here) at o.over)) [
          | inl e ↦ absurd (omega arith)
          | inr p ↦ record { first = f; is = rw z at i; over = rw f_root p }
        ]
        | no n ↦ record { first = o.first; is = i; over = anc_from was now more old (r.one.lines.root o.first c i.top).in_use (rw (root_other o.first c n) at o.over) }
      ]

  line_new : OnLine d t.layer.count
  line_new = record { first = f; is = first_new_lem; over = rw root_here here }

  levels : (x : ℕ) → x < d.layer.count → Level d x
  levels x b = elim (old_or_new (growth_count numq k) x b) [
    | inl o ↦
        let y = r.one.lines.level x o in
        let up : parent d.layer x ≡ parent t.layer x = parent_old_lem numq k x o in
        record {
          first = λ e. k.levels x o ∙ y.first (sym up ∙ e);
          on_line = λ g p. let i : parent t.layer x ≢ none = λ z. g (up ∙ z) in
              rw (k.levels x o, up, k.levels (parent t.layer x) (was.inside x o i)) (y.on_line i (line_from o p));
          off_line = λ g p. let i : parent t.layer x ≢ none = λ z. g (up ∙ z) in
              rw (k.levels x o, up, k.levels (parent t.layer x) (was.inside x o i)) (y.off_line i (λ s. p (line_to o s)));
        }
    | inr e ↦ rw e record {
      first = λ z. absurd (new_some numq k z);
      on_line = λ _ _. rw (parent_new_lem numq k, k.levels q l) k.level_new;
      off_line = λ _ p. absurd (p line_new);
    }
  ]

  -- the root of another tree is another row
  other_root : {x : ℕ} → x < t.layer.count → parent t.layer x ≡ none → x ≢ f → t.root x ≢ q
  unfolding f
  other_root {x} o e n z =
      let s = r.one.lines.root x o e in
      n (sym (top_is was s.in_use (record { over = s.over; top = e })) ∙ ap (first t.layer) z)

  -- a column of labels or faces: that of the old root changes where it is opened, and the new root has 0
  bounded : {was' now' : ℕ → ℕ} {limit : ℕ} (o : ℕ) → Bounded t was' limit → (named ≡ true → o ≤ limit)
      → ((x : ℕ) → x < t.layer.count → now' x ≡ column_after (root q named opening) was' o x) → now' t.layer.count ≡ 0 → Bounded d now' limit
  bounded {was'} {now'} o b m same new = record {
    most = λ x i. elim (old_or_new (growth_count numq k) x i) [
      | inl p ↦ rw (same x p) (after_most was' o q named opening m (b.most x p))
      | inr e ↦ rw (e, new) (omega arith)
    ];
    root = λ x i e. let p = first_old i e in elim (ℕ_discrete x f) [
      | yes z ↦ ap (λ (y : ℕ). now' (d.root y)) z ∙ ap now' root_here ∙ new
      | no n ↦
          let w = sym (parent_old_lem numq k x p) ∙ e in
          ap now' (root_other x p n) ∙ same (t.root x) (r.one.lines.root x p w).in_use ∙ after_other was' o q named opening (other_root p w n) ∙ b.root x p w
    ];
  }

  root_rules : Rules capacity d
  root_rules = rules_of record {
    trees = trees_within (growth_numbered numq k) (omega (arith, growth_count numq k));
    lines = record { root = rooted; level = levels };
    labels = bounded opening r.one.labels (opens_most through) k.labels k.label_new;
    faces = bounded 0 r.one.faces (λ _. omega arith) k.faces k.face_new;
  } (growth_numbered numq k)

  -- plain parents: in the tree that grows by the new root, in the others by theirs
  turn : {x y : ℕ} → x < t.layer.count → x ≢ q → PlainParent (parent t.layer) q x y → PlainParent (parent d.layer) t.layer.count x y
  turn b n top = absurd (n refl)
  turn {x} {y} b n (turned g i p) =
      let o : parent d.layer y ≡ parent t.layer y = parent_old_lem numq k y (anc_in was l p) in
      turned (λ z. g (sym o ∙ z)) (o ∙ i) (over_new p)
  turn {x} b n (kept g) =
      let o : ¬ Anc (parent d.layer) x t.layer.count = λ p. elim (new_over p) [ inl z ↦ omega arith | inr s ↦ g s ] in
      rw (← parent_old_lem numq k x b) (kept o)

  plain_here : (x : ℕ) → x < t.layer.count → first t.layer x ≡ f → plain d x ≡ pick (eqb x q) t.layer.count (plain t x)
  plain_here x b e =
      let z : root_in d x ≡ t.layer.count = ap d.root (top_same was now more old b ∙ e) ∙ root_here in
      ap (λ (y : ℕ). plain_parent (parent d.layer) (depth d.layer) y x) z ∙ elim (ℕ_discrete x q) [
        | yes y ↦ rw (y, says_true (says_eqb q q) refl) (plain_is now new_in (omega (arith, l, more)) (turned (new_some numq k) (parent_new_lem numq k) here))
        | no n ↦ rw (says_false (says_eqb x q) n) (plain_is now new_in (omega (arith, more)) (turn b n (plain_parent_lem was l x b)) ∙ sym (ap (λ (y : ℕ). plain_parent (parent t.layer) (depth t.layer) y x) (ap t.root e ∙ f_root)))
      ]

  plain_there : (x : ℕ) → x < t.layer.count → first t.layer x ≢ f → plain d x ≡ pick (eqb x q) t.layer.count (plain t x)
  unfolding f
  plain_there x b n =
      let i = top_first was x b in
      let c : first t.layer x < t.layer.count = anc_in was b i.over in
      let z : root_in d x ≡ root_in t x = ap d.root (top_same was now more old b) ∙ root_other (first t.layer x) c n in
      ap (λ (y : ℕ). plain_parent (parent d.layer) (depth d.layer) y x) z ∙ plain_same_lem was now more old (r.one.lines.root (first t.layer x) c i.top).in_use b
      ∙ (rw (says_false (says_eqb x q) (λ e. n (ap (first t.layer) e))) refl)

  plain_new : plain d t.layer.count ≡ none
  plain_new =
      let z : root_in d t.layer.count ≡ t.layer.count = ap d.root (top_is now new_in first_new_lem) ∙ root_here in
      ap (λ (y : ℕ). plain_parent (parent d.layer) (depth d.layer) y t.layer.count) z ∙ plain_is now new_in new_in top

  root_plain : PlainStep t d (root q named opening)
  root_plain = record {
    count = growth_count numq k;
    parent_old = λ x b. elim (ℕ_discrete (first t.layer x) f) [ yes e ↦ plain_here x b e | no n ↦ plain_there x b n ];
    parent_new = plain_new;
    label_old = k.labels;
    label_new = k.label_new;
    face_old = k.faces;
    face_new = k.face_new;
  }

-- A first node

module _ {capacity : ℕ} {t d : Table} (r : Rules capacity t) (small : capacity ≤ node_limit) (room : t.layer.count < capacity) (k : Started t d) where
  nums : Numbered t.layer
  nums = numbered r small

  before : Forest (parent t.layer) (depth t.layer) t.layer.count
  before = stored (own_trees nums)

  numd : Numbered d.layer
  numd = extended_numbered nums k.extended

  after : Forest (parent d.layer) (depth d.layer) d.layer.count
  after = stored (own_trees numd)

  grew : t.layer.count ≤ d.layer.count
  grew = omega (arith, k.extended.count)

  kin : Older (parent t.layer) (parent d.layer) t.layer.count (λ x. x < t.layer.count)
  kin = extended_older nums k.extended

  fresh_in : t.layer.count < d.layer.count
  fresh_in = omega (arith, k.extended.count)

  fresh_first : First (parent d.layer) t.layer.count t.layer.count
  fresh_first = record { over = here; top = (extended_lone nums k.extended).parent_none }

  was_first : {x : ℕ} → x < t.layer.count → parent d.layer x ≡ none → parent t.layer x ≡ none
  was_first {x} b e = sym (extended_parent nums k.extended x b) ∙ e

  started_to : {x : ℕ} → x < t.layer.count → OnLine t x → OnLine d x
  started_to {x} b o =
      let c : o.first < t.layer.count = anc_in before b o.is.over in
      record {
        first = o.first;
        is = first_to before after grew kin b o.is;
        over = rw (k.roots o.first c) (anc_to before after grew kin (r.one.lines.root o.first c o.is.top).in_use o.over);
      }

  started_from : {x : ℕ} → x < t.layer.count → OnLine d x → OnLine t x
  started_from {x} b o =
      let i = first_from before after grew kin b o.is in
      let c : o.first < t.layer.count = anc_in before b i.over in
      record { first = o.first; is = i; over = anc_from before after grew kin (r.one.lines.root o.first c i.top).in_use (rw (k.roots o.first c) at o.over) }

  started_levels : (x : ℕ) → x < d.layer.count → Level d x
  started_levels x b = elim (old_or_new k.extended.count x b) [
    | inl o ↦
        let y = r.one.lines.level x o in
        let up : parent d.layer x ≡ parent t.layer x = extended_parent nums k.extended x o in
        let same : (z : ℕ) → z < t.layer.count → d.level z ≡ t.level z = λ z c. (k.marks z c).same_level in
        record {
          first = λ e. same x o ∙ y.first (sym up ∙ e);
          on_line = λ g p. let i : parent t.layer x ≢ none = λ z. g (up ∙ z) in rw (same x o, up, same (parent t.layer x) (before.inside x o i)) (y.on_line i (started_from o p));
          off_line = λ g p. let i : parent t.layer x ≢ none = λ z. g (up ∙ z) in
              rw (same x o, up, same (parent t.layer x) (before.inside x o i)) (y.off_line i (λ s. p (started_to o s)));
        }
    | inr e ↦ rw e record {
      first = λ _. k.level_new;
      on_line = λ g. absurd (g fresh_first.top);
      off_line = λ g. absurd (g fresh_first.top);
    }
  ]

  started_bounded : {was' now' : ℕ → ℕ} {limit : ℕ} → Bounded t was' limit → ((x : ℕ) → x < t.layer.count → now' x ≡ was' x) → now' t.layer.count ≡ 0
      → Bounded d now' limit
  started_bounded {was'} {now'} b same new = record {
    most = λ x i. elim (old_or_new k.extended.count x i) [
      | inl o ↦ rw (same x o) (b.most x o)
      | inr z ↦ rw (z, new) (omega arith)
    ];
    root = λ x i e. elim (old_or_new k.extended.count x i) [
      | inl o ↦ let w = was_first o e in ap now' (k.roots x o) ∙ same (t.root x) (r.one.lines.root x o w).in_use ∙ b.root x o w
      | inr z ↦ ap (λ (y : ℕ). now' (d.root y)) z ∙ ap now' k.root_new ∙ new
    ];
  }

  pub start_keeps_rules : Rules capacity d
  start_keeps_rules = rules_of record {
    trees = trees_within numd (omega (arith, k.extended.count));
    lines = record {
      root = λ x b e. elim (old_or_new k.extended.count x b) [
        | inl o ↦
            let s = r.one.lines.root x o (was_first o e) in
            record { in_use = rw (k.roots x o) (omega (arith, s.in_use, grew)); over = rw (k.roots x o) (anc_to before after grew kin s.in_use s.over) }
        | inr z ↦ rw z record { in_use = rw k.root_new fresh_in; over = rw k.root_new here }
      ];
      level = started_levels;
    };
    labels = started_bounded r.one.labels (λ x o. (k.marks x o).same_label) k.label_new;
    faces = started_bounded r.one.faces (λ x o. (k.marks x o).same_face) k.face_new;
  } numd

  pub start_plain : PlainStart t d
  start_plain = record {
    count = k.extended.count;
    parent_old = λ x b.
        let i = top_first before x b in
        let c : first t.layer x < t.layer.count = anc_in before b i.over in
        ap (λ (y : ℕ). plain_parent (parent d.layer) (depth d.layer) y x) (ap d.root (top_same before after grew kin b) ∙ k.roots (first t.layer x) c)
        ∙ plain_same_lem before after grew kin (r.one.lines.root (first t.layer x) c i.top).in_use b;
    parent_new =
        ap (λ (y : ℕ). plain_parent (parent d.layer) (depth d.layer) y t.layer.count) (ap d.root (top_is after fresh_in fresh_first) ∙ k.root_new) ∙ plain_is after fresh_in fresh_in top;
    label_old = λ x b. (k.marks x b).same_label;
    label_new = k.label_new;
    face_old = λ x b. (k.marks x b).same_face;
    face_new = k.face_new;
  }

-- A growth

module _ {capacity : ℕ} {t d : Table} {h : ℕ} (r : Rules capacity t) (small : capacity ≤ node_limit) (room : t.layer.count < capacity) where
  pub growth_keeps_rules : {g : Growth} → Grown t d g h → Rules capacity d
  growth_keeps_rules {g} k = go k.named k
    where
      go : {g : Growth} → Named t g → Grown t d g h → Rules capacity d
      go (named_leaf l i j m) k = leaf_rules r small room l i j m k
      go (named_root l e o) k = root_rules r small room l e o k

  pub growth_plain : {g : Growth} → Grown t d g h → PlainStep t d g
  growth_plain {g} k = go k.named k
    where
      go : {g : Growth} → Named t g → Grown t d g h → PlainStep t d g
      go (named_leaf l i j m) k = leaf_plain r small room l i j m k
      go (named_root l e o) k = root_plain r small room l e o k
