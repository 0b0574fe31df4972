-- The rows of the linked tree, detached in the lent parts, stand alone with their targets in their root fields.
use Rattle.std.specs.Prelude.{◌≡◌, refl, ◌≢◌, List}
use Rattle.std.proofs.Common.{ap, sym, subst, ◌∙◌, arith}
use Prim.Native.Nat.{ℕ, zero, suc, ◌+◌, ◌≤◌, ◌<◌}
use Rattle.std.proofs.Math.Decide.{ℕ_discrete}
use Rattle.laws.specs.Test.{says_true, says_false, says_eqb, says_get, says_not_get}
use Rattle.tree_laws.specs.Ancestor.{none, here, there, Forest}
use Rattle.tree_laws.specs.AncestorLaws.{anc_in}
use Rattle.tree_laws.specs.Reroot.{PlainParent, root, turned, kept, plain_parent}
use Rattle.tree_laws.specs.RerootLaws.{plain_parent_lem}
use Rattle.tree_laws.specs.SizeDepth.{depth_below_lem}
use Rattle.span.specs.Numbers.{reach_of}
use Rattle.tree_laws.specs.Top.{top_anc}
use Rattle.layer.specs.Layout.{field_stride, parent_place, depth_place, tree_place}
use Rattle.table.specs.Layout.{label_place, face_place, root_place}
use Rattle.table.specs.Parts.{Parts}
use Rattle.layer.specs.Row.{field_at, entry_at}
use Rattle.table.specs.Capacity.{Fits}
use Rattle.layer.specs.Write.{with_field}
use Rattle.table.specs.Table.{Table, table_of}
use Rattle.layer.specs.Layer.{Layer, parent, depth}
use Rattle.layer.specs.Entries.{entry_from}
use Rattle.layer.specs.StoredTree.{first}
use Rattle.table.specs.Rules.{Rules}
use Rattle.table.proofs.Rules.{numbered}
use Rattle.layer.specs.Numbered.{Numbered}
use Rattle.renumber_laws.specs.Column.{put}
use Rattle.renumber_laws.proofs.Column.{put_same, put_other}
use Rattle.link_laws.proofs.Turn.{turned_up, turned_off, turned_here, turned_on}
use Rattle.renumber_exact.specs.Columns.{Holds, holds_set, set_same, set_other}
use Rattle.renumber_exact.specs.Lent.{Long, layer_in, SameRest}
use Rattle.join_exact.proofs.LoneExact.{lone_long, stands_alone, stays, lone_rest}
use Rattle.join_laws.specs.Lone.{Lone, Kept}
use Rattle.join_laws.proofs.KeptLaws.{kept_same, kept_trans}
use Rattle.layer_laws.proofs.Numbered.{shape, stored_tree}
use Rattle.layer_laws.proofs.TreeEntry.{entry_first}
use Rattle.link_laws.specs.Link.{target, Linkable}
use Rattle.link_exact.specs.LinkExact.{Detached}
use Rattle.renumber.specs.NumberWalk.{Written, written}
use Rattle.link_store.specs.DetachLaws.{other_parted, tree_parted}
use Rattle.link_store.specs.Detach.{kept_parent, kept_parents, turned_line, lonely, parted_row, parted_rows, turned_fields, detached_from, detached}

-- Stored parents kept as roots

record Keeps (a : List ℕ) (tree c m w : ℕ) (f g : List ℕ) : Type 0 where
  holds : Holds field_stride c g
  rest : (y j : ℕ) → j < field_stride → j ≢ root_place → field_at g y j ≡ field_at f y j
  on : (y : ℕ) → w ≤ y → y < w + m → entry_at a y tree_place ≡ tree → field_at g y root_place ≡ field_at f y parent_place
  low : (y : ℕ) → y < w → field_at g y root_place ≡ field_at f y root_place
  high : (y : ℕ) → w + m ≤ y → field_at g y root_place ≡ field_at f y root_place
  off : (y : ℕ) → y < c → entry_at a y tree_place ≢ tree → field_at g y root_place ≡ field_at f y root_place

keeps : (a : List ℕ) (tree c m w : ℕ) (f : List ℕ) → w + m ≤ c → Holds field_stride c f → Keeps a tree c m w f (kept_parents a tree m w f)
unfolding kept_parents kept_parent
keeps a tree c zero w f l h = record { holds = h; rest = λ y j i d. refl; on = λ y i j e. absurd (omega arith); low = λ y i. refl; high = λ y i. refl; off = λ y i d. refl }
keeps a tree c (suc m) w f l h = elim (ℕ_discrete (entry_at a w tree_place) tree) [
  | yes e ↦
      let s : Holds field_stride c (with_field f w root_place (field_at f w parent_place)) = holds_set h _ _ in
      let k = keeps a tree c m (suc w) (with_field f w root_place (field_at f w parent_place)) (omega arith) s in
      let at : (y : ℕ) → field_at (with_field f w root_place (field_at f w parent_place)) y root_place ≡ put (λ x. field_at f x root_place) w (field_at f w parent_place) y
      = λ y. set_same h w root_place (field_at f w parent_place) (omega arith) (omega arith) (λ x. field_at f x root_place) y refl in
      let rest : (y j : ℕ) → j < field_stride → j ≢ root_place → field_at (with_field f w root_place (field_at f w parent_place)) y j ≡ field_at f y j
      = λ y j i d. set_other h w root_place (field_at f w parent_place) (omega arith) y j i d in
      rw (says_true (says_eqb (entry_at a w tree_place) tree) e) record {
        holds = k.holds;
        rest = λ y j i d. k.rest y j i d ∙ rest y j i d;
        on = λ y i j o. elim (ℕ_discrete y w) [
          | yes z ↦ rw z (k.low w (omega arith) ∙ at w ∙ put_same (λ x. field_at f x root_place) w (field_at f w parent_place))
          | no d ↦ k.on y (omega arith) (omega arith) o ∙ rest y parent_place (omega arith) (λ z. omega arith)
        ];
        low = λ y i. k.low y (omega arith) ∙ at y ∙ put_other (λ x. field_at f x root_place) w (field_at f w parent_place) y (λ z. omega arith);
        high = λ y i. k.high y (omega arith) ∙ at y ∙ put_other (λ x. field_at f x root_place) w (field_at f w parent_place) y (λ z. omega arith);
        off = λ y i d. k.off y i d ∙ at y ∙ put_other (λ x. field_at f x root_place) w (field_at f w parent_place) y (λ z. d (rw z e));
      }
  | no d ↦
      let k = keeps a tree c m (suc w) f (omega arith) h in
      rw (says_false (says_eqb (entry_at a w tree_place) tree) d) record {
        holds = k.holds;
        rest = k.rest;
        on = λ y i j o. elim (ℕ_discrete y w) [ yes z ↦ absurd (d (rw z at o)) | no b ↦ k.on y (omega arith) (omega arith) o ];
        low = λ y i. k.low y (omega arith);
        high = λ y i. k.high y (omega arith);
        off = k.off;
      }
]

-- The line turned round

record Turns (c : ℕ) (up : ℕ → ℕ) (k z under : ℕ) (col : ℕ → ℕ) (f g : List ℕ) : Type 0 where
  holds : Holds field_stride c g
  rest : (y j : ℕ) → j < field_stride → j ≢ root_place → field_at g y j ≡ field_at f y j
  root : (y : ℕ) → field_at g y root_place ≡ turned_up up k col z under y

module _ {c n : ℕ} {up rank : ℕ → ℕ} (t : Forest up rank n) (room : n ≤ c) where
  turns : (k : ℕ) (f : List ℕ) (col : ℕ → ℕ) (z under : ℕ) → z < n → Holds field_stride c f → ((y : ℕ) → y < n → field_at f y parent_place ≡ up y)
      → ((y : ℕ) → field_at f y root_place ≡ col y) → Turns c up k z under col f (turned_line k f z under)
  unfolding turned_line
  turns zero f col z under l h u s = record {
    holds = holds_set h _ _;
    rest = λ y j i d. set_other h z root_place under (omega arith) y j i d;
    root = λ y. set_same h z root_place under (omega arith) (omega arith) col y (s y);
  }
  turns (suc k) f col z under l h u s = elim (ℕ_discrete (up z) none) [
    | yes e ↦ rw (u z l, says_true (says_eqb (up z) none) e) record {
      holds = holds_set h _ _;
      rest = λ y j i d. set_other h z root_place under (omega arith) y j i d;
      root = λ y. rw (says_true (says_eqb (up z) none) e) (set_same h z root_place under (omega arith) (omega arith) col y (s y));
    }
    | no d ↦
        let q = turns k (with_field f z root_place under) (put col z under) (up z) z (t.inside z l d) (holds_set h _ _)
        (λ y i. set_other h z root_place under (omega arith) y parent_place (omega arith) (λ e. omega arith) ∙ u y i)
        (λ y. set_same h z root_place under (omega arith) (omega arith) col y (s y)) in
        rw (u z l, says_false (says_eqb (up z) none) d) record {
          holds = q.holds;
          rest = λ y j i e. q.rest y j i e ∙ set_other h z root_place under (omega arith) y j i e;
          root = λ y. rw (says_false (says_eqb (up z) none) d) (q.root y);
        }
  ]

-- Rows standing alone, one after another

lone_kept : {t d : Layer} {y : ℕ} → Lone t y → Kept t d y → Lone d y
lone_kept {t} {d} {y} a k = record {
  parent_none = k.same_parent ∙ a.parent_none;
  depth_zero = k.same_depth ∙ a.depth_zero;
  first_none = k.same_first ∙ a.first_none;
  last_none = k.same_last ∙ a.last_none;
  next_none = k.same_next ∙ a.next_none;
  upper_none = k.same_upper ∙ a.upper_none;
  path_none = k.same_path ∙ a.path_none;
  size_one = k.same_size ∙ a.size_one;
  set_size_one = k.same_set_size ∙ a.set_size_one;
  start_zero = k.same_start ∙ a.start_zero;
  next_free_one = k.same_next_free ∙ a.next_free_one;
  filled = λ i b. k.same_entry i b ∙ a.filled i b ∙ ap (λ (s : ℕ). entry_from y (reach_of s) i none) (sym k.same_set_size);
}

-- the m rows from w on have been looked at: those of the tree stand alone, the others are as they were; what is not the layer's stays
record PartedTo (c n tree m w : ℕ) (p q : Written) : Type 0 where
  long : Long c q
  rest : SameRest p.fields q.fields
  on : (y : ℕ) → w ≤ y → y < w + m → entry_at p.ancestors y tree_place ≡ tree → Lone (layer_in q n) y
  low : (y : ℕ) → y < w → Kept (layer_in p n) (layer_in q n) y
  high : (y : ℕ) → w + m ≤ y → Kept (layer_in p n) (layer_in q n) y
  off : (y : ℕ) → entry_at p.ancestors y tree_place ≢ tree → Kept (layer_in p n) (layer_in q n) y

-- from what the first row became
on_row : (c n tree m w : ℕ) (p : Written) {q : Written} → q ≡ parted_row tree w p
    → PartedTo c n tree (suc m) w p (parted_rows tree m (suc w) q) → PartedTo c n tree (suc m) w p (parted_rows tree (suc m) w p)
unfolding parted_rows
on_row c n tree m w p e k = subst (λ (q : Written). PartedTo c n tree (suc m) w p (parted_rows tree m (suc w) q)) e k

parts_alone : (c n tree m w : ℕ) (p : Written) → w + m ≤ c → Long c p → PartedTo c n tree m w p (parted_rows tree m w p)
unfolding parted_rows
parts_alone c n tree zero w p l f = record {
  long = f;
  rest = λ y k a b. refl;
  on = λ y i j e. absurd (omega arith);
  low = λ y i. kept_same;
  high = λ y i. kept_same;
  off = λ y d. kept_same;
}
parts_alone c n tree (suc m) w p l f = elim (ℕ_discrete (entry_at p.ancestors w tree_place) tree) [
  | yes e ↦
      let i : w < c = omega arith in
      let k = parts_alone c n tree m (suc w) (lonely p w) (omega arith) (lone_long p f w i) in
      let same : (y : ℕ) → y ≢ w → Kept (layer_in p n) (layer_in (lonely p w) n) y = λ y d. stays p f w i n y d in
      on_row c n tree m w p (tree_parted tree w p _ _ _ refl e refl refl refl) record {
        long = k.long;
        rest = λ y j a b. k.rest y j a b ∙ lone_rest p f w i y j a b;
        on = λ y a b o. elim (ℕ_discrete y w) [
          | yes z ↦ rw z (lone_kept (stands_alone p f w i n) (k.low w (omega arith)))
          | no d ↦ k.on y (omega arith) (omega arith) ((same y d).same_entry tree_place (omega arith) ∙ o)
        ];
        low = λ y a. kept_trans (same y (λ z. omega arith)) (k.low y (omega arith));
        high = λ y a. kept_trans (same y (λ z. omega arith)) (k.high y (omega arith));
        off = λ y d. let o : y ≢ w = λ z. d (rw z e) in kept_trans (same y o) (k.off y (λ z. d (sym ((same y o).same_entry tree_place (omega arith)) ∙ z)));
      }
  | no d ↦
      let k = parts_alone c n tree m (suc w) p (omega arith) f in
      on_row c n tree m w p (other_parted tree w p refl d) record {
        long = k.long;
        rest = k.rest;
        on = λ y a b o. elim (ℕ_discrete y w) [ yes z ↦ absurd (d (rw z at o)) | no j ↦ k.on y (omega arith) (omega arith) o ];
        low = λ y a. k.low y (omega arith);
        high = λ y a. k.high y (omega arith);
        off = k.off;
      }
]

-- All of it

module _ {c : ℕ} {p : Parts} {n x v door : ℕ} (r : Rules c (table_of p n)) (fit : Fits c p) (h : Linkable (table_of p n) x v door) where
  abbrev t : Table
  t = table_of p n

  abbrev tree : ℕ
  tree = first t.layer x

  num : Numbered t.layer
  num = numbered r fit.most

  was : Forest (parent t.layer) (depth t.layer) n
  was = stored_tree num

  room : n ≤ c
  room = r.one.trees.count

  held : Holds field_stride c p.fields
  held = record { most = fit.most; long = fit.fields }

  abbrev f₁ : List ℕ
  f₁ = kept_parents p.ancestors tree n 0 p.fields

  k₁ : Keeps p.ancestors tree c n 0 p.fields f₁
  k₁ = keeps p.ancestors tree c n 0 p.fields (omega (arith, room)) held

  k₂ : Turns c (parent t.layer) n x v (λ y. field_at f₁ y root_place) f₁ (turned_line n f₁ x v)
  k₂ = turns was room n f₁ (λ y. field_at f₁ y root_place) x v h.in_use k₁.holds
      (λ y l. k₁.rest y parent_place (omega arith) (λ e. omega arith)) (λ y. refl)

  abbrev w₂ : Written
  w₂ = written (turned_line n f₁ x v) p.numbers p.ancestors

  long₂ : Long c w₂
  long₂ = record { most = omega (arith, fit.most); fields = k₂.holds.long; numbers = fit.numbers; ancestors = fit.ancestors }

  k₃ : PartedTo c n tree n 0 w₂ (parted_rows tree n 0 w₂)
  k₃ = parts_alone c n tree n 0 w₂ (omega (arith, room)) long₂

  same : (y j : ℕ) → j < field_stride → j ≢ root_place → field_at (turned_line n f₁ x v) y j ≡ field_at p.fields y j
  same y j i d = k₂.rest y j i d ∙ k₁.rest y j i d

  -- what is neither the layer's nor a root
  rest₃ : (y j : ℕ) → depth_place < j → j < field_stride → j ≢ root_place → field_at (parted_rows tree n 0 w₂).fields y j ≡ field_at p.fields y j
  rest₃ y j a b d = k₃.rest y j a b ∙ same y j b d

  kept₂ : (y : ℕ) → Kept t.layer (layer_in w₂ n) y
  kept₂ y = record {
    same_parent = same y 0 (omega arith) (λ e. omega arith);
    same_depth = same y 8 (omega arith) (λ e. omega arith);
    same_first = same y 1 (omega arith) (λ e. omega arith);
    same_last = same y 2 (omega arith) (λ e. omega arith);
    same_next = same y 3 (omega arith) (λ e. omega arith);
    same_upper = same y 4 (omega arith) (λ e. omega arith);
    same_path = same y 5 (omega arith) (λ e. omega arith);
    same_size = same y 6 (omega arith) (λ e. omega arith);
    same_set_size = same y 7 (omega arith) (λ e. omega arith);
    same_start = refl;
    same_next_free = refl;
    same_entry = λ i b. refl;
  }

  entry_is : (y : ℕ) → y < n → entry_at p.ancestors y tree_place ≡ first t.layer y
  entry_is y l = entry_first num y l

  -- the targets
  deep : depth t.layer x ≤ n
  deep = omega (arith, depth_below_lem (shape num) x h.in_use)

  root_is : (w : ℕ) → first t.layer w ≡ tree → t.root (first t.layer w) ≡ x
  root_is w e = ap t.root e ∙ h.is_root

  target_of : (w y : ℕ) → w < n → first t.layer w ≡ tree → w ≢ x → PlainParent (parent t.layer) x w y → turned_up (parent t.layer) n (λ y. field_at f₁ y root_place) x v w ≡ y
  target_of w y l e d root = absurd (d refl)
  target_of w y l e d (turned {y = c} g o q) = turned_on was n (λ y. field_at f₁ y root_place) x v w c h.in_use deep g o q
  target_of w y l e d (kept o) = turned_off was n (λ y. field_at f₁ y root_place) x v w h.in_use deep o
      ∙ k₁.on w (omega arith) (omega arith) (entry_is w l ∙ e)

  targets : (w : ℕ) → w < n → first t.layer w ≡ tree → turned_up (parent t.layer) n (λ y. field_at f₁ y root_place) x v w ≡ target t x v w
  targets w l e = elim (ℕ_discrete w x) [
    | yes z ↦ rw (z, says_true (says_eqb x x) refl) (turned_here was n (λ y. field_at f₁ y root_place) x v h.in_use deep)
    | no d ↦ rw (says_false (says_eqb w x) d, root_is w e) (target_of w (plain_parent (parent t.layer) (depth t.layer) x w) l e d (plain_parent_lem was h.in_use w l))
  ]

  pub detached_is : Detached c p (detached p n tree x v) n x v
  unfolding detached detached_from turned_fields
  detached_is = record {
    fit = record {
      least = fit.least;
      most = fit.most;
      levels = fit.levels;
      fields = k₃.long.fields;
      numbers = k₃.long.numbers;
      ancestors = k₃.long.ancestors;
    };
    parted = record {
      most = num.one.count;
      more = omega arith;
      old = λ y l e. l;
      alone = λ y l e. k₃.on y (omega arith) (omega arith) (entry_is y l ∙ says_get (says_eqb (first t.layer y) tree) e);
      kept = λ y l e. kept_trans (kept₂ y) (k₃.off y (λ z. says_not_get (says_eqb (first t.layer y) tree) e (sym (entry_is y l) ∙ z)));
      above = λ y l e d. rw (top_anc was l (there d here)) e;
      below = λ y l d e. rw (top_anc was l (there d here)) at e;
    };
    named = λ w l e. k₃.rest w root_place (omega arith) (omega arith) ∙ k₂.root w ∙ targets w l e;
    roots = λ w l d. k₃.rest w root_place (omega arith) (omega arith) ∙ k₂.root w
        ∙ turned_off was n (λ y. field_at f₁ y root_place) x v w h.in_use deep (λ q. d (top_anc was h.in_use q))
        ∙ k₁.off w (omega (arith, room)) (λ z. d (sym (entry_is w l) ∙ z));
    labels = λ w l. rest₃ w label_place (omega arith) (omega arith) (λ e. omega arith);
    faces = λ w l. rest₃ w face_place (omega arith) (omega arith) (λ e. omega arith);
    levels = λ w l. refl;
    unused = λ w i l. record {
      row = kept_trans (kept₂ w) (k₃.high w (omega arith));
      marks = record {
        same_label = rest₃ w label_place (omega arith) (omega arith) (λ e. omega arith);
        same_face = rest₃ w face_place (omega arith) (omega arith) (λ e. omega arith);
        same_level = refl;
      };
      same_root = k₃.rest w root_place (omega arith) (omega arith) ∙ k₂.root w
          ∙ turned_off was n (λ y. field_at f₁ y root_place) x v w h.in_use deep (λ q. omega (arith, anc_in was h.in_use q))
          ∙ k₁.high w (omega arith);
    };
  }
