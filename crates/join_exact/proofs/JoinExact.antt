-- The layer with the leaf attached is the layer with the lone row joined.
use Rattle.std.specs.Prelude.{◌≡◌, refl, Bool, ◌⊎◌, ◌≢◌, List, [], ◌∷◌, ℕ, ◌+◌, ◌≤◌, ◌<◌, eqb}
use Rattle.std.proofs.Common.{ap, sym, ◌∙◌, inl, inr, arith, ne_eqb, eq-eqb}
use Rattle.std.proofs.Math.Decide.{ℕ_discrete}
use Rattle.laws.specs.Test.{pick}
use Rattle.tree_laws.specs.Ancestor.{none}
use Rattle.tree_laws.specs.AncestorLaws.{row_some, anc_in}
use Rattle.tree_laws.specs.ChildLinks.{Chain, end, link, Member}
use Rattle.tree_laws.specs.Chains.{last_from, last_of}
use Rattle.tree_laws.specs.Compressed.{UpperStep}
use Rattle.tree_laws.specs.CompressedLaws.{apex_or}
use Rattle.tree_laws.specs.Join.{Old, Alone, Joins}
use Rattle.tree_laws.specs.JoinLaws.{old_up, anc_new, new_anc}
use Rattle.layer.specs.declared.row.Row.{Row}
use Rattle.layer.specs.Layout.{field_stride, parent_place, first_place, last_place, next_place, upper_place, path_place, set_size_place, depth_place}
use Rattle.layer.specs.Row.{field_at}
use Rattle.layer.specs.Layer.{Layer, parent, upper, path}
use Rattle.layer.specs.StoredTree.{Child}
use Rattle.join_laws.specs.Joined.{LinksAfter, Planted, Joined}
use Rattle.join_laws.specs.Lone.{Kept}
use Rattle.join_laws.proofs.JoinedLaws.{upper_alone}
use Rattle.join_laws.proofs.Chains.{size_most}
use Rattle.join_laws.specs.Trees.{OwnTrees}
use Rattle.join_laws.proofs.Trees.{own_trees, stored, uppers, parent_upper}
use Rattle.join_laws.proofs.StepLaws.{apex_back, path_child_back}
use Rattle.renumber_laws.specs.Column.{put}
use Rattle.renumber_laws.proofs.Column.{put_other}
use Rattle.join.specs.declared.attach.Leaf.{Leaf}
use Rattle.join.specs.Attach.{attached}
use Rattle.renumber.specs.NumberWalk.{Written, written}
use Rattle.renumber_exact.specs.Lent.{layer_in}
use Rattle.renumber_exact.specs.Columns.{Holds, put_given}
use Rattle.join_exact.specs.AttachExact.{Quiet, Attached}
use Rattle.join_exact.proofs.AttachExact.{attach}
use Rattle.join_exact.specs.Site.{LeafOf}
use Rattle.join_exact.proofs.Site.{Site}

-- no first child, no last child
no_last : {next : ℕ → ℕ} {a b : ℕ} {xs : List ℕ} → Chain next a xs → b ≡ last_of xs → a ≡ none → b ≡ none
no_last (end e) l z = l
no_last (link d q) l z = absurd (d z)

last_some : (a : ℕ) (xs : List ℕ) → Member (a ∷ xs) (last_from a xs)
last_some a [] = inl refl
last_some a (x ∷ xs) = inr (last_some x xs)

no_first : {next : ℕ → ℕ} {n a b : ℕ} {xs : List ℕ} → n ≤ none → ((w : ℕ) → Member xs w → w < n) → Chain next a xs → b ≡ last_of xs → b ≡ none → a ≡ none
no_first s h (end e) l z = e
no_first {a = a} s h (link {xs = xs} d q) l z = absurd (omega (arith, h (last_from a xs) (last_some a xs)))

last_in : {n b : ℕ} (xs : List ℕ) → ((w : ℕ) → Member xs w → w < n) → b ≡ last_of xs → (b ≡ none) ⊎ (b < n)
last_in [] h e = inl e
last_in (x ∷ xs) h e = inr (rw e (h (last_from x xs) (last_some x xs)))

module _ {c k : ℕ} {p : Written} {t : Layer} {z v : ℕ} (s : Site c p k t z v) (w u deep : ℕ) (q : LeafOf t v w u deep) where
  abbrev n : ℕ
  n = t.count

  abbrev leaf : Leaf
  leaf = record { row = z; parent = v; prev = w }

  -- the parts with the leaf in them
  abbrev pub parts : Written
  parts = written (attached k p.fields leaf u deep) p.numbers p.ancestors

  abbrev pub between : Layer
  between = layer_in parts n

  trees : OwnTrees t
  trees = own_trees s.was

  small : n ≤ none
  small = omega (arith, s.was.one.count)

  z_in : z < n
  z_in = s.alone.inside

  lone : Alone (upper t) n z
  lone = upper_alone s.was s.alone

  -- a column of the parts
  column : (g : Row → ℕ) (y : ℕ) → Old n z y → g ((layer_in p n).row y) ≡ g (t.row y)
  column g y o = ap g (s.row y o)

  -- the upper row is another row of t
  pub upper_in : Old n z u
  upper_in = elim (apex_or (parent t) (path t) v) [
    | inl b ↦ rw (q.upper_apex b) s.over
    | inr o ↦ rw (q.upper_along o) (old_up (uppers trees) lone v s.over (parent_upper trees v s.over.inside o.some))
  ]

  w_link : (w ≡ none) ⊎ Old n z w
  w_link =
      let k = s.was.one.children v s.over.inside in
      elim (last_in k.list (λ w m. (k.over w m).in_use) (q.sibling ∙ k.last)) [
        | inl e ↦ inl e
        | inr i ↦ inr record { inside = i; other = λ e. go e i k.list (λ w m. k.over w m) (q.sibling ∙ k.last) }
      ]
    where
      go : w ≡ z → w < n → (xs : List ℕ) → ((w : ℕ) → Member xs w → Child t v w) → w ≡ last_of xs → ⊥
      go e i [] h a = omega arith
      go e i (x ∷ xs) h a =
          let b = h (last_from x xs) (last_some x xs) in
          row_some (stored trees) s.over.inside (sym (ap (parent t) (sym a ∙ e)) ∙ b.parent) s.alone.top

  held : Holds field_stride c p.fields
  held = record { most = s.long.most; long = s.long.fields }

  pub attached_is : Attached (upper t) c p.fields z v w u deep (attached k p.fields leaf u deep)
  attached_is = attach k p.fields z v w u deep (uppers trees) held s.room lone s.over w_link upper_in (s.deep u upper_in)
      (λ y o. column (λ (r : Row). r.upper) y o)
      (λ y o. rw (column (λ (r : Row). r.size) y o) (omega (arith, size_most s.was y o.inside, s.was.one.count)))

  quiet : (j : ℕ) → j < field_stride → j ≢ 1 → j ≢ 2 → j ≢ 3 → j ≢ 6 → Quiet j
  quiet j a d₁ d₂ d₃ d₄ = record { within = a; first = d₁; last = d₂; next = d₃; size = d₄ }

  kept : (y j : ℕ) → Old n z y → Quiet j → field_at parts.fields y j ≡ field_at p.fields y j
  kept y j o a = attached_is.kept y j o.other a

  quiet_parent : Quiet parent_place
  quiet_parent = quiet parent_place (omega arith) (λ e. omega arith) (λ e. omega arith) (λ e. omega arith) (λ e. omega arith)

  quiet_upper : Quiet upper_place
  quiet_upper = quiet upper_place (omega arith) (λ e. omega arith) (λ e. omega arith) (λ e. omega arith) (λ e. omega arith)

  quiet_path : Quiet path_place
  quiet_path = quiet path_place (omega arith) (λ e. omega arith) (λ e. omega arith) (λ e. omega arith) (λ e. omega arith)

  quiet_set_size : Quiet set_size_place
  quiet_set_size = quiet set_size_place (omega arith) (λ e. omega arith) (λ e. omega arith) (λ e. omega arith) (λ e. omega arith)

  quiet_depth : Quiet depth_place
  quiet_depth = quiet depth_place (omega arith) (λ e. omega arith) (λ e. omega arith) (λ e. omega arith) (λ e. omega arith)

  parent_kept : (y : ℕ) → Old n z y → parent between y ≡ parent t y
  parent_kept y o = kept y parent_place o quiet_parent ∙ column (λ (r : Row). r.parent) y o

  upper_kept : (y : ℕ) → Old n z y → upper between y ≡ upper t y
  upper_kept y o = kept y upper_place o quiet_upper ∙ column (λ (r : Row). r.upper) y o

  path_kept : (y : ℕ) → Old n z y → path between y ≡ path t y
  path_kept y o = kept y path_place o quiet_path ∙ column (λ (r : Row). r.path) y o

  parent_new_lem : parent between z ≡ v
  parent_new_lem = attached_is.parent_new

  upper_new_lem : upper between z ≡ u
  upper_new_lem = attached_is.upper_new

  -- Links

  pub first_is : (x : ℕ) → x < c → x ≢ z → (between.row x).first
      ≡ put (λ y. field_at p.fields y first_place) v (pick (eqb w none) z (field_at p.fields v first_place)) x
  first_is x i d = attached_is.first x i d

  last_is : (x : ℕ) → x < c → x ≢ z → (between.row x).last ≡ put (λ y. field_at p.fields y last_place) v z x
  last_is x i d = attached_is.last x i d

  pub next_is : (x : ℕ) → x < c → x ≢ z → (between.row x).next ≡ put (λ y. field_at p.fields y next_place) w z x
  next_is x i d = attached_is.next x i d

  links : (x : ℕ) → Old n z x → LinksAfter t between v z x
  links x o =
      let i : x < c = omega (arith, o.inside, s.room) in
      let d = o.other in
      let e₀ = q.sibling in
      let b = s.was.one.children v s.over.inside in
      let fx : field_at p.fields x first_place ≡ (t.row x).first = column (λ (r : Row). r.first) x o in
      let fv : field_at p.fields v first_place ≡ (t.row v).first = column (λ (r : Row). r.first) v s.over in
      record {
        first_given = λ e y. first_is x i d ∙ put_given (λ y. field_at p.fields y first_place) v _ x e
            ∙ ap (λ (g : Bool). pick g z (field_at p.fields v first_place)) (eq-eqb w none (e₀ ∙ no_last b.chain b.last (rw e at y)));
        first_kept = λ g. first_is x i d ∙ elim (ℕ_discrete x v) [
          | no j ↦ put_other (λ y. field_at p.fields y first_place) v _ x j ∙ fx
          | yes e ↦ elim g [
            | inl j ↦ absurd (j e)
            | inr j ↦ put_given (λ y. field_at p.fields y first_place) v _ x e
                ∙ ap (λ (g : Bool). pick g z (field_at p.fields v first_place))
                (ne_eqb w none (λ y. j (rw e (no_first small (λ w m. (b.over w m).in_use) b.chain b.last (sym e₀ ∙ y)))))
                ∙ fv ∙ ap (λ (y : ℕ). (t.row y).first) (sym e)
          ]
        ];
        last_given = λ e. last_is x i d ∙ put_given (λ y. field_at p.fields y last_place) v z x e;
        last_kept = λ j. last_is x i d ∙ put_other (λ y. field_at p.fields y last_place) v z x j ∙ column (λ (r : Row). r.last) x o;
        next_given = λ e. next_is x i d ∙ put_given (λ y. field_at p.fields y next_place) w z x (e ∙ sym e₀);
        next_kept = λ j. next_is x i d ∙ put_other (λ y. field_at p.fields y next_place) w z x (λ y. j (y ∙ e₀)) ∙ column (λ (r : Row). r.next) x o;
      }

  planted : Planted t between z v
  planted = record {
    count = refl;
    alone = s.alone;
    over = s.over;
    old = λ x o. record {
      same_parent = parent_kept x o;
      same_depth = kept x depth_place o quiet_depth ∙ column (λ (r : Row). r.depth) x o;
    };
    links = links;
    new = record {
      parent_is = parent_new_lem;
      depth_is = attached_is.depth_new ∙ q.below;
      first_none = attached_is.first_new;
      last_none = attached_is.last_new;
      next_none = attached_is.next_new;
    };
  }

  -- The compressed tree

  step : UpperStep (parent between) (path between) (upper between) z
  step = record {
    root = λ e. absurd (row_some (stored trees) s.over.inside parent_new_lem e);
    apex = λ d b. upper_new_lem ∙ q.upper_apex (apex_back (parent t) (parent between) (path t) (path between) v above link (rw parent_new_lem at b)) ∙ sym parent_new_lem;
    along = λ d o. upper_new_lem ∙ q.upper_along (path_child_back (parent t) (parent between) (path t) (path between) v above link (rw parent_new_lem at o))
        ∙ sym (upper_kept v s.over) ∙ ap (upper between) (sym parent_new_lem);
  }
    where
      above : parent between v ≡ parent t v
      above = parent_kept v s.over

      link : parent t v ≢ none → path between (parent t v) ≡ path t (parent t v)
      link i = path_kept (parent t v) (old_up (stored trees) s.alone v s.over i)

  pub joins : Joins (upper t) (upper between) n z u
  joins = record { alone = lone; over = upper_in; same = upper_kept; under = upper_new_lem }

  pub joined : Joined t between z v
  joined = record {
    planted = planted;
    old = λ x o. record {
      same_path = path_kept x o;
      same_upper = upper_kept x o;
      same_set_size = kept x set_size_place o quiet_set_size ∙ column (λ (r : Row). r.set_size) x o;
      same_start = column (λ (r : Row). r.start) x o;
      same_entry = λ i j. s.entry x i o j;
    };
    next_free_old = λ x o. column (λ (r : Row). r.next_free) x o;
    path_new = attached_is.path_new;
    upper_new = step;
    size_new = attached_is.size_new;
    set_size_new = attached_is.set_size_new;
    size_chain = λ x o a. elim (new_anc (uppers trees) joins a) [
      | inl e ↦ absurd (o.other e)
      | inr g ↦ attached_is.size_chain (λ e. omega (arith, upper_in.inside)) x o.other g ∙ ap (λ (b : ℕ). b + 1) (column (λ (r : Row). r.size) x o)
    ];
    size_rest = λ x o d. attached_is.size_rest x o.other (λ _ g. d (anc_new (uppers trees) joins g)) ∙ column (λ (r : Row). r.size) x o;
  }

  -- a row that is not in use is as it was, however many were in use before
  pub joined_unused : (before x : ℕ) → n ≤ x → x < c → Kept (layer_in p before) between x
  joined_unused before x i l =
      let z_other : x ≢ z = other z_in in
      record {
        same_parent = attached_is.kept x parent_place z_other quiet_parent;
        same_depth = attached_is.kept x depth_place z_other quiet_depth;
        same_first = first_is x l z_other ∙ put_other (λ y. field_at p.fields y first_place) v _ x (other s.over.inside);
        same_last = last_is x l z_other ∙ put_other (λ y. field_at p.fields y last_place) v z x (other s.over.inside);
        same_next = next_is x l z_other ∙ put_other (λ y. field_at p.fields y next_place) w z x (elim w_link [
          | inl e ↦ λ y. omega (arith, s.long.most)
          | inr o ↦ other o.inside
        ]);
        same_upper = attached_is.kept x upper_place z_other quiet_upper;
        same_path = attached_is.kept x path_place z_other quiet_path;
        same_size = attached_is.size_rest x z_other (λ _ a. other (anc_in (uppers trees) upper_in.inside a) refl);
        same_set_size = attached_is.kept x set_size_place z_other quiet_set_size;
        same_start = refl;
        same_next_free = refl;
        same_entry = λ j b. refl;
      }
    where
      other : {y : ℕ} → y < n → x ≢ y
      other j e = omega arith
