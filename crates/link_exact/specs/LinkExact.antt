-- A link in the lent parts, once the rows of the linked tree have been detached: the joins in their order make it.
use Rattle.std.specs.Prelude.{◌≡◌, refl, true, ◌≢◌, List, ℕ, ◌≤◌, ◌<◌}
use Rattle.std.proofs.Common.{◌∙◌}
use Rattle.std.proofs.Math.Decide.{ℕ_discrete}
use Rattle.laws.specs.Test.{says_true, says_false, says_eqb}
use Rattle.tree_laws.specs.Ancestor.{none}
use Rattle.tree_laws.specs.ChildLinks.{Chain, end, link, Member}
use Rattle.tree_laws.specs.Join.{Alone}
use Rattle.table.specs.Layout.{root_place}
use Rattle.table.specs.Parts.{Parts}
use Rattle.layer.specs.Row.{field_at}
use Rattle.table.specs.Capacity.{Fits}
use Rattle.table.specs.Table.{Table, table_of}
use Rattle.layer.specs.Layer.{Layer, parent}
use Rattle.layer.specs.StoredTree.{first}
use Rattle.table.specs.Rules.{Rules}
use Rattle.table.proofs.Rules.{numbered}
use Rattle.layer.specs.Numbered.{Numbered}
use Rattle.table_laws.specs.LevelLaws.{plain_tree, parent_in}
use Rattle.table_laws.specs.LevelBounds.{level_depth}
use Rattle.join_laws.specs.Lone.{Lone, Parted}
use Rattle.join_laws.proofs.LoneLaws.{parted_numbered}
use Rattle.growth_laws.specs.GrowthFrame.{Untouched}
use Rattle.growth_laws.proofs.GrowthFrameLaws.{untouched_trans}
use Rattle.link_laws.specs.Link.{target, column_with, Linkable, Linked}
use Rattle.link_laws.specs.LinkFrame.{LinkFrame}
use Rattle.link_laws.proofs.LinkFrameLaws.{link_elsewhere}
use Rattle.link_laws.specs.Order.{is_of_tree, Order}
use Rattle.link_laws.proofs.OrderLaws.{link_order, link_ordered, order_once, order_before, some, in_x}
use Rattle.link_store.specs.JoinRow.{join_all}
use Rattle.link_exact.specs.JoinsExact.{Waits, Joined, joins_exact}

-- p₁ holds p with the rows of the tree of x standing alone, each with its target in its root field
pub record Detached (c : ℕ) (p p₁ : Parts) (n x v : ℕ) : Type 0 where
  pub fit : Fits c p₁
  pub parted : Parted (table_of p n).layer (table_of p₁ n).layer (is_of_tree (table_of p n).layer x)
  pub named : (w : ℕ) → w < n → first (table_of p n).layer w ≡ first (table_of p n).layer x → field_at p₁.fields w root_place ≡ target (table_of p n) x v w
  pub roots : (w : ℕ) → w < n → first (table_of p n).layer w ≢ first (table_of p n).layer x → field_at p₁.fields w root_place ≡ field_at p.fields w root_place
  pub labels : (w : ℕ) → w < n → (table_of p₁ n).label w ≡ (table_of p n).label w
  pub faces : (w : ℕ) → w < n → (table_of p₁ n).face w ≡ (table_of p n).face w
  pub levels : (w : ℕ) → w < n → (table_of p₁ n).level w ≡ (table_of p n).level w
  pub unused : (w : ℕ) → n ≤ w → w < c → Untouched (table_of p n) (table_of p₁ n) w

-- a row that stands alone is nobody's parent
no_member : {next : ℕ → ℕ} {c : ℕ} {xs : List ℕ} (w : ℕ) → Chain next c xs → c ≡ none → Member xs w → ⊥
no_member w (end e) z m = m
no_member w (link d p) z m = d z

lone_alone : {d : Layer} {w : ℕ} → Numbered d → w < d.count → Lone d w → Alone (parent d) d.count w
lone_alone {d} {w} r l k = record {
  inside = l;
  top = k.parent_none;
  bare = λ y i e. let c = r.one.children w l in no_member y c.chain k.first_none (c.all y record { in_use = i; parent = e });
}

module _ {c : ℕ} {p p₁ : Parts} {n x v door : ℕ} (r : Rules c (table_of p n)) (fit : Fits c p) (h : Linkable (table_of p n) x v door) (k : Detached c p p₁ n x v) where
  abbrev t : Table
  t = table_of p n

  abbrev t₁ : Table
  t₁ = table_of p₁ n

  num : Numbered t.layer
  num = numbered r fit.most

  num₁ : Numbered t₁.layer
  num₁ = parted_numbered num k.parted

  order : Order t x (link_order t x)
  order = link_ordered r fit.most h

  moved : (w : ℕ) → first t.layer w ≡ first t.layer x → is_of_tree t.layer x w ≡ true
  moved w e = says_true (says_eqb (first t.layer w) (first t.layer x)) e

  target_in : (w : ℕ) → w < n → first t.layer w ≡ first t.layer x → target t x v w < n
  target_in w l e = elim (ℕ_discrete w x) [
    | yes z ↦ rw (says_true (says_eqb w x) z) h.over
    | no d ↦ rw (says_false (says_eqb w x) d, plain_tree r fit.most (in_x r fit.most h l e))
        (parent_in r fit.most (in_x r fit.most h l e) (some r fit.most h l e d)).in_use
  ]

  waits : Waits c p₁ n (target t x v) t.label t.face (link_order t x)
  waits = record {
    fit = k.fit;
    room = r.one.trees.count;
    was = num₁;
    alone = λ w m. let l = order.inside w m in lone_alone num₁ l (k.parted.alone w l (moved w (order.moved w m)));
    named = λ w m. k.named w (order.inside w m) (order.moved w m);
    under = λ w m. target_in w (order.inside w m) (order.moved w m);
    labels = λ w m. k.labels w (order.inside w m);
    faces = λ w m. k.faces w (order.inside w m);
    shallow = λ y l i. elim (ℕ_discrete (first t.layer y) (first t.layer x)) [
      | yes e ↦ absurd (i (order.all y l e))
      | no d ↦ rw (k.levels y l, (k.parted.kept y l (says_false (says_eqb (first t.layer y) (first t.layer x)) d)).same_depth) (level_depth r fit.most y l)
    ];
  }

  joined : Joined c p₁ (join_all p₁ n x door (link_order t x)).parts n (target t x v) (column_with t.label x door) (column_with t.face x 0) (link_order t x) (join_all p₁ n x door (link_order t x)).given
  joined = joins_exact x door (link_order t x) waits (order_once r fit.most h order) (order_before r fit.most h order)

  pub link_fits : Fits c (join_all p₁ n x door (link_order t x)).parts
  link_fits = joined.fits

  pub link_exact : Linked t (table_of (join_all p₁ n x door (link_order t x)).parts n) x v door (join_all p₁ n x door (link_order t x)).given
  link_exact = record {
    linkable = h;
    apart = t₁;
    count = refl;
    parted = k.parted;
    labels = k.labels;
    faces = k.faces;
    levels = λ w l d. k.levels w l;
    order = link_order t x;
    ordered = order;
    joins = joined.joins;
    roots = λ f l d. joined.roots f l (λ m. d (order.moved f m)) ∙ k.roots f l d;
  }

  -- outside the two trees nothing changes
  pub framed : LinkFrame c t (table_of (join_all p₁ n x door (link_order t x)).parts n) x v
  framed = record {
    elsewhere = link_elsewhere r fit.most link_exact;
    unused = λ w i l. untouched_trans (k.unused w i l) (joined.unused w i l);
  }
