-- A layer with the same rows in use as a renumbered one is renumbered too: what lies past the count does not matter.
use Rattle.std.specs.Prelude.{◌≡◌, ◌≢◌, ℕ, ◌+◌, ◌*◌, ◌<◌}
use Rattle.std.proofs.Common.{ap, sym, ◌∙◌, inl, inr}
use Rattle.std.proofs.Math.Decide.{ℕ_discrete}
use Rattle.laws.specs.Test.{says_true, says_false, says_eqb}
use Rattle.laws.specs.Fourth.{fourth}
use Rattle.tree_laws.specs.Ancestor.{none, Forest}
use Rattle.tree_laws.specs.AncestorLaws.{cases, anc_in, anc_copy, anc_back}
use Rattle.tree_laws.specs.Compressed.{Compressed, UpperStep}
use Rattle.tree_laws.specs.CompressedLaws.{compressed_forest}
use Rattle.tree_laws.specs.Size.{size as size_in, child_sum}
use Rattle.tree_laws.specs.SizeLaws.{size_same, child_sum_same}
use Rattle.span.specs.Constants.{width}
use Rattle.layer.specs.Layout.{entry_stride}
use Rattle.layer.specs.Layer.{Layer, parent, depth, upper, path, size, set_size, start, next_free}
use Rattle.layer.specs.Spans.{p}
use Rattle.layer.specs.Entries.{entry_above}
use Rattle.join_laws.specs.Joined.{SameNode}
use Rattle.join_laws.specs.Lone.{Kept}
use Rattle.join_laws.specs.Renumbered.{Below, SameLinks, Rebuilt, Renumbered}
use Rattle.join_laws.proofs.RebuiltLaws.{rebuilt_compressed}
use Rattle.join_laws.specs.StartOrder.{LightChild, StartOrder}
use Rattle.join_laws.proofs.Trees.{uppers}
use Rattle.renumber_laws.specs.Renumbering.{Renumberable}
use Rattle.renumber_laws.proofs.RenumberingLaws.{stored_tree}

-- row x is the same in d and e
pub record SameRow (d e : Layer) (x : ℕ) : Type 0 where
  pub node : SameNode d e x
  pub links : SameLinks d e x
  pub upper : upper e x ≡ upper d x
  pub path : path e x ≡ path d x
  pub size : size e x ≡ size d x
  pub set_size : set_size e x ≡ set_size d x
  pub start : start e x ≡ start d x
  pub next_free : next_free e x ≡ next_free d x
  pub entry : (i : ℕ) → i < entry_stride → e.entry x i ≡ d.entry x i

-- a row that was kept is kept in every layer that has it the same
pub kept_row : {m d e : Layer} {x : ℕ} → Kept m d x → SameRow d e x → Kept m e x
kept_row k s = record {
  same_parent = s.node.same_parent ∙ k.same_parent;
  same_depth = s.node.same_depth ∙ k.same_depth;
  same_first = s.links.same_first ∙ k.same_first;
  same_last = s.links.same_last ∙ k.same_last;
  same_next = s.links.same_next ∙ k.same_next;
  same_upper = s.upper ∙ k.same_upper;
  same_path = s.path ∙ k.same_path;
  same_size = s.size ∙ k.same_size;
  same_set_size = s.set_size ∙ k.same_set_size;
  same_start = s.start ∙ k.same_start;
  same_next_free = s.next_free ∙ k.same_next_free;
  same_entry = λ i j. s.entry i j ∙ k.same_entry i j;
}

-- the first n rows are the same, and so is the count
pub record SameRows (n : ℕ) (d e : Layer) : Type 0 where
  pub count : e.count ≡ d.count
  pub row : (x : ℕ) → x < n → SameRow d e x

module _ {m d e : Layer} {h : ℕ} (g : Renumberable m h) (r : Renumbered m d h) (s : SameRows m.count d e) where
  inside : (x : ℕ) → x < m.count → parent m x ≢ none → parent m x < m.count
  inside = (stored_tree g).inside

  step_same : (x : ℕ) → x < m.count → UpperStep (parent m) (path d) (upper d) x → UpperStep (parent m) (path e) (upper e) x
  step_same x l was = record {
    root = λ z. (s.row x l).upper ∙ was.root z;
    apex = λ i a. (s.row x l).upper ∙ was.apex i (λ j z. a j (above i j ∙ z));
    along = λ i o. (s.row x l).upper ∙ was.along i record { some = o.some; link = sym (above i o.some) ∙ o.link }
        ∙ sym (s.row (parent m x) (inside x l i)).upper;
  }
    where
      above : parent m x ≢ none → parent m (parent m x) ≢ none → path e (parent m (parent m x)) ≡ path d (parent m (parent m x))
      above i j = (s.row (parent m (parent m x)) (inside (parent m x) (inside x l i) j)).path

  built_same : Rebuilt m e h
  built_same = record {
    path_out = λ x l o. (s.row x l).path ∙ r.built.path_out x l o;
    upper_out = λ x l o. (s.row x l).upper ∙ r.built.upper_out x l o;
    upper_head = (s.row h g.in_use).upper ∙ r.built.upper_head;
    in_use = λ v l b. rw (s.row v l).path (r.built.in_use v l b);
    link = λ v l b. rw (s.row v l).path (r.built.link v l b);
    heavy = λ v l b. rw (s.row v l).path (r.built.heavy v l b);
    light = λ w l i b. rw (s.row (parent m w) (inside w l i)).path (r.built.light w l i b);
    upper = λ x l b i. step_same x l (r.built.upper x l b i);
  }

  before : Compressed (parent m) (path d) (upper d) m.count
  before = rebuilt_compressed g.trees g.in_use g.apex r.built

  after : Compressed (parent m) (path e) (upper e) m.count
  after = rebuilt_compressed g.trees g.in_use g.apex built_same

  size_kept : (v : ℕ) → size_in (upper d) (depth m) m.count v ≡ size_in (upper e) (depth m) m.count v
  size_kept v =
      let f : Forest (upper d) (depth m) m.count = compressed_forest (stored_tree g) before in
      size_same f (compressed_forest (stored_tree g) after) v
      (λ x l. anc_copy (λ y q. (s.row y (anc_in f l q)).upper))
      (λ x l. anc_back (λ y q. (s.row y (anc_in f l q)).upper))

  -- the compressed parent of a row below the head is in use
  upper_in : (w : ℕ) → w < m.count → Below m h w → w ≢ h → upper d w < m.count
  upper_in w l b i = elim (cases b) [
    | inl z ↦ absurd (i (sym z))
    | inr z ↦ anc_in (stored_tree g) (inside w l z.0) (before.first w l z.0).above
  ]

  above_same : (x i : ℕ) → x < m.count → i < entry_stride → entry_above e.entry (upper e x) i ≡ entry_above d.entry (upper d x) i
  above_same x i l j = rw (s.row x l).upper (elim (ℕ_discrete (upper d x) none) [
    | yes z ↦ rw (says_true (says_eqb (upper d x) none) z)
    | no n ↦ rw (says_false (says_eqb (upper d x) none) n) ((s.row (upper d x) ((compressed_forest (stored_tree g) before).inside x l n)).entry i j)
  ])

  children_same : (u : ℕ) → child_sum (upper d) (λ w. fourth (set_size d w)) m.count u ≡ child_sum (upper e) (λ w. fourth (set_size e w)) m.count u
  children_same u = child_sum_same m.count (λ w l. record {
    stays = λ z. (s.row w l).upper ∙ z;
    comes = λ z. sym (s.row w l).upper ∙ z;
    weighs = λ z. ap fourth (sym (s.row w l).set_size);
  })

  order_same : StartOrder m e h
  order_same = record {
    row_first = λ v w l b o j i. rw ((s.row v l).start, (s.row w j).start)
        (r.order.row_first v w l b record { some = o.some; link = sym (s.row (parent m v) (inside v l o.some)).path ∙ o.link } j i);
    arrival = λ v w x l b p q. rw ((s.row w p.in_use).start, (s.row x q.in_use).start) (r.order.arrival v w x l b (light_same l p) (light_same l q));
    path_last = λ v w l b p i.
        let j : path d v ≢ none = rw (s.row v l).path at i in
        rw ((s.row v l).path, (s.row w p.in_use).start, (s.row (path d v) (r.built.in_use v l b j)).start) (r.order.path_last v w l b (light_same l p) j);
  }
    where
      light_same : {v w : ℕ} → v < m.count → LightChild m e v w → LightChild m d v w
      light_same {v} l p = record { in_use = p.in_use; over = p.over; light = rw (s.row v l).path at p.light }

  pub renumbered_same : Renumbered m e h
  renumbered_same = record {
    tree = record {
      count = s.count ∙ r.tree.count;
      node = λ x l. let o = r.tree.node x l in let c = (s.row x l).node in record {
        same_parent = c.same_parent ∙ o.same_parent;
        same_depth = c.same_depth ∙ o.same_depth;
      };
      links = λ x l. let o = r.tree.links x l in let c = (s.row x l).links in record {
        same_first = c.same_first ∙ o.same_first;
        same_last = c.same_last ∙ o.same_last;
        same_next = c.same_next ∙ o.same_next;
      };
    };
    built = built_same;
    numbers_out = λ x l b. let o = r.numbers_out x l b in let c = s.row x l in record {
      same_size = c.size ∙ o.same_size;
      same_set_size = c.set_size ∙ o.same_set_size;
      same_start = c.start ∙ o.same_start;
      same_entry = λ i j. c.entry i j ∙ o.same_entry i j;
    };
    next_free_out = λ x l b i. (s.row x l).next_free ∙ r.next_free_out x l b i;
    start_head = λ i. (s.row h g.in_use).start ∙ r.start_head i;
    start_root = λ i. (s.row h g.in_use).start ∙ r.start_root i;
    next_free_head = λ i. rw ((s.row h g.in_use).start, (s.row h g.in_use).set_size)
        ((s.row (upper m h) ((uppers g.trees).inside h g.in_use i)).next_free ∙ r.next_free_head i);
    sizes = λ v l b. (s.row v l).size ∙ r.sizes v l b ∙ size_kept v;
    set_sizes = λ v l b. (s.row v l).set_size ∙ r.set_sizes v l b ∙ sym (s.row v l).size;
    low = λ w l b i. let o = s.row (upper d w) (upper_in w l b i) in rw ((s.row w l).upper, o.start, o.set_size, (s.row w l).start) (r.low w l b i);
    high = λ w l b i. let o = s.row (upper d w) (upper_in w l b i) in
        rw ((s.row w l).upper, o.next_free, (s.row w l).start, (s.row w l).set_size) (r.high w l b i);
    apart = λ v w l j b c i k o z.
        rw ((s.row v l).start, (s.row v l).set_size, (s.row w j).start, (s.row w j).set_size)
        (r.apart v w l j b c i k o (sym (s.row v l).upper ∙ z ∙ (s.row w j).upper));
    order = order_same;
    next_frees = λ u l b. rw ((s.row u l).next_free, (s.row u l).start, (s.row u l).set_size)
        (r.next_frees u l b ∙ ap (λ (z : ℕ). p d u + width * z) (children_same u));
    filled = λ x l b i j. rw ((s.row x l).entry i j, (s.row x l).set_size, above_same x i l j) (r.filled x l b i j);
  }
