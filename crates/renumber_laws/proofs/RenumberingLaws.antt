-- The two walks of a renumbering give the renumbered layer.
use Rattle.std.specs.Prelude.{◌≡◌, refl, ◌≢◌, ℕ, ◌≤◌, ◌<◌}
use Rattle.std.proofs.Common.{sym, ◌∙◌, inl, inr, arith}
use Rattle.std.proofs.Math.Decide.{ℕ_discrete}
use Rattle.laws.specs.Test.{says_true, says_false, says_eqb}
use Rattle.laws.specs.Sum.{sum_of}
use Rattle.laws.specs.Fourth.{fourth}
use Rattle.tree_laws.specs.Ancestor.{none, Forest}
use Rattle.tree_laws.specs.AncestorLaws.{trans, row_some, no_loop, dec_anc}
use Rattle.tree_laws.specs.ChildLinks.{Member, Children}
use Rattle.tree_laws.specs.ChildLinksLaws.{SomeBelow, below_exists}
use Rattle.tree_laws.specs.Compressed.{PathLinks, Compressed}
use Rattle.tree_laws.specs.CompressedLaws.{apex_or, compressed_forest, upper_over, size_apex_lem, size_alone}
use Rattle.tree_laws.specs.HeavyLast.{heavy_last}
use Rattle.tree_laws.specs.Size.{size as size_in, child_sum}
use Rattle.tree_laws.specs.SizeLaws.{size_pos}
use Rattle.layer.specs.Layer.{Layer, parent, depth, upper}
use Rattle.join_laws.specs.Lone.{Kept}
use Rattle.join_laws.specs.Renumbered.{Below, Rebuilt, Renumbered}
use Rattle.join_laws.proofs.RebuiltLaws.{rebuilt_compressed}
use Rattle.join_laws.specs.StartOrder.{StartOrder}
use Rattle.join_laws.proofs.Trees.{stored, uppers, upper_out_lem}
use Rattle.renumber_laws.proofs.HeavyChild.{heavy_in_use, heavy_over, heavy_half, light_half}
use Rattle.renumber_laws.specs.Sizes.{Sizing}
use Rattle.renumber_laws.specs.SizesSwept.{Sized}
use Rattle.renumber_laws.specs.Numbers.{Numbers, head_start}
use Rattle.renumber_laws.specs.Placed.{share, Start}
use Rattle.renumber_laws.proofs.PlacedLaws.{earlier_or}
use Rattle.renumber_laws.specs.NumbersLaws.{AllPlaced}
use Rattle.renumber_laws.proofs.NumbersLaws.{sum_once}
use Rattle.renumber_laws.proofs.NumbersOrder.{ChildBelow, child_below, row_first, light_in_order, path_last_lem}
use Rattle.renumber_laws.specs.Renumbering.{sizes_of, numbers_of, with_columns, Renumberable}
use Rattle.renumber_laws.proofs.Renumbering.{links_of}

-- Where the span of the head begins

start_some : (c : Numbers) (h : ℕ) → c.upper h ≢ none → head_start c h ≡ c.next_free (c.upper h)
unfolding head_start
start_some c h i = rw (says_false (says_eqb (c.upper h) none) i)

start_none : (c : Numbers) (h : ℕ) → c.upper h ≡ none → head_start c h ≡ 0
unfolding head_start
start_none c h e = rw (says_true (says_eqb (c.upper h) none) e)

-- Child links

module _ {m : Layer} {h : ℕ} (g : Renumberable m h) where
  pub stored_tree : Forest (parent m) (depth m) m.count
  stored_tree = stored g.trees

  children : (v : ℕ) → v < m.count → Children (links_of m) m.count v
  children v l =
      let c = g.children v l in
      record {
        list = c.list;
        chain = c.chain;
        inside = λ w i. (c.over w i).in_use;
        over = λ w i. (c.over w i).parent;
        all = λ w i e. c.all w record { in_use = i; parent = e };
      }

  -- all rows below the head, read off the child links
  pub head_below : SomeBelow (links_of m) m.count h
  head_below = below_exists (links_of m) stored_tree children h g.in_use

-- From the first walk to the second

module _ {m : Layer} {h : ℕ} {s : Sizing} (g : Renumberable m h) (q : Sized (parent m) (depth m) m.count h (sizes_of m) s) where
  -- the path links of the first walk lead to children
  pub sized_links : PathLinks (parent m) s.path m.count
  sized_links = record {
    inside = λ v l. elim (dec_anc (stored_tree g) h v l) [
      | yes r ↦ heavy_in_use (stored_tree g) (q.path_in v l r)
      | no o ↦ rw (q.path_out v (λ _. o)) (g.trees.in_use v l)
    ];
    over = λ v l. elim (dec_anc (stored_tree g) h v l) [
      | yes r ↦ heavy_over (stored_tree g) (q.path_in v l r)
      | no o ↦ rw (q.path_out v (λ _. o)) (g.trees.link v l)
    ];
  }

  pub sized_start : Start (parent m) s.path (depth m) m.count h (numbers_of m s.size)
  sized_start = record {
    tree = stored_tree g;
    in_use = g.in_use;
    apex = λ i e. g.apex i (sym (q.path_out (parent m h) (λ _. no_loop (stored_tree g) h g.in_use i)) ∙ e);
    out = upper_out_lem g.trees h g.in_use;
  }

  -- Both walks

  module _ {c : Numbers} (a : AllPlaced (parent m) s.path (heavy_last (links_of m) s.path).next (depth m) m.count h (numbers_of m s.size) c) where
    not_placed : (x : ℕ) → (x < m.count → ¬ Below m h x) → ¬ Member a.list x
    not_placed x o z = o (a.done.in_use x z) (a.done.below x z)

    built : Rebuilt m (with_columns m s.path c) h
    built = record {
      path_out = λ x l o. q.path_out x (λ _. o);
      upper_out = λ x l o. (a.done.kept x (not_placed x (λ _. o))).upper;
      upper_head = a.done.upper_head;
      in_use = λ v l r. heavy_in_use (stored_tree g) (q.path_in v l r);
      link = λ v l r. heavy_over (stored_tree g) (q.path_in v l r);
      heavy = λ v l r. heavy_half (stored_tree g) (q.path_in v l r);
      light = λ w l i r e. light_half (stored_tree g) ((stored_tree g).inside w l i) (q.path_in (parent m w) ((stored_tree g).inside w l i) r) l refl e;
      upper = λ x l r i. a.done.step x (a.every x l r) i;
    }

    compressed : Compressed (parent m) s.path c.upper m.count
    compressed = rebuilt_compressed g.trees g.in_use g.apex built

    sizes_true : (v : ℕ) → v < m.count → Below m h v → c.size v ≡ size_in c.upper (depth m) m.count v
    sizes_true v l r = elim (apex_or (parent m) s.path v) [
      | inl i ↦ a.done.size_apex v (a.every v l r) i ∙ q.size_in v l r ∙ sym (size_apex_lem (stored_tree g) compressed v i)
      | inr o ↦ a.done.size_path v (a.every v l r) o ∙ sym (size_alone (stored_tree g) compressed v l o)
    ]

    -- every compressed child of a row below the head is placed
    shares_all : (u : ℕ) → u < m.count → Below m h u → sum_of (share c u) a.list ≡ child_sum c.upper (λ w. fourth (c.set_size w)) m.count u
    unfolding child_sum
    shares_all u l r = sum_once (share c u) m.count a.done.once a.done.in_use
        (λ w i z. rw (says_false (says_eqb (c.upper w) u) (other w i z)) (omega arith))
      where
        other : (w : ℕ) → w < m.count → ¬ Member a.list w → c.upper w ≢ u
        other w i z e =
            let n : c.upper w ≢ none = row_some (stored_tree g) l e in
            z (a.every w i (trans r (rw e at (upper_over (stored_tree g) compressed w i n))))

    size_some : (v : ℕ) → Member a.list v → 1 ≤ c.set_size v
    size_some v z =
        let l = a.done.in_use v z in
        omega (arith, a.done.set_sizes v z, sizes_true v l (a.done.below v z), size_pos (compressed_forest (stored_tree g) compressed) v l)

    order : StartOrder m (with_columns m s.path c) h
    order = record {
      row_first = λ v w l r o j e. row_first (links_of m) sized_start sized_links (head_below g).is a size_some o (child l r j e);
      arrival = λ v w x l r y z t. light_in_order (links_of m) sized_start sized_links (head_below g).is a size_some
          (child l r y.in_use y.over) (child l r z.in_use z.over) y.light z.light t.leads t.other;
      path_last = λ v w l r y. path_last_lem (links_of m) sized_start sized_links (head_below g).is a size_some l r (child l r y.in_use y.over) y.light;
    }
      where
        child : {v w : ℕ} → v < m.count → Below m h v → w < m.count → parent m w ≡ v → ChildBelow (parent m) m.count h v w
        child = child_below (stored_tree g) g.in_use

    pub both_walks : Renumbered m (with_columns m s.path c) h
    both_walks = record {
      tree = record {
        count = refl;
        node = λ x l. record { same_parent = refl; same_depth = refl };
        links = λ x l. record { same_first = refl; same_last = refl; same_next = refl };
      };
      built = built;
      numbers_out = λ x l o. let e = a.done.kept x (not_placed x (λ _. o)) in
          record { same_size = e.size ∙ q.size_out x (λ _. o); same_set_size = e.set_size; same_start = e.start; same_entry = λ i j. e.entry i };
      next_free_out = λ x l o i. a.done.next_free_kept x (not_placed x (λ _. o)) i;
      start_head = λ i. a.done.start_head ∙ start_some (numbers_of m s.size) h i;
      start_root = λ e. a.done.start_head ∙ start_none (numbers_of m s.size) h e;
      next_free_head = a.done.next_free_head;
      sizes = sizes_true;
      set_sizes = λ v l r. a.done.set_sizes v (a.every v l r);
      low = λ w l r i. a.done.low w (a.every w l r) i;
      high = λ w l r i. a.done.high w (a.every w l r) i;
      apart = λ v w l j r o i k n e. elim (earlier_or a.list v w (a.every v l r) (a.every w j o) n) [
        | inl z ↦ inl (a.done.order v w z i k e)
        | inr z ↦ inr (a.done.order w v z k i (sym e))
      ];
      order = order;
      next_frees = λ u l r. rw (← shares_all u l r) (a.done.next_frees u (a.every u l r));
      filled = λ x l r i j. a.done.filled x (a.every x l r) i;
    }

    -- a row that is not in use is as it was
    pub unused_kept : (x : ℕ) → m.count ≤ x → x ≢ none → Kept m (with_columns m s.path c) x
    unused_kept x l i =
        let out : x < m.count → ¬ Below m h x = λ j. absurd (omega arith) in
        let e = a.done.kept x (not_placed x out) in
        record {
          same_parent = refl;
          same_depth = refl;
          same_first = refl;
          same_last = refl;
          same_next = refl;
          same_upper = e.upper;
          same_path = q.path_out x out;
          same_size = e.size ∙ q.size_out x out;
          same_set_size = e.set_size;
          same_start = e.start;
          same_next_free = a.done.next_free_kept x (not_placed x out) other;
          same_entry = λ j b. e.entry j;
        }
      where
        other : x ≢ upper m h
        other e = elim (ℕ_discrete (upper m h) none) [
          | yes z ↦ i (e ∙ z)
          | no d ↦ omega (arith, (uppers g.trees).inside h g.in_use d)
        ]
