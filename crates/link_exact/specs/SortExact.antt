-- The sort leaves, on a table that passes inspection, one list for each depth below the linked root: the rows of that depth by rising number.
use Rattle.std.specs.Prelude.{◌≡◌, Bool, List, eqb, ℤ, nat_abs, ◌-ℤ◌, ◌+ℤ◌, length, set, replicate}
use Rattle.std.proofs.Math.Path.{refl, ap}
use Rattle.std.proofs.Common.{sym, ◌∙◌, arith, le-leb, get_or-set_same, get_or-set_other}
use Rattle.std.proofs.Math.Bool.{true, false}
use Prim.Native.Nat.{ℕ, zero, suc, ◌≤◌, ◌<◌}
use Rattle.std.proofs.Math.Decide.{ℕ_discrete}
use Rattle.std.proofs.Math.IntN.{pos, +ℤ_comm, +ℤ-neg_ℤ_cancel}
use Rattle.std.proofs.Math.ListN.{length-set}
use Rattle.std.proofs.lemmas.List.{length-replicate, get_or-replicate}
use Rattle.laws.specs.Test.{pick}
use Rattle.tree_laws.specs.Ancestor.{none}
use Rattle.tree_laws.specs.ChildLinks.{Chain}
use Rattle.tree_laws.specs.Chains.{chain_copy}
use Rattle.tree_laws.specs.SizeDepth.{depth_below_lem}
use Rattle.table.specs.Capacity.{Fits}
use Rattle.table.specs.Parts.{Parts, level_at}
use Rattle.layer.specs.Row.{entry_at}
use Rattle.table.specs.Rules.{Rules}
use Rattle.table.proofs.Rules.{numbered}
use Rattle.layer.specs.Numbered.{Numbered}
use Rattle.table.specs.Level.{is_level, level_limit}
use Rattle.table.specs.Table.{Table, table_of}
use Rattle.layer.specs.Layout.{tree_place}
use Rattle.layer.specs.StoredTree.{first}
use Rattle.table_laws.specs.LevelLaws.{level_root}
use Rattle.layer_laws.specs.Numbered.{InTree}
use Rattle.layer_laws.proofs.Numbered.{shape}
use Rattle.table_laws.specs.LevelBounds.{level_depth}
use Rattle.layer_laws.proofs.TreeEntry.{entry_first}
use Rattle.renumber_laws.specs.Column.{put}
use Rattle.renumber_laws.proofs.Column.{put_same, put_other}
use Rattle.link_store.specs.Sort.{depth_below, cell_at, Sorted, sorted, put_front, placed_row, placed_rows, sorted_rows}
use Rattle.link_laws.proofs.Buckets.{Buckets, placed, sorted as sorted_to, sorted_levels}
use Rattle.link_laws.specs.Levels.{level_of}
use Rattle.link_laws.proofs.Levels.{level_of_lem}
use Rattle.link_laws.specs.Link.{Linkable}
use Rattle.link_laws.specs.Order.{is_of_tree}
use Rattle.link_laws.proofs.OrderLaws.{depth_under, deep, in_x, moved_get}

-- a store in a scratch that reads as a column below c
cell_put : {c : ℕ} (s : List ℕ) (i v : ℕ) (g : ℕ → ℕ) (y : ℕ) → length s ≡ c → y < c → cell_at s y ≡ g y → cell_at (set s i v) y ≡ put g i v y
cell_put s i v g y long l e = elim (ℕ_discrete y i) [
  | yes z ↦ rw z (get_or-set_same s i v 0 (omega arith) ∙ sym (put_same g i v))
  | no d ↦ get_or-set_other s i y v 0 d ∙ e ∙ sym (put_other g i v y d)
]

-- the scratches hold c cells, and read as the heads and links of the lists
record Reads (c : ℕ) (s : Sorted) (b : Buckets) : Type 0 where
  long_heads : length s.heads ≡ c
  long_links : length s.links ≡ c
  heads : (d : ℕ) → d < c → cell_at s.heads d ≡ b.head d
  links : (w : ℕ) → w < c → cell_at s.links w ≡ b.next w

module _ {c n : ℕ} (room : n ≤ c) (l : List ℤ) (a : List ℕ) (tree : ℕ) (base : ℤ) (member : ℕ → Bool) (key : ℕ → ℕ)
    (same : (w : ℕ) → w < n → eqb (entry_at a w tree_place) tree ≡ member w)
    (keys : (w : ℕ) → w < n → member w ≡ true → depth_below base (level_at l w) ≡ key w)
    (low : (w : ℕ) → w < n → member w ≡ true → key w < c) where
  reads_place : (w : ℕ) {s : Sorted} {b : Buckets} → w < n → Reads c s b → Reads c (placed_row l a tree base w s) (placed member key w b)
  unfolding placed_row
  reads_place w {s} {b} i q = rw (same w i) (go (member w) refl)
    where
      go : (y : Bool) → member w ≡ y → Reads c (pick y (put_front s (depth_below base (level_at l w)) w) s)
          (pick y (record { head = put b.head (key w) w; next = put b.next w (b.head (key w)) }) b)
      go false e = q
      go true e = rw (keys w i e) record {
        long_heads = length-set s.heads (key w) w ∙ q.long_heads;
        long_links = length-set s.links w (cell_at s.heads (key w)) ∙ q.long_links;
        heads = λ d j. cell_put s.heads (key w) w b.head d q.long_heads j (q.heads d j);
        links = λ y j. rw (q.heads (key w) (low w i e)) (cell_put s.links w (b.head (key w)) b.next y q.long_links j (q.links y j));
      }

  reads_rows : (m : ℕ) {s : Sorted} {b : Buckets} → m ≤ n → Reads c s b → Reads c (placed_rows l a tree base m s) (sorted_to member key m b)
  unfolding placed_rows
  reads_rows zero i q = q
  reads_rows (suc m) i q = reads_rows m (omega arith) (reads_place m (omega arith) q)

  -- from empty lists
  abbrev empty : Buckets
  empty = record { head = λ d. none; next = λ w. none }

  reads_empty : Reads c (sorted (replicate c none) (replicate c none)) empty
  reads_empty = record {
    long_heads = length-replicate c none;
    long_links = length-replicate c none;
    heads = λ d j. get_or-replicate c d none 0 j;
    links = λ w j. get_or-replicate c w none 0 j;
  }

  pub sort_lists : n ≤ none → (d : ℕ) → d < n → Chain (cell_at (sorted_rows c l a n tree base).links) (cell_at (sorted_rows c l a n tree base).heads d) (level_of member key n d)
  unfolding sorted_rows
  sort_lists small d i =
      let q = reads_rows n (omega arith) reads_empty in
      rw (q.heads d (omega arith)) (chain_copy (λ w m. q.links w (omega (arith, (level_of_lem member key n d w m).inside))) (sorted_levels member key small empty (λ d. refl) d))

-- on a table that passes, by the first row and the level of the linked root
module _ {c : ℕ} {p : Parts} {n x v door : ℕ} (r : Rules c (table_of p n)) (fit : Fits c p) (h : Linkable (table_of p n) x v door) where
  abbrev t : Table
  t = table_of p n

  num : Numbered t.layer
  num = numbered r fit.most

  small : n ≤ none
  small = omega (arith, num.one.count)

  is_level_lem : (w : ℕ) → w < n → is_level (t.level w) ≡ true
  is_level_lem w l = le-leb (nat_abs (t.level w)) level_limit (omega (arith, level_depth r fit.most w l, depth_below_lem (shape num) w l, num.one.count))

  key_is : (w : ℕ) → w < n → is_of_tree t.layer x w ≡ true → depth_below (t.level x) (t.level w) ≡ depth_under t x w
  unfolding depth_below
  key_is w l e =
      let i : InTree t.layer (first t.layer x) w = in_x r fit.most h l (moved_get r fit.most h w e) in
      let k : t.level w ≡ t.level x +ℤ pos (depth_under t x w) = level_root r fit.most w i ∙ ap (λ (y : ℕ). t.level y +ℤ pos (depth_under t x w)) h.is_root in
      let d : t.level w -ℤ t.level x ≡ pos (depth_under t x w) = rw (k, +ℤ_comm (t.level x) (pos (depth_under t x w))) (+ℤ-neg_ℤ_cancel (pos (depth_under t x w)) (t.level x)) in
      rw (is_level_lem x h.in_use, is_level_lem w l, d) refl

  pub tree_lists : (d : ℕ) → d < n → Chain (cell_at (sorted_rows c p.levels p.ancestors n (first t.layer x) (t.level x)).links)
      (cell_at (sorted_rows c p.levels p.ancestors n (first t.layer x) (t.level x)).heads d) (level_of (is_of_tree t.layer x) (depth_under t x) n d)
  tree_lists = sort_lists r.one.trees.count p.levels p.ancestors (first t.layer x) (t.level x) (is_of_tree t.layer x) (depth_under t x)
      (λ w l. ap (λ (y : ℕ). eqb y (first t.layer x)) (entry_first num w l)) key_is (λ w l e. omega (arith, depth_below_lem (deep r fit.most h) w l, r.one.trees.count)) small
