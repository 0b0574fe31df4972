-- The link that the code serves, on a table that passes inspection: sorted, detached and joined by the walk, it is the link that 02 asks for.
use Rattle.std.specs.Prelude.{◌≡◌, refl, ℕ, zero, suc, ◌+◌, ◌-◌, ◌*◌, ◌≤◌, length}
use Rattle.std.proofs.Common.{◌∙◌, mul-le-mul, arith}
use Rattle.laws.specs.Sum.{count_le}
use Rattle.table.specs.Parts.{Parts}
use Rattle.table.specs.Capacity.{Fits, node_limit}
use Rattle.table.specs.Table.{Table, table_of}
use Rattle.layer.specs.StoredTree.{first}
use Rattle.table.specs.Rules.{Rules}
use Rattle.growth_store.specs.Store.{stored}
use Rattle.link_laws.specs.Levels.{levels_from}
use Rattle.link_laws.specs.Link.{Linkable, Linked}
use Rattle.link_laws.specs.LinkFrame.{LinkFrame}
use Rattle.link_laws.proofs.LinkLaws.{link_rows}
use Rattle.link_laws.specs.Order.{is_of_tree, tree_rows}
use Rattle.link_laws.proofs.OrderLaws.{link_order, depth_under, link_ordered, order_length}
use Rattle.link_store.specs.Detach.{detached}
use Rattle.link_store.specs.JoinRow.{join_all}
use Rattle.link_store.specs.JoinedTree.{joined_tree}
use Rattle.link_store.specs.Sort.{cell_at, sorted_rows}
use Rattle.link_store.specs.Walk.{within32, walking, joining, join_walk}
use Rattle.link_exact.specs.DetachExact.{detached_is}
use Rattle.link_exact.specs.LinkExact.{link_exact, link_fits, framed}
use Rattle.link_exact.specs.SortExact.{tree_lists}
use Rattle.link_exact.specs.WalkExact.{stored_within, within_small, walk_levels}

module _ {c : ℕ} {p : Parts} {n x v door : ℕ} (r : Rules c (table_of p n)) (fit : Fits c p) (h : Linkable (table_of p n) x v door) where
  abbrev t : Table
  t = table_of p n

  -- the rows of the tree, detached
  abbrev p₁ : Parts
  p₁ = detached p n (first t.layer x) x v

  abbrev pub after : Parts
  after = (join_all p₁ n x door (link_order t x)).parts

  abbrev pub renumbered : ℕ
  renumbered = (join_all p₁ n x door (link_order t x)).given

  pub tree_linked_lem : Linked t (table_of after n) x v door renumbered
  tree_linked_lem = link_exact r fit h (detached_is r fit h)

  pub tree_fits : Fits c after
  tree_fits = link_fits r fit h (detached_is r fit h)

  pub tree_frame : LinkFrame c t (table_of after n) x v
  tree_frame = framed r fit h (detached_is r fit h)

  -- at most 32,768 rows for each of at most 32,768 joins
  few : renumbered ≤ 4294967295
  few =
      let a : tree_rows t.layer x ≤ node_limit = omega (arith, count_le (is_of_tree t.layer x) n, r.one.trees.count, fit.most) in
      let b : n ≤ node_limit = omega (arith, r.one.trees.count, fit.most) in
      omega (arith, link_rows r fit.most tree_linked_lem, mul-le-mul a b)

  abbrev heads : ℕ → ℕ
  heads = cell_at (sorted_rows c p.levels p.ancestors n (first t.layer x) (t.level x)).heads

  abbrev links : ℕ → ℕ
  links = cell_at (sorted_rows c p.levels p.ancestors n (first t.layer x) (t.level x)).links

  -- two turns for each row are enough
  walked : (m s : ℕ) → suc m ≡ n → 2 * n ≡ length (levels_from (is_of_tree t.layer x) (depth_under t x) n 0 (suc m)) + (suc m + s)
      → join_walk (2 * n) heads links n x door (walking p₁ (joining (heads 0) 0 (within32 0))) ≡ stored after (within32 renumbered)
  walked m s e o =
      let q = walk_levels heads links n x door (is_of_tree t.layer x) (depth_under t x) (tree_lists r fit h) m 0 (2 * n) s p₁ 0 (omega arith) o in
      (rw e at q) ∙ stored_within after (omega arith)

  walked_all : (k : ℕ) → k ≡ n → join_walk (2 * n) heads links n x door (walking p₁ (joining (heads 0) 0 (within32 0))) ≡ stored after (within32 renumbered)
  walked_all zero e = absurd (omega (arith, h.in_use))
  walked_all (suc m) e = walked m (n - length (link_order t x)) e
      (rw e (omega (arith, order_length r fit.most h (link_ordered r fit.most h), count_le (is_of_tree t.layer x) n)))

  pub tree_joined : joined_tree p c n (first t.layer x) x v door ≡ stored after renumbered
  unfolding joined_tree
  tree_joined = rw (within_small 0 (omega arith), within_small renumbered few) at (walked_all n refl)
