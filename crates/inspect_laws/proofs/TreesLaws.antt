-- The test of trees says that parents, depths and child links record them.
use Rattle.std.specs.Prelude.{◌≡◌, refl, Bool, true, false, ◌&&◌, ◌≢◌, ℕ, ◌+◌, ◌≤◌, ◌<◌, length}
use Rattle.std.proofs.Common.{ap, sym, ◌∙◌, arith}
use Rattle.laws.specs.Test.{Says, holds, fails, says_map, says_and, says_ltb, says_eqb, says_all}
use Rattle.laws.specs.Sum.{sum_to, sum_eq, count_to, count_le}
use Rattle.tree_laws.specs.Ancestor.{none}
use Rattle.tree_laws.specs.Chains.{Went, last_of, chain_one, chain_once, sum_squeeze, is_child, is_root, kids, all_kids, list_short, list_full, full_list, follow_yes, follow_no}
use Rattle.tree_laws.specs.Depth.{Depth as Depths}
use Rattle.layer.specs.Layer.{Layer, parent, depth}
use Rattle.layer.specs.StoredTree.{ChildLinks, Depth}
use Rattle.layer.specs.Numbered.{Each, StoredTrees}
use Rattle.inspect_laws.proofs.Choice.{says_pick, says_unless, says_if}
use Rattle.inspect_laws.specs.Trees.{is_parent, is_depth, chain_of, is_linked, rows_met, are_parents, are_links, are_trees}

-- Parents and depths ---------------------------------------------------------

abbrev Parent : Layer → ℕ → Type 0
Parent t x = parent t x ≢ none → parent t x < t.count

says_parent : (t : Layer) (x : ℕ) → Says (Parent t x) (is_parent t x)
says_parent t x = says_unless (says_eqb (parent t x) none) (λ _. says_ltb (parent t x) t.count)

says_depth : (t : Layer) (x : ℕ) → Says (Depth t x) (is_depth t x)
says_depth t x = says_map (λ h. record { first = h.0; below = h.1 }) (λ p. (p.first, p.below))
    (says_pick (says_eqb (parent t x) none) (λ _. says_eqb (depth t x) 0) (λ _. says_eqb (depth t x) (depth t (parent t x) + 1)))

says_parents : (t : Layer) → Says (Each t (λ x. Parent t x × Depth t x)) (are_parents t)
says_parents t = says_all (λ x. is_parent t x && is_depth t x) t.count (λ x l. says_and (says_parent t x) (λ _. says_depth t x))

-- Child links ----------------------------------------------------------------

-- the chain of one row
record Linked (t : Layer) (x : ℕ) : Type 0 where
  ends : (chain_of t x).ok ≡ true
  last : (t.row x).last ≡ (chain_of t x).last
  alone : parent t x ≡ none → (t.row x).next ≡ none

says_bool : (b : Bool) → Says (b ≡ true) b
says_bool true = holds refl
says_bool false = fails (λ e. let z : ◌≡◌ {A = ℕ} 0 1 = cc in omega arith)

says_linked : (t : Layer) (x : ℕ) → Says (Linked t x) (is_linked t x)
says_linked t x = says_map
    (λ h. record { ends = h.0; last = h.1.0; alone = h.1.1 })
    (λ k. (k.ends, (k.last, k.alone)))
    (says_and (says_bool (chain_of t x).ok) (λ _.
    says_and (says_eqb (t.row x).last (chain_of t x).last) (λ _.
    says_if (says_eqb (parent t x) none) (λ _. says_eqb (t.row x).next none))))

kids_le : (up : ℕ → ℕ) (n v : ℕ) → kids up n v ≤ n
unfolding kids
kids_le up n v = count_le (is_child up n v) n

module _ (t : Layer) where
  abbrev Walked : ℕ → Type 0
  Walked x = Went (parent t) (λ w. (t.row w).next) t.count x (t.row x).first 0 none (chain_of t x)

  -- a chain that ends lists children
  walked : (x : ℕ) → (chain_of t x).ok ≡ true → Walked x
  walked x e = follow_yes (parent t) (λ w. (t.row w).next) t.count x t.count (t.row x).first 0 none e

  short : (x : ℕ) → Walked x → (chain_of t x).met ≤ kids (parent t) t.count x
  short x g = omega (arith, g.counts, list_short (parent t) t.count x g.listed.list (chain_once g.listed.chain) g.listed.over)

  -- and all of them, where as many are met as there are
  children : (x : ℕ) → Linked t x → (chain_of t x).met ≡ kids (parent t) t.count x → ChildLinks t x
  children x h full =
      let g = walked x h.ends in
      record {
        list = g.listed.list;
        chain = g.listed.chain;
        over = λ w m. record { in_use = (g.listed.over w m).0; parent = (g.listed.over w m).1 };
        all = λ w c. list_full (parent t) t.count x g.listed.list (chain_once g.listed.chain) g.listed.over (omega (arith, full, g.counts)) w c.in_use c.parent;
        last = h.last ∙ g.ends;
        alone = h.alone;
      }

  module _ (x : ℕ) (k : ChildLinks t x) where
    length_kids : length k.list ≡ kids (parent t) t.count x
    length_kids = full_list (parent t) t.count x k.list (chain_once k.chain) (λ w m. ((k.over w m).in_use, (k.over w m).parent))
        (λ w l e. k.all w record { in_use = l; parent = e })

    chain_ends : (chain_of t x).ok ≡ true
    chain_ends = go (chain_of t x).ok refl
      where
        go : (b : Bool) → (chain_of t x).ok ≡ b → (chain_of t x).ok ≡ true
        go true e = e
        go false e = absurd (follow_no (parent t) (λ w. (t.row w).next) t.count x t.count (t.row x).first 0 none e k.list k.chain
            (λ w m. ((k.over w m).in_use, (k.over w m).parent)) (omega (arith, length_kids, kids_le (parent t) t.count x)))

    same_list : (walked x chain_ends).listed.list ≡ k.list
    same_list = chain_one (walked x chain_ends).listed.chain k.chain

    linked : Linked t x
    linked = record {
      ends = chain_ends;
      last = k.last ∙ sym ((walked x chain_ends).ends ∙ ap last_of same_list);
      alone = k.alone;
    }

    all_met : (chain_of t x).met ≡ kids (parent t) t.count x
    all_met = omega (arith, (walked x chain_ends).counts, ap length same_list, length_kids)

  says_links : t.count ≤ none → Each t (Parent t) → Says (Each t (ChildLinks t)) (are_links t)
  says_links small inside = says_map to (λ h. (λ x l. linked x (h x l), omega (arith, sums, sum_eq met (kids (parent t) t.count) t.count (λ x l. all_met x (h x l)))))
      (says_and (says_all (is_linked t) t.count (λ x l. says_linked t x)) (λ _. says_eqb (rows_met t) t.count))
    where
      met : ℕ → ℕ
      met x = (chain_of t x).met

      sums : sum_to (kids (parent t) t.count) t.count + count_to (is_root (parent t) t.count) t.count ≡ t.count
      sums = all_kids (parent t) t.count small inside

      to : Each t (Linked t) × (rows_met t ≡ t.count) → Each t (ChildLinks t)
      to h x l = children x (h.0 x l) (sum_squeeze met (kids (parent t) t.count) t.count (λ j k. short j (walked j (h.0 j k).ends)) (omega (arith, h.1, sums)) x l)

-- All of it --------------------------------------------------------------------

pub trees_depths : {limit : ℕ} {t : Layer} → limit ≤ none → StoredTrees limit t → Depths (parent t) (depth t) t.count
trees_depths small r = record { small = omega (arith, r.count); inside = r.inside; root = λ x l. (r.depth x l).first; step = λ x l. (r.depth x l).below }

pub says_trees : (limit : ℕ) (t : Layer) → t.count ≤ limit → limit ≤ none → Says (StoredTrees limit t) (are_trees t)
unfolding are_trees
says_trees limit t few small = says_map
    (λ h. record { count = few; inside = λ x l. (h.0 x l).0; depth = λ x l. (h.0 x l).1; children = h.1 })
    (λ r. (λ x l. (r.inside x l, r.depth x l), r.children))
    (says_and (says_parents t) (λ p. says_links t (omega arith) (λ x l. (p x l).0)))
