-- What the code reads of a row's tree, on a table that passes inspection: the last entry names the first row, and that row records the root.
use Rattle.std.specs.Prelude.{◌≡◌, ℕ, ◌≤◌, ◌<◌}
use Rattle.std.proofs.Common.{sym, ap, ◌∙◌, arith, lt-ltb, ne_eqb}
use Rattle.tree_laws.specs.Ancestor.{none}
use Rattle.table.specs.Parts.{Parts}
use Rattle.table.specs.Capacity.{node_limit}
use Rattle.layer.specs.StoredTree.{first}
use Rattle.table.specs.PlainTree.{root}
use Rattle.table.specs.Table.{table_of}
use Rattle.table.specs.Rules.{Rules}
use Rattle.table.proofs.Rules.{numbered}
use Rattle.table.specs.Tree.{in_use, tree_at, root_of, root_at}
use Rattle.layer_laws.specs.Numbered.{InTree}
use Rattle.layer_laws.proofs.Numbered.{in_tree, first_in, first_is}
use Rattle.table_laws.specs.Lines.{root_in_lem}
use Rattle.layer_laws.proofs.TreeEntry.{entry_first}

-- a row in use is itself
in_use_is : {n y : ℕ} → y < n → in_use n y ≡ y
in_use_is {n} {y} l = rw (lt-ltb y n l)

module _ {capacity : ℕ} (p : Parts) (n : ℕ) (r : Rules capacity (table_of p n)) (fits : capacity ≤ node_limit) where
  -- the first row of a tree is read as such
  pub tree_is : {f x : ℕ} → InTree (table_of p n).layer f x → tree_at p.ancestors n x ≡ f
  tree_is {f} {x} i =
      let e = entry_first (numbered r fits) x i.in_use ∙ first_is (numbered r fits) i in
      rw e (in_use_is (first_in (numbered r fits) i))

  -- so is the root that it records
  pub recorded_is : {f x : ℕ} → InTree (table_of p n).layer f x → root_of p.fields n f ≡ (table_of p n).root f
  recorded_is {f} i =
      rw (ne_eqb f none (λ e. omega (arith, first_in (numbered r fits) i, r.one.trees.count))) (in_use_is (root_in_lem r fits i).in_use)

  pub root_is : (x : ℕ) → x < n → root_at p.fields p.ancestors n x ≡ root (table_of p n) x
  root_is x l = let i = in_tree (numbered r fits) x l in ap (root_of p.fields n) (tree_is i) ∙ recorded_is i

  -- two rows are read as of one tree exactly where they are
  pub same_tree : (x y : ℕ) → x < n → y < n → tree_at p.ancestors n x ≡ tree_at p.ancestors n y → first (table_of p n).layer x ≡ first (table_of p n).layer y
  same_tree x y l m e = sym (tree_is (in_tree (numbered r fits) x l)) ∙ e ∙ tree_is (in_tree (numbered r fits) y m)

  pub tree_same : (x y : ℕ) → x < n → y < n → first (table_of p n).layer x ≡ first (table_of p n).layer y → tree_at p.ancestors n x ≡ tree_at p.ancestors n y
  tree_same x y l m e = tree_is (in_tree (numbered r fits) x l) ∙ e ∙ sym (tree_is (in_tree (numbered r fits) y m))
