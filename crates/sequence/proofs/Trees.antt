-- Roots and trees, where the table stands beside the plain list: a node's root is the same in both, and so is which nodes share a tree.
use Rattle.std.specs.Prelude.{◌≡◌, ℕ, ◌<◌}
use Rattle.std.proofs.Common.{sym, ap, ◌∙◌, arith}
use Rattle.tree_laws.specs.Ancestor.{none}
use Rattle.layer.specs.StoredTree.{first}
use Rattle.table.specs.PlainTree.{root, plain}
use Rattle.table.proofs.Rules.{numbered}
use Rattle.layer_laws.proofs.Numbered.{in_tree, first_is}
use Rattle.table_laws.specs.Lines.{root_in_lem}
use Rattle.table_laws.specs.PlainRoot.{plain_root, root_plain}
use Rattle.query_exact.specs.PlainShape.{kindred_first, first_kindred}
use Rattle.plain_list.specs.PlainList.{PlainList, count_of, parent_of}
use Rattle.plain_list.specs.PlainStep.{root_in}
use Rattle.plain_list.proofs.Proper.{root_own}
use Rattle.plain_list.proofs.Shows.{roots_kindred, kindred_roots}
use Rattle.plain_list.specs.StoredList.{StoredList}
use Rattle.sequence.specs.Run.{Fast, table_in}
use Rattle.sequence.specs.Invariant.{Stands}

module _ {c : ℕ} {f : Fast} {p : PlainList} {stored : StoredList} {total joinings : ℕ} (s : Stands c f p stored total joinings) where
  -- a node of the list is a row in use, and the other way round
  pub in_use : {x : ℕ} → x < count_of p → x < f.state.count
  in_use l = omega (arith, s.count)

  pub known : {x : ℕ} → x < f.state.count → x < count_of p
  known l = omega (arith, s.count)

  -- one tree in the table is one root in the list
  pub tree_roots : {x y : ℕ} → x < count_of p → y < count_of p → first (table_in f).layer x ≡ first (table_in f).layer y → root_in p x ≡ root_in p y
  tree_roots l m e = kindred_roots s.proper s.shows l m (first_kindred s.rules s.fits.most (in_use l) (in_use m) e)

  pub roots_tree : {x y : ℕ} → x < count_of p → y < count_of p → root_in p x ≡ root_in p y → first (table_in f).layer x ≡ first (table_in f).layer y
  roots_tree l m e = kindred_first s.rules s.fits.most (in_use l) (in_use m) (roots_kindred s.proper s.shows l m e)

  -- a root in the table is one in the list
  pub root_top : {x : ℕ} → x < count_of p → root (table_in f) x ≡ x → parent_of p x ≡ none
  root_top {x} l e = sym (s.shows.parents x l) ∙ root_plain s.rules s.fits.most x (in_use l) e

  pub top_root : {x : ℕ} → x < count_of p → parent_of p x ≡ none → root (table_in f) x ≡ x
  top_root {x} l e = plain_root s.rules s.fits.most x (in_use l) (s.shows.parents x l ∙ e)

  -- and the root of a node is the same
  pub root_known : (x : ℕ) → x < count_of p → root (table_in f) x < count_of p
  root_known x l = known (root_in_lem s.rules s.fits.most (in_tree (numbered s.rules s.fits.most) x (in_use l))).in_use

  pub root_shown : (x : ℕ) → x < count_of p → root_in p x ≡ root (table_in f) x
  root_shown x l =
      let n = numbered s.rules s.fits.most in
      let e : first (table_in f).layer (root (table_in f) x) ≡ first (table_in f).layer x = first_is n (root_in_lem s.rules s.fits.most (in_tree n x (in_use l))) in
      let k = root_known x l in
      tree_roots l k (sym e) ∙ root_own s.proper (root (table_in f) x) k (root_top k (ap (table_in f).root e))
