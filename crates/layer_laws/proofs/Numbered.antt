-- What is proved of `Numbered`.
use Rattle.std.specs.Prelude.{◌≡◌, refl, ℕ, ◌<◌}
use Rattle.std.proofs.Common.{sym, arith}
use Rattle.std.proofs.Math.Decide.{ℕ_discrete}
use Rattle.tree_laws.specs.Ancestor.{none, Anc, Forest}
use Rattle.tree_laws.specs.AncestorLaws.{trans, row_some, anc_in, root_of}
use Rattle.tree_laws.specs.Depth.{Depth}
use Rattle.tree_laws.specs.DepthLaws.{depth_forest}
use Rattle.tree_laws.specs.Top.{first_one, top_first, top_is}
use Rattle.tree_laws.specs.Nca.{Kindred}
use Rattle.tree_laws.specs.Compressed.{Compressed as CompressedBy}
use Rattle.tree_laws.specs.CompressedLaws.{compressed_forest, kindred_upper, to_stored}
use Rattle.layer.specs.StoredTree.{first}
use Rattle.layer.specs.Layer.{Layer, parent, depth, upper, path}
use Rattle.layer.specs.Numbered.{Numbered}
use Rattle.layer_laws.specs.Numbered.{InTree}

module _ {t : Layer} (r : Numbered t) where
  pub shape : Depth (parent t) (depth t) t.count
  shape = record { small = omega (arith, r.one.count); inside = r.one.inside; root = λ x l. (r.one.depth x l).first; step = λ x l. (r.one.depth x l).below }

  pub stored_tree : Forest (parent t) (depth t) t.count
  stored_tree = depth_forest shape

  pub uppers : CompressedBy (parent t) (path t) (upper t) t.count
  uppers = record { root = λ x l. (r.two.upper x l).root; first = λ x l. (r.two.upper x l).first }

  pub compressed_tree : Forest (upper t) (depth t) t.count
  compressed_tree = compressed_forest stored_tree uppers

  -- a root of the compressed tree is a root of the stored tree
  pub root_stored : (x : ℕ) → x < t.count → upper t x ≡ none → parent t x ≡ none
  root_stored x l e = elim (ℕ_discrete (parent t x) none) [
    | yes z ↦ z
    | no h ↦ absurd (row_some stored_tree (anc_in stored_tree (stored_tree.inside x l h) (uppers.first x l h).above) refl e)
  ]

module _ {t : Layer} (r : Numbered t) where
  -- every row stands in a tree, and two rows of one tree are kindred
  pub in_tree : (x : ℕ) → x < t.count → InTree t (first t x) x
  in_tree x l = record { in_use = l; is = top_first (stored_tree r) x l }

  pub first_in : {f x : ℕ} → InTree t f x → f < t.count
  first_in i = anc_in (stored_tree r) i.in_use i.is.over

  pub first_is : {f x : ℕ} → InTree t f x → first t x ≡ f
  first_is i = top_is (stored_tree r) i.in_use i.is

  pub anc_tree : {f a x : ℕ} → InTree t f x → Anc (parent t) a x → InTree t f a
  anc_tree {f} {a} {x} i p =
      let l : a < t.count = anc_in (stored_tree r) i.in_use p in
      let q = top_first (stored_tree r) a l in
      record { in_use = l; is = rw (first_one record { over = trans q.over p; top = q.top } i.is) at q }

  pub stored_kindred : {f x y : ℕ} → InTree t f x → InTree t f y → Kindred (parent t) x y
  stored_kindred {f} i j = record { root = f; left = i.is.over; right = j.is.over }

  pub compressed_kindred : {f x y : ℕ} → InTree t f x → InTree t f y → Kindred (upper t) x y
  compressed_kindred i j = kindred_upper (stored_tree r) (uppers r) i.in_use j.in_use (stored_kindred i j)

  -- the root over x in the compressed tree is the first row of its stored tree
  pub root_first : (x : ℕ) (l : x < t.count) → (root_of (compressed_tree r) x l).root ≡ first t x
  root_first x l =
      let o = root_of (compressed_tree r) x l in
      let i : o.root < t.count = anc_in (compressed_tree r) l o.over in
      sym (top_is (stored_tree r) l record { over = to_stored (stored_tree r) (uppers r) l o.over; top = root_stored r o.root i o.top })
