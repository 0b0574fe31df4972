-- On a table that passes inspection the plain parents are those of trees, and of each tree those by its own root; two rows have a common plain ancestor
-- exactly where their stored trees have one first row.
use Rattle.std.specs.Prelude.{◌≡◌, ◌≢◌, ℕ, ◌+◌, ◌≤◌, ◌<◌}
use Rattle.std.proofs.Common.{sym, ap, ◌∙◌}
use Rattle.tree_laws.specs.Ancestor.{none, Anc, here, there}
use Rattle.tree_laws.specs.AncestorLaws.{trans, anc_copy, anc_back}
use Rattle.tree_laws.specs.Depth.{Depth, Steps, arrived, step}
use Rattle.tree_laws.specs.Nca.{Kindred, Branch, itself, child, Characteristic}
use Rattle.tree_laws.specs.PlainDepthLaws.{plain_depth_lem}
use Rattle.tree_laws.specs.RerootLaws.{plain_root_over}
use Rattle.table.specs.Capacity.{node_limit}
use Rattle.table.specs.Table.{Table}
use Rattle.layer.specs.StoredTree.{first}
use Rattle.table.specs.PlainTree.{plain}
use Rattle.table.specs.Rules.{Rules}
use Rattle.table.proofs.Rules.{numbered}
use Rattle.layer_laws.specs.Numbered.{InTree}
use Rattle.layer_laws.proofs.Numbered.{shape, stored_tree, in_tree, first_is, stored_kindred}
use Rattle.table_laws.specs.Lines.{root_in_lem}
use Rattle.table_laws.specs.LevelLaws.{tree_parent, tree_depth, plain_tree, parent_in}

-- the depth of a row in its plain tree
abbrev pub plain_depth_of : Table → ℕ → ℕ
plain_depth_of t x = tree_depth t (first t.layer x) x

-- Parents that agree on the ancestors of x, and of y

steps_copy : {up up' : ℕ → ℕ} {a k x : ℕ} → ((b : ℕ) → Anc up b x → up' b ≡ up b) → Steps up a k x → Steps up' a k x
steps_copy f arrived = arrived
steps_copy {up} {up'} {a} {x = x} f (step {k = k} h s) =
    let e : up' x ≡ up x = f x here in
    let q : Steps up' a k (up' x) = rw e (steps_copy {up' = up'} (λ b q. f b (there h q)) s) in
    step {x = x} (rw e h) q

branch_copy : {up up' : ℕ → ℕ} {a x b : ℕ} → ((c : ℕ) → Anc up c x → up' c ≡ up c) → Branch up a x b → Branch up' a x b
branch_copy f (itself e) = itself e
branch_copy {b = b} f (child h e s) = child {b = b} (rw (f b s) h) (f b s ∙ e) (anc_copy f s)

characteristic_copy : {up up' : ℕ → ℕ} {x y a u v : ℕ} → ((b : ℕ) → Anc up b x → up' b ≡ up b) → ((b : ℕ) → Anc up b y → up' b ≡ up b)
    → Characteristic up x y a u v → Characteristic up' x y a u v
characteristic_copy f g c = record {
  nca = record {
    left = anc_copy f c.nca.left;
    right = anc_copy g c.nca.right;
    deepest = λ b p q. anc_copy (λ d s. f d (trans s c.nca.left)) (c.nca.deepest b (anc_back f p) (anc_back g q));
  };
  toward_x = branch_copy f c.toward_x;
  toward_y = branch_copy g c.toward_y;
}

module _ {capacity : ℕ} {t : Table} (r : Rules capacity t) (fits : capacity ≤ node_limit) where
  -- the tree of f, by its root
  pub tree_shape : {f x : ℕ} → InTree t.layer f x → Depth (tree_parent t f) (tree_depth t f) t.layer.count
  tree_shape i = plain_depth_lem (shape (numbered r fits)) (root_in_lem r fits i).in_use

  -- all plain trees
  pub plain_shape : Depth (plain t) (plain_depth_of t) t.layer.count
  plain_shape = record {
    small = (shape (numbered r fits)).small;
    inside = λ x l. (tree_shape (its x l)).inside x l;
    root = λ x l. (tree_shape (its x l)).root x l;
    step = λ x l h. (tree_shape (its x l)).step x l h
        ∙ ap (λ (f : ℕ). tree_depth t f (plain t x) + 1) (sym (first_is (numbered r fits) (parent_in r fits (its x l) h)));
  }
    where
      its : (x : ℕ) → x < t.layer.count → InTree t.layer (first t.layer x) x
      its = in_tree (numbered r fits)

  -- in the tree of f its depths are the plain ones, and plain parents are its rows
  pub plain_depth_is : {f x : ℕ} → InTree t.layer f x → plain_depth_of t x ≡ tree_depth t f x
  plain_depth_is {x = x} i = ap (λ (f : ℕ). tree_depth t f x) (first_is (numbered r fits) i)

  pub plain_parent_in : {f x : ℕ} → InTree t.layer f x → plain t x ≢ none → InTree t.layer f (plain t x)
  plain_parent_in i h = let e = plain_tree r fits i in rw e (parent_in r fits i (rw e at h))

  -- plain ancestors are rows of the same tree, so its parents are the plain ones
  plain_in : {f a x : ℕ} → InTree t.layer f x → Anc (tree_parent t f) a x → InTree t.layer f a
  plain_in i here = i
  plain_in i (there h s) = plain_in (parent_in r fits i h) s

  over_same : {f x : ℕ} → InTree t.layer f x → (b : ℕ) → Anc (tree_parent t f) b x → plain t b ≡ tree_parent t f b
  over_same i b s = plain_tree r fits (plain_in i s)

  pub plain_anc : {f a x : ℕ} → InTree t.layer f x → Anc (plain t) a x → Anc (tree_parent t f) a x
  plain_anc i = anc_back (over_same i)

  pub plain_steps : {f a k x : ℕ} → InTree t.layer f x → Steps (tree_parent t f) a k x → Steps (plain t) a k x
  plain_steps i = steps_copy (over_same i)

  pub plain_characteristic : {f x y a u v : ℕ} → InTree t.layer f x → InTree t.layer f y → Characteristic (tree_parent t f) x y a u v → Characteristic (plain t) x y a u v
  plain_characteristic i j = characteristic_copy (over_same i) (over_same j)

  -- a row and its plain ancestor have one first row
  plain_first : {a x : ℕ} → x < t.layer.count → Anc (plain t) a x → first t.layer a ≡ first t.layer x
  plain_first {x = x} l s = let i = in_tree (numbered r fits) x l in first_is (numbered r fits) (plain_in i (plain_anc i s))

  pub kindred_first : {x y : ℕ} → x < t.layer.count → y < t.layer.count → Kindred (plain t) x y → first t.layer x ≡ first t.layer y
  kindred_first l m k = sym (plain_first l k.left) ∙ plain_first m k.right

  pub first_kindred : {x y : ℕ} → x < t.layer.count → y < t.layer.count → first t.layer x ≡ first t.layer y → Kindred (plain t) x y
  first_kindred {x} {y} l m e = record { root = t.root (first t.layer y); left = rw e at (under x l); right = under y m }
    where
      under : (z : ℕ) → z < t.layer.count → Anc (plain t) (t.root (first t.layer z)) z
      under z k =
          let i = in_tree (numbered r fits) z k in
          let o = root_in_lem r fits i in
          anc_copy (over_same i) (plain_root_over (stored_tree (numbered r fits)) o.in_use k (stored_kindred (numbered r fits) i o))
