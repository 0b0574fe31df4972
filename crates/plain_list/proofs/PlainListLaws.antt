-- What a new node, a new root and a link do to the count, the parents, and how many labels and faces there are.
use Rattle.std.specs.Prelude.{◌≡◌, Bool, ◌≢◌, ℕ, suc, ◌<◌, length}
use Rattle.std.proofs.Math.Path.{refl}
use Rattle.std.proofs.Common.{ap, sym, ◌∙◌}
use mathlib.Core.List.{[], ◌∷◌}
use Rattle.std.proofs.Math.ListN.{length-set, get_or-append}
use Rattle.std.proofs.Math.Seq.{get_or_at, get_or-set_same, get_or-set_other}
use Rattle.tree_laws.specs.Ancestor.{none}
use Rattle.plain_list.specs.PlainList.{PlainList, count_of, parent_of, with_node, under, with_root, with_link}
use Rattle.plain_list.proofs.Column.{length_one_more, length_named}

module _ (p : PlainList) (v l f : ℕ) where
  -- A new node

  pub node_count : count_of (with_node p v l f) ≡ suc (count_of p)
  unfolding with_node
  node_count = length_one_more p.parents v

  pub node_labels : length (with_node p v l f).labels ≡ suc (length p.labels)
  unfolding with_node
  node_labels = length_one_more p.labels l

  pub node_faces : length (with_node p v l f).faces ≡ suc (length p.faces)
  unfolding with_node
  node_faces = length_one_more p.faces f

  pub node_parent_old : (x : ℕ) → x < count_of p → parent_of (with_node p v l f) x ≡ parent_of p x
  unfolding with_node
  node_parent_old x i = get_or-append p.parents (v ∷ []) none x i

  pub node_parent_new : parent_of (with_node p v l f) (count_of p) ≡ v
  unfolding with_node
  node_parent_new = get_or_at p.parents v [] none (count_of p) refl

module _ (p : PlainList) (r : ℕ) (named : Bool) (opening : ℕ) where
  -- A new root over r

  -- the old nodes
  abbrev turned : PlainList
  turned = under p r (count_of p) named opening

  turned_count : count_of turned ≡ count_of p
  turned_count = length-set p.parents r (count_of p)

  pub root_count : count_of (with_root p r named opening) ≡ suc (count_of p)
  root_count = node_count turned none _ _ ∙ ap suc turned_count

  pub root_labels : length (with_root p r named opening).labels ≡ suc (length p.labels)
  root_labels = node_labels turned none _ _ ∙ ap suc (length_named p.labels r _ named)

  pub root_faces : length (with_root p r named opening).faces ≡ suc (length p.faces)
  root_faces = node_faces turned none _ _ ∙ ap suc (length_named p.faces r _ named)

  pub root_parent_new : parent_of (with_root p r named opening) (count_of p) ≡ none
  root_parent_new = ap (parent_of (with_root p r named opening)) (sym turned_count) ∙ node_parent_new turned none _ _

  -- the new root is the parent of the old one
  pub root_parent_old : r < count_of p → parent_of (with_root p r named opening) r ≡ count_of p
  root_parent_old i = node_parent_old turned none _ _ r (rw turned_count i) ∙ get_or-set_same p.parents r (count_of p) none i

  pub root_parent_other : (x : ℕ) → x < count_of p → x ≢ r → parent_of (with_root p r named opening) x ≡ parent_of p x
  root_parent_other x i d = node_parent_old turned none _ _ x (rw turned_count i) ∙ get_or-set_other p.parents r x (count_of p) none d

module _ (p : PlainList) (x v door : ℕ) where
  -- A link

  pub link_count : count_of (with_link p x v door) ≡ count_of p
  unfolding with_link
  link_count = length-set p.parents x v

  pub link_labels : length (with_link p x v door).labels ≡ length p.labels
  unfolding with_link
  link_labels = length-set p.labels x _

  pub link_faces : length (with_link p x v door).faces ≡ length p.faces
  unfolding with_link
  link_faces = length-set p.faces x _

  pub link_parent_root : x < count_of p → parent_of (with_link p x v door) x ≡ v
  unfolding with_link
  link_parent_root i = get_or-set_same p.parents x v none i

  pub link_parent_other : (w : ℕ) → w ≢ x → parent_of (with_link p x v door) w ≡ parent_of p w
  unfolding with_link
  link_parent_other w d = get_or-set_other p.parents x w v none d
