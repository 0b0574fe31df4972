-- What is proved of `Proper`.
use Rattle.std.specs.Prelude.{◌≡◌, refl, Bool, ◌≢◌, ℕ, suc, ◌+◌, ◌≤◌, ◌<◌}
use Rattle.std.proofs.Common.{sym, ap, ◌∙◌, arith}
use mathlib.Core.List.{List, [], ◌∷◌}
use Rattle.std.proofs.Math.Decide.{ℕ_discrete}
use Rattle.tree_laws.specs.Ancestor.{none, here, Forest}
use Rattle.tree_laws.specs.AncestorLaws.{anc_in}
use Rattle.tree_laws.specs.DepthLaws.{depth_forest}
use Rattle.tree_laws.specs.SizeDepth.{depth_below_lem}
use Rattle.tree_laws.specs.Top.{First, first_one}
use Rattle.plain_list.specs.PlainList.{PlainList, empty_list, count_of, parent_of, with_node, with_first, with_leaf, with_root, with_link}
use Rattle.plain_list.proofs.PlainListLaws.{node_count, node_labels, node_faces, node_parent_old, node_parent_new}
use Rattle.plain_list.proofs.PlainListLaws.{root_count, root_labels, root_faces, root_parent_new, root_parent_old, root_parent_other}
use Rattle.plain_list.proofs.PlainListLaws.{link_count, link_labels, link_faces, link_parent_root, link_parent_other}
use Rattle.plain_list.proofs.NaiveLaws.{naive_root_first}
use Rattle.plain_list.specs.Deeper.{NewDepth, depth_under}
use Rattle.plain_list.proofs.Deeper.{depth_more, more_depth, under_depth}
use Rattle.plain_list.specs.PlainStep.{PlainCall, PlainOutcome, root_in, plain_after, plain_run}
use Rattle.plain_list.proofs.PlainStepLaws.{Does, nothing, adds_first, adds_leaf, adds_root, adds_over, joins, call_does}
use Rattle.plain_list.specs.Proper.{Proper}

module _ {capacity : ℕ} where
  pub proper_empty : Proper capacity empty_list
  proper_empty = record {
    room = omega arith;
    labelled = refl;
    faced = refl;
    depth = λ _. 0;
    shape = record {
      small = omega arith;
      inside = λ x l. absurd (omega arith);
      root = λ x l. absurd (omega arith);
      step = λ x l. absurd (omega arith);
    };
  }

-- The root of a node

module _ {capacity : ℕ} {p : PlainList} (t : Proper capacity p) where
  pub proper_forest : Forest (parent_of p) t.depth (count_of p)
  proper_forest = depth_forest t.shape

  -- a walk of as many steps as there are nodes comes to the root
  pub walk_enough : (x : ℕ) → x < count_of p → t.depth x ≤ count_of p
  walk_enough x l = omega (arith, depth_below_lem t.shape x l)

  pub root_first : (x : ℕ) → x < count_of p → First (parent_of p) (root_in p x) x
  root_first x l = naive_root_first proper_forest (count_of p) x l (walk_enough x l)

  pub root_known : (x : ℕ) → x < count_of p → root_in p x < count_of p
  root_known x l = anc_in proper_forest l (root_first x l).over

  pub root_own : (x : ℕ) → x < count_of p → parent_of p x ≡ none → root_in p x ≡ x
  root_own x l e = first_one (root_first x l) record { over = here; top = e }

-- A new node

module _ {capacity : ℕ} {p : PlainList} (most : capacity ≤ none) (t : Proper capacity p) (free : count_of p ≢ capacity) where
  proper_node : {v k : ℕ} (l f : ℕ) → NewDepth t.depth (count_of p) v k → Proper capacity (with_node p v l f)
  proper_node {v} {k} l f new = record {
    room = omega (arith, t.room, node_count p v l f);
    labelled = node_labels p v l f ∙ ap suc t.labelled ∙ sym (node_count p v l f);
    faced = node_faces p v l f ∙ ap suc t.faced ∙ sym (node_count p v l f);
    depth = depth_more t.depth (count_of p) k;
    shape = rw (node_count p v l f) (more_depth t.shape (omega (arith, t.room)) new (node_parent_old p v l f) (node_parent_new p v l f));
  }

  pub proper_first : Proper capacity (with_first p)
  proper_first = proper_node {k = 0} 0 0 record { alone = λ _. refl; inside = λ d. absurd (d refl); below = λ d. absurd (d refl) }

  pub proper_leaf : {v : ℕ} (l f : ℕ) → v < count_of p → Proper capacity (with_leaf p v l f)
  proper_leaf {v} l f h = proper_node {k = t.depth v + 1} l f record { alone = λ e. absurd (omega (arith, t.room)); inside = λ _. h; below = λ _. refl }

  -- a new root is a first node that the tree of the old one comes under
  pub proper_root : {r : ℕ} (named : Bool) (opening : ℕ) → r < count_of p → parent_of p r ≡ none → Proper capacity (with_root p r named opening)
  proper_root {r} named opening l e =
      let q = proper_first in
      let n = node_count p none 0 0 in
      record {
        room = omega (arith, t.room, root_count p r named opening);
        labelled = root_labels p r named opening ∙ ap suc t.labelled ∙ sym (root_count p r named opening);
        faced = root_faces p r named opening ∙ ap suc t.faced ∙ sym (root_count p r named opening);
        depth = depth_under q.depth (root_in (with_first p)) r (q.depth (count_of p) + 1);
        shape = rw (root_count p r named opening ∙ sym n) (under_depth q.shape (root_first q) (omega arith) (node_parent_old p none 0 0 r l ∙ e) (omega arith)
            (λ z. omega (arith, root_own q (count_of p) (omega arith) (node_parent_new p none 0 0))) (root_parent_old p r named opening l) other);
      }
    where
      other : (w : ℕ) → w < count_of (with_first p) → w ≢ r → parent_of (with_root p r named opening) w ≡ parent_of (with_first p) w
      other w i d = elim (ℕ_discrete w (count_of p)) [
        | yes z ↦ rw z (root_parent_new p r named opening ∙ sym (node_parent_new p none 0 0))
        | no z ↦ let j : w < count_of p = omega (arith, node_count p none 0 0) in root_parent_other p r named opening w j d ∙ sym (node_parent_old p none 0 0 w j)
      ]

-- A link

module _ {capacity : ℕ} {p : PlainList} (t : Proper capacity p) {x v : ℕ} (door : ℕ) where
  pub proper_link : x < count_of p → v < count_of p → parent_of p x ≡ none → root_in p v ≢ x → Proper capacity (with_link p x v door)
  proper_link l h e d = record {
    room = omega (arith, t.room, link_count p x v door);
    labelled = link_labels p x v door ∙ t.labelled ∙ sym (link_count p x v door);
    faced = link_faces p x v door ∙ t.faced ∙ sym (link_count p x v door);
    depth = depth_under t.depth (root_in p) x (t.depth v + 1);
    shape = rw (link_count p x v door)
        (under_depth t.shape (root_first t) l e h d (link_parent_root p x v door l) (λ w _ n. link_parent_other p x v door w n));
  }

-- Every call keeps it

module _ {capacity : ℕ} (most : capacity ≤ none) where
  pub proper_call : {p : PlainList} → Proper capacity p → (q : PlainCall) → Proper capacity (plain_after capacity p q)
  proper_call {p} t q = go (call_does capacity p q)
    where
      go : {q : PlainCall} {o : PlainOutcome} → Does capacity p q o → Proper capacity o.after
      go (nothing d) = t
      go (adds_first d) = proper_first most t d
      go (adds_leaf {l = l} {f} h i j k d) = proper_leaf most t d l f h
      go (adds_root {named = named} {opening} z d) =
          let l : 0 < count_of p = omega arith in
          proper_root most t d named opening (root_known t 0 l) (root_first t 0 l).top
      go (adds_over {named = named} {opening} h r d) = proper_root most t d named opening h r
      go (joins {door = door} h i j k r d) = proper_link t door h i r d

  pub proper_run : {p : PlainList} → Proper capacity p → (qs : List PlainCall) → Proper capacity (plain_run capacity p qs).last
  unfolding plain_run
  proper_run t [] = t
  proper_run {p} t (q ∷ qs) = proper_run {p = plain_after capacity p q} (proper_call t q) qs
