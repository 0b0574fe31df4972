-- Paths and compressed parents built anew below a head: they are true again, and no row outside sees a difference.
use Rattle.std.specs.Prelude.{◌≡◌, refl, ◌≢◌, ℕ, ◌<◌}
use Rattle.std.proofs.Common.{sym, ◌∙◌, inl, inr}
use Rattle.std.proofs.Math.Decide.{ℕ_discrete}
use Rattle.tree_laws.specs.Ancestor.{none, Anc, here, there, Forest}
use Rattle.tree_laws.specs.AncestorLaws.{trans, cases, linear, anc_in, no_loop, dec_anc, anc_copy}
use Rattle.tree_laws.specs.Compressed.{Apex, Compressed, UpperStep}
use Rattle.tree_laws.specs.CompressedLaws.{from_step, compressed_forest, to_stored, to_upper}
use Rattle.tree_laws.specs.Size.{size as size_in}
use Rattle.tree_laws.specs.SizeLaws.{size_same}
use Rattle.layer.specs.Layer.{Layer, parent, depth, upper, path}
use Rattle.join_laws.specs.Renumbered.{Below, Rebuilt}
use Rattle.join_laws.proofs.StepLaws.{Near, step_copy}
use Rattle.join_laws.specs.Trees.{OwnTrees}
use Rattle.join_laws.proofs.Trees.{stored, upper_step}

module _ {m d : Layer} {h : ℕ} (k : OwnTrees m) (in_use : h < m.count) (apex : Apex (parent m) (path m) h) (b : Rebuilt m d h) where
  -- the parent of the head is outside
  parent_out : parent m h ≢ none → ¬ Below m h (parent m h)
  parent_out = no_loop (stored k) h in_use

  -- a row whose parent is outside has the same path link above it
  path_above : (x : ℕ) → x < m.count → (i : parent m x ≢ none) → ¬ Below m h (parent m x) → path d (parent m x) ≡ path m (parent m x)
  path_above x l i o = b.path_out (parent m x) (k.shape.inside x l i) o

  step_out : (x : ℕ) → x < m.count → (parent m x ≢ none → ¬ Below m h (parent m x)) → upper d x ≡ upper m x → UpperStep (parent m) (path d) (upper d) x
  step_out x l o e = step_copy near (upper_step k x l)
    where
      inside : parent m x ≢ none → parent m x < m.count
      inside = k.shape.inside x l

      near : Near (parent m) (parent m) (path m) (path d) (upper m) (upper d) x
      near = record {
        same_parent = refl;
        same_upper = e;
        above_parent = λ _. refl;
        above_upper = λ i. b.upper_out (parent m x) (inside i) (o i);
        above_path = λ i j. path_above (parent m x) (inside i) j (λ q. o i (there j q));
      }

  pub rebuilt_compressed : Compressed (parent m) (path d) (upper d) m.count
  rebuilt_compressed = from_step (stored k) (λ x l. elim (dec_anc (stored k) h x l) [
    | no o ↦ step_out x l (λ i q. o (there i q)) (b.upper_out x l o)
    | yes q ↦ elim (ℕ_discrete x h) [
      | yes e ↦ rw e (step_out h in_use parent_out b.upper_head)
      | no n ↦ b.upper x l q n
    ]
  ])

  pub rebuilt_apex : Apex (parent m) (path d) h
  rebuilt_apex i z = apex i (sym (path_above h in_use i (parent_out i)) ∙ z)

  pub rebuilt_in_use : (v : ℕ) → v < m.count → path d v ≢ none → path d v < m.count
  rebuilt_in_use v l = elim (dec_anc (stored k) h v l) [ yes q ↦ b.in_use v l q | no o ↦ rw (b.path_out v l o) (k.in_use v l) ]

  pub rebuilt_link : (v : ℕ) → v < m.count → path d v ≢ none → parent m (path d v) ≡ v
  rebuilt_link v l = elim (dec_anc (stored k) h v l) [ yes q ↦ b.link v l q | no o ↦ rw (b.path_out v l o) (k.link v l) ]

-- Two compressed trees over one stored tree, alike outside the rows below h

pub record Agree (m : Layer) (path path' upper upper' : ℕ → ℕ) (h : ℕ) : Type 0 where
  pub tree : Forest (parent m) (depth m) m.count
  pub in_use : h < m.count
  pub left : Compressed (parent m) path upper m.count
  pub right : Compressed (parent m) path' upper' m.count
  pub left_apex : Apex (parent m) path h
  pub right_apex : Apex (parent m) path' h
  pub same : (x : ℕ) → x < m.count → ¬ Below m h x → upper' x ≡ upper x
  pub head : upper' h ≡ upper h

pub agree_swap : {m : Layer} {path path' upper upper' : ℕ → ℕ} {h : ℕ} → Agree m path path' upper upper' h → Agree m path' path upper' upper h
agree_swap g = record {
  tree = g.tree;
  in_use = g.in_use;
  left = g.right;
  right = g.left;
  left_apex = g.right_apex;
  right_apex = g.left_apex;
  same = λ x l o. sym (g.same x l o);
  head = sym g.head;
}

module _ {m : Layer} {path path' upper upper' : ℕ → ℕ} {h : ℕ} (g : Agree m path path' upper upper' h) where
  left_forest : Forest upper (depth m) m.count
  left_forest = compressed_forest g.tree g.left

  copy_out : {a x : ℕ} → x < m.count → ¬ Below m h x → Anc upper a x → Anc upper' a x
  copy_out l o = anc_copy (λ b r. g.same b (anc_in left_forest l r) (λ q. o (trans q (to_stored g.tree g.left l r))))

  -- an outside row keeps the rows below it
  pub agree_over : {a x : ℕ} → x < m.count → ¬ Below m h a → Anc upper a x → Anc upper' a x
  agree_over {a} {x} l o r = elim (dec_anc g.tree h x l) [
    | no n ↦ copy_out l n r
    | yes b ↦ elim (linear r (to_upper g.tree g.left g.left_apex l b)) [
      | inr s ↦ absurd (o (to_stored g.tree g.left (anc_in left_forest l r) s))
      | inl s ↦ elim (cases s) [
        | inl e ↦ absurd (o (rw e here))
        | inr i ↦ trans (above i.0 i.1) (to_upper g.tree g.right g.right_apex l b)
      ]
    ]
  ]
    where
      outside : upper h ≢ none → ¬ Below m h (upper h)
      outside i q =
          let n : parent m h ≢ none = λ e. i (g.left.root h g.in_use e) in
          no_loop g.tree h g.in_use n (trans q (g.left.first h g.in_use n).above)

      above : upper h ≢ none → Anc upper a (upper h) → Anc upper' a h
      above i q = there {a = a} (λ e. i (sym g.head ∙ e)) (rw g.head (copy_out (left_forest.inside h g.in_use i) (outside i) q))

pub agree_size : {m : Layer} {path path' upper upper' : ℕ → ℕ} {h : ℕ} → Agree m path path' upper upper' h → (v : ℕ) → ¬ Below m h v
    → size_in upper (depth m) m.count v ≡ size_in upper' (depth m) m.count v
agree_size g v o = size_same (left_forest g) (left_forest (agree_swap g)) v (λ x l r. agree_over g l o r) (λ x l r. agree_over (agree_swap g) l o r)
