-- What is proved of `Trees`.
use Rattle.std.specs.Prelude.{◌≡◌, refl, ◌≢◌, ℕ, ◌≤◌, ◌<◌}
use Rattle.std.proofs.Common.{sym, ◌∙◌, inl, inr}
use Rattle.tree_laws.specs.Ancestor.{none, Anc, Forest}
use Rattle.tree_laws.specs.AncestorLaws.{trans, cases, row_some, anc_in, no_loop}
use Rattle.tree_laws.specs.Depth.{Depth}
use Rattle.tree_laws.specs.DepthLaws.{depth_forest}
use Rattle.tree_laws.specs.SizeLaws.{size_same}
use Rattle.tree_laws.specs.Compressed.{Apex, Compressed, UpperStep}
use Rattle.tree_laws.specs.CompressedLaws.{from_step, to_step, upper_first, upper_over, compressed_forest, to_stored, to_upper}
use Rattle.layer.specs.Layer.{Layer, parent, depth, upper, path, size}
use Rattle.layer.specs.Numbered.{StoredTrees, Compressed as Rule2, Numbered}
use Rattle.layer_laws.proofs.Numbered.{shape as layer_shape}
use Rattle.join_laws.proofs.StepLaws.{Near, step_copy}
use Rattle.join_laws.specs.Trees.{OwnTrees, Trees}

-- Laws

module _ {parent depth : ℕ → ℕ} {n : ℕ} {c : Layer} (k : Trees parent depth n c) where
  pub stored : Forest parent depth n
  stored = depth_forest k.shape

  pub uppers : Forest (upper c) depth n
  uppers = compressed_forest stored k.compressed

  pub upper_parent : (x : ℕ) → x < n → upper c x ≢ none → parent x ≢ none
  upper_parent x l h e = h (k.compressed.root x l e)

  pub parent_upper : (x : ℕ) → x < n → parent x ≢ none → upper c x ≢ none
  parent_upper x l h = row_some stored (anc_in stored (stored.inside x l h) (k.compressed.first x l h).above) refl

  pub upper_above : (x : ℕ) → x < n → upper c x ≢ none → Anc parent (upper c x) (parent x)
  upper_above x l h = (upper_first stored k.compressed x l h).above

  pub upper_apex : (x : ℕ) → x < n → upper c x ≢ none → Apex parent (path c) (upper c x)
  upper_apex x l h = (upper_first stored k.compressed x l h).apex

  pub stored_anc : {a x : ℕ} → x < n → Anc (upper c) a x → Anc parent a x
  stored_anc = to_stored stored k.compressed

  upper_anc : {a x : ℕ} → Apex parent (path c) a → x < n → Anc parent a x → Anc (upper c) a x
  upper_anc = to_upper stored k.compressed

  pub upper_step : (x : ℕ) → x < n → UpperStep parent (path c) (upper c) x
  upper_step = to_step stored k.compressed

  -- the compressed parent of h is not below h
  pub upper_out_lem : (h : ℕ) → h < n → upper c h ≢ none → ¬ Anc parent h (upper c h)
  upper_out_lem h l i r = no_loop stored h l (upper_parent h l i) (trans r (upper_above h l i))

  -- nor is that of a row that is not below h
  pub upper_outside : {h : ℕ} (x : ℕ) → x < n → ¬ Anc parent h x → upper c x ≢ none → ¬ Anc parent h (upper c x)
  upper_outside x l o i b = o (trans b (upper_over stored k.compressed x l i))

  -- a row below an apex, and not the apex, has its compressed parent there
  pub upper_some : {h x : ℕ} → Apex parent (path c) h → x < n → Anc parent h x → x ≢ h → upper c x ≢ none
  upper_some a l r d = elim (cases (upper_anc a l r)) [ inl e ↦ absurd (d (sym e)) | inr s ↦ s.0 ]

  pub upper_below : {h x : ℕ} → Apex parent (path c) h → x < n → Anc parent h x → x ≢ h → Anc parent h (upper c x)
  upper_below {h} {x} a l r d = elim (cases (upper_anc a l r)) [
    | inl e ↦ absurd (d (sym e))
    | inr s ↦ stored_anc (uppers.inside x l s.0) s.1
  ]

-- The trees of a numbered layer

-- they keep to a smaller limit where the count does
pub trees_within : {limit : ℕ} {t : Layer} → Numbered t → t.count ≤ limit → StoredTrees limit t
trees_within r most = record { count = most; inside = r.one.inside; depth = r.one.depth; children = r.one.children }

pub own_trees : {t : Layer} → Numbered t → OwnTrees t
own_trees {t} r = record {
  shape = layer_shape r;
  in_use = λ v l h. (r.two.path v l h).in_use;
  link = λ v l h. (r.two.path v l h).parent;
  compressed = record { root = λ x l. (r.two.upper x l).root; first = λ x l. (r.two.upper x l).first };
  sizes = r.two.size;
}

pub trees_rule : {t : Layer} → OwnTrees t → Rule2 t
trees_rule k = record {
  path = λ v l h. record { in_use = k.in_use v l h; parent = k.link v l h };
  upper = λ x l. record { root = k.compressed.root x l; first = k.compressed.first x l };
  size = k.sizes;
}

-- The same trees over stored trees that agree

module _ {parent depth parent' depth' : ℕ → ℕ} {n : ℕ} {c : Layer} (k : Trees parent depth n c) (shape' : Depth parent' depth' n)
    (same : (x : ℕ) → x < n → parent' x ≡ parent x) where
  pub trees_same : Trees parent' depth' n c
  trees_same = record {
    shape = shape';
    in_use = k.in_use;
    link = λ v l h. same (path c v) (k.in_use v l h) ∙ k.link v l h;
    compressed = both;
    sizes = λ v l. k.sizes v l ∙ size_same (uppers k) (compressed_forest (depth_forest shape') both) v (λ x i r. r) (λ x i r. r);
  }
    where
      near : (x : ℕ) → x < n → Near parent parent' (path c) (path c) (upper c) (upper c) x
      near x l = record {
        same_parent = same x l;
        same_upper = refl;
        above_parent = λ i. same (parent x) (k.shape.inside x l i);
        above_upper = λ _. refl;
        above_path = λ _ _. refl;
      }

      both : Compressed parent' (path c) (upper c) n
      both = from_step (depth_forest shape') (λ x l. step_copy (near x l) (upper_step k x l))
