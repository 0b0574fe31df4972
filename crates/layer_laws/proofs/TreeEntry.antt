-- The last ancestor entry of a row is the first row of its tree: every reach within a layer lies below the last power.
use Rattle.std.specs.Prelude.{◌≡◌, ℕ, suc, ◌≤◌, ◌<◌}
use Rattle.std.proofs.Common.{◌∙◌, inl, inr, arith, leb→le}
use Rattle.laws.specs.Fourth.{fourth, fourth_le}
use Rattle.tree_laws.specs.AncestorLaws.{cases, anc_in, root_of}
use Rattle.tree_laws.specs.Ancestor.{Anc}
use Rattle.tree_laws.specs.SizeDepth.{size_le}
use Rattle.span.specs.Numbers.{reach_of}
use Rattle.span.specs.Power.{power}
use Rattle.span.specs.PowerLaws.{power_below}
use Rattle.layer.specs.StoredTree.{first}
use Rattle.layer.specs.Layer.{Layer, upper, depth, set_size}
use Rattle.layer.specs.Spans.{reach}
use Rattle.layer.specs.Entries.{BelowPower, Entry, absent, highest}
use Rattle.layer.specs.Numbered.{row_limit, Numbered}
use Rattle.layer.specs.Layout.{tree_place}
use Rattle.layer_laws.proofs.Numbered.{compressed_tree, root_first}

-- 3 · 2⁶⁰ lies below (10/7)^121
reach_power : reach_of row_limit < power tree_place
unfolding power fourth
reach_power = leb→le (suc (reach_of row_limit)) (power tree_place) tt

module _ {t : Layer} (r : Numbered t) where
  every_below : (x : ℕ) → x < t.count → BelowPower t tree_place x
  every_below x l =
      let small : set_size t x ≤ row_limit = omega (arith, (r.three x l).most, r.two.size x l, size_le (upper t) (depth t) t.count x, r.one.count) in
      power_below tree_place (reach t x) (omega (arith, reach_power, fourth_le small))

  pub entry_first : (x : ℕ) → x < t.count → t.entry x tree_place ≡ first t x
  entry_first x l = go (r.six x l tree_place (omega arith)) ∙ root_first r x l
    where
      top : Anc (upper t) (root_of (compressed_tree r) x l).root x
      top = (root_of (compressed_tree r) x l).over

      go : {e : ℕ} → Entry t tree_place x e → e ≡ (root_of (compressed_tree r) x l).root
      go (absent f) = absurd (f (root_of (compressed_tree r) x l).root top (every_below _ (anc_in (compressed_tree r) l top)))
      go (highest {b = b} p h f) =
          elim (cases (f (root_of (compressed_tree r) x l).root top (every_below _ (anc_in (compressed_tree r) l top)))) [
            | inl e ↦ e
            | inr s ↦ absurd (s.0 (root_of (compressed_tree r) x l).top)
          ]
