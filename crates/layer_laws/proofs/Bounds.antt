-- Every number of a numbered layer is small (01, "Every number stays at or below 5 × 2^60").
use Rattle.std.specs.Prelude.{ℕ, ◌≤◌, ◌<◌}
use Rattle.std.proofs.Common.{arith}
use Rattle.laws.specs.Fourth.{fourth_le}
use Rattle.tree_laws.specs.AncestorLaws.{anc_in, root_of}
use Rattle.tree_laws.specs.SizeDepth.{size_le}
use Rattle.span.specs.Constants.{limit}
use Rattle.span.specs.NumberLaws.{limit_span}
use Rattle.layer.specs.Layer.{Layer, depth, upper, size, set_size, next_free}
use Rattle.layer.specs.Spans.{p, q, end}
use Rattle.layer.specs.Numbered.{row_limit, Numbered}
use Rattle.layer_laws.proofs.Numbered.{compressed_tree, root_stored}
use Rattle.layer_laws.specs.Step.{distance}
use Rattle.layer_laws.proofs.Nesting.{anc_enclosed}

-- no number of row x is out of range
pub record Bounded (t : Layer) (x : ℕ) : Type 0 where
  pub size : size t x ≤ t.count
  pub set_size : set_size t x ≤ t.count
  pub p : p t x ≤ limit
  pub q : q t x ≤ limit
  pub end : end t x ≤ limit
  pub next_free : next_free t x ≤ limit

module _ {t : Layer} (r : Numbered t) where
  sizes_small : (x : ℕ) → x < t.count → (size t x ≤ t.count) × (set_size t x ≤ t.count)
  sizes_small x l = omega (arith, size_le (upper t) (depth t) t.count x, r.two.size x l, (r.three x l).most)

  -- a span lies within that of the root over it, which starts at 0 and is no wider than the limit
  pub end_small : (x : ℕ) → x < t.count → end t x ≤ limit
  end_small x l =
      let o = root_of (compressed_tree r) x l in
      let i : o.root < t.count = anc_in (compressed_tree r) l o.over in
      let f : set_size t o.root ≤ row_limit = omega (arith, sizes_small o.root i, r.one.count) in
      omega (arith, limit_span, fourth_le f, anc_enclosed r l o.over, r.five.first o.root i (root_stored r o.root i o.top))

  pub numbers_small : (x : ℕ) → x < t.count → Bounded t x
  numbers_small x l =
      let e = end_small x l in
      let s = sizes_small x l in
      record {
        size = s.0;
        set_size = s.1;
        p = omega arith;
        q = omega arith;
        end = e;
        next_free = omega (arith, r.five.room x l);
      }

  pub distance_small : (x y : ℕ) → x < t.count → y < t.count → distance t x y ≤ limit
  distance_small x y l m = omega (arith, end_small x l, end_small y m)
