-- The spans of a numbered layer are nested as its compressed tree is: p is a fat preorder numbering (Gabow, section 2).
use Rattle.std.specs.Prelude.{ℕ, ◌≤◌, ◌<◌}
use Rattle.layer.specs.Layer.{Layer, start}
use Rattle.layer.specs.Spans.{p, q, end}

-- the span of x lies within that of a
pub record Enclosed (t : Layer) (a x : ℕ) : Type 0 where
  pub low : start t a ≤ start t x
  pub high : end t x ≤ end t a

-- row a covers the number n
pub record Covers (t : Layer) (a n : ℕ) : Type 0 where
  pub low : p t a ≤ n
  pub high : n < q t a
