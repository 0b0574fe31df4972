-- The rules of a layer: stored trees, and rules 2 to 6 of inspection, in 01's order and words, a field for each sentence. Whole numbers of any width.
use Rattle.std.specs.Prelude.{◌≡◌, ℕ, ◌<◌, ◌≤◌, ◌≢◌}
use Rattle.tree_laws.specs.Ancestor.{none}
use Rattle.span.specs.Constants.{rows}
use Rattle.layer.specs.Layer.{Layer, parent, upper, start, next_free}
use Rattle.layer.specs.StoredTree.{Depth, ChildLinks}
use Rattle.layer.specs.CompressedTree.{PathLink, Upper, Size, SetSize, SmallChild}
use Rattle.layer.specs.Spans.{q, Apart, Inside, Dense}
use Rattle.layer.specs.Entries.{Entries}

-- the most rows of a layer: with more, a number could pass 5 × 2^60
abbrev pub row_limit : ℕ
row_limit = rows

-- what holds of every row in use
abbrev pub Each : Layer → (ℕ → Type 0) → Type 0
Each t P = (x : ℕ) → x < t.count → P x

-- 1, of which a layer knows the trees: the count is within the limit; parents, depths and child links record trees
pub record StoredTrees (limit : ℕ) (t : Layer) : Type 0 where
  pub count : t.count ≤ limit
  pub inside : Each t (λ x. parent t x ≢ none → parent t x < t.count)
  pub depth : Each t (Depth t)
  pub children : Each t (ChildLinks t)

-- 2: each path follows stored links; upper rows and sizes are true
pub record Compressed (t : Layer) : Type 0 where
  pub path : Each t (PathLink t)
  pub upper : Each t (Upper t)
  pub size : Each t (Size t)

-- 5: spans of compressed children are disjoint and lie between p and next free; next free is at most q; few numbers are used; the
-- first row of each tree starts at 0
pub record Nested (t : Layer) : Type 0 where
  pub apart : Each t (λ v. Each t (λ w. v ≢ w → upper t v ≢ none → upper t v ≡ upper t w → Apart t v w))
  pub inside : Each t (Inside t)
  pub room : Each t (λ x. next_free t x ≤ q t x)
  pub dense : Each t (Dense t)
  pub first : Each t (λ x. parent t x ≡ none → start t x ≡ 0)

-- the trees of a layer are numbered
pub record Numbered (t : Layer) : Type 0 where
  pub one : StoredTrees row_limit t
  pub two : Compressed t
  pub three : Each t (SetSize t)
  pub four : Each t (SmallChild t)
  pub five : Nested t
  pub six : Each t (Entries t)
