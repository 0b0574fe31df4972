-- Paths, compressed parents and sizes (01, "Stored tree, paths and spans"; inspection's rules 2 to 4).
use Rattle.std.specs.Prelude.{◌≡◌, ℕ, ◌+◌, ◌*◌, ◌<◌, ◌≤◌, ◌≢◌}
use Rattle.tree_laws.specs.Ancestor.{none}
use Rattle.tree_laws.specs.Compressed.{FirstApex}
use Rattle.tree_laws.specs.Size.{size as size_in}
use Rattle.span.specs.Constants.{growth_up, growth_down}
use Rattle.layer.specs.Layer.{Layer, parent, depth, upper, path, size, set_size}
use Rattle.layer.specs.StoredTree.{Child}

-- a path goes from each row by its path link to one of its stored children, so it has one row per depth
abbrev pub PathLink : Layer → ℕ → Type 0
PathLink t x = path t x ≢ none → Child t x (path t x)

-- the compressed parent: the first proper stored ancestor that is an apex
pub record Upper (t : Layer) (x : ℕ) : Type 0 where
  pub root : parent t x ≡ none → upper t x ≡ none
  pub first : parent t x ≢ none → FirstApex (parent t) (path t) x (upper t x)

-- the size: how many rows lie at or below x in the compressed tree
abbrev pub Size : Layer → ℕ → Type 0
Size t x = size t x ≡ size_in (upper t) (depth t) t.count x

-- the set size: at least 1, at most the size, and not yet outgrown
pub record SetSize (t : Layer) (x : ℕ) : Type 0 where
  pub positive : 1 ≤ set_size t x
  pub most : set_size t x ≤ size t x
  pub growth : growth_down * size t x < growth_up * set_size t x

-- a compressed child is small beside its compressed parent u: 2 s(x) ≤ 2 s(u) − σ(u)
abbrev pub SmallChild : Layer → ℕ → Type 0
SmallChild t x = upper t x ≢ none → 2 * size t x + set_size t (upper t x) ≤ 2 * size t (upper t x)
