-- Of inspection's rule 1 the trees, as a test: what code can compare, row by row. The count is compared elsewhere.
use Rattle.std.specs.Prelude.{Bool, ◌||◌, ◌&&◌, not, ℕ, ◌+◌, ltb, eqb}
use Rattle.laws.specs.Test.{pick, all_to}
use Rattle.laws.specs.Sum.{sum_to, count_to}
use Rattle.tree_laws.specs.Ancestor.{none}
use Rattle.tree_laws.specs.Chains.{Followed, followed, is_root}
use Rattle.layer.specs.Layer.{Layer, parent, depth}

-- a row has no stored parent, or a row in use
abbrev pub is_parent : Layer → ℕ → Bool
is_parent t x = eqb (parent t x) none || ltb (parent t x) t.count

abbrev pub is_depth : Layer → ℕ → Bool
is_depth t x = pick (eqb (parent t x) none) (eqb (depth t x) 0) (eqb (depth t x) (depth t (parent t x) + 1))

-- the children of x that are met from its first on along the next links
abbrev pub chain_of : Layer → ℕ → Followed
chain_of t x = followed (parent t) (λ w. (t.row w).next) t.count x t.count (t.row x).first 0 none

-- the first row of a tree has no siblings
abbrev pub is_alone : Layer → ℕ → Bool
is_alone t x = not (eqb (parent t x) none) || eqb (t.row x).next none

-- the chain of x ends, at the last child
abbrev pub is_linked : Layer → ℕ → Bool
is_linked t x = (chain_of t x).ok && (eqb (t.row x).last (chain_of t x).last && is_alone t x)

-- the rows met on all chains, and the first rows of trees
abbrev pub rows_met : Layer → ℕ
rows_met t = sum_to (λ x. (chain_of t x).met) t.count + count_to (is_root (parent t) t.count) t.count

-- parents and depths; child links, where each row is met
abbrev pub are_parents : Layer → Bool
are_parents t = all_to (λ x. is_parent t x && is_depth t x) t.count

abbrev pub are_links : Layer → Bool
are_links t = all_to (is_linked t) t.count && eqb (rows_met t) t.count

-- rule 1, the trees
unfoldable pub are_trees : Layer → Bool
are_trees t = are_parents t && are_links t
