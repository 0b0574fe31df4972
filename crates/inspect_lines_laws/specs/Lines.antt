-- Of inspection's rule 1 the lines and levels, as a test: what code can compare, row by row.
use Rattle.std.specs.Prelude.{Bool, ◌||◌, ◌&&◌, not, ℕ, ltb, eqb, ℤ, pos, ◌+ℤ◌, ◌-ℤ◌}
use Rattle.laws.specs.Test.{pick, all_to}
use Rattle.tree_laws.specs.Ancestor.{none, is_ancestor}
use Rattle.layer.specs.Layer.{Layer, parent, depth}
use Rattle.layer.specs.StoredTree.{first}
use Rattle.table.specs.Level.{eq_z}
use Rattle.table.specs.Table.{Table}
use Rattle.table.specs.PlainTree.{root}

-- r is a row of the tree whose first row is f
abbrev pub is_in_tree : Layer → ℕ → ℕ → Bool
is_in_tree t f r = ltb r t.count && eqb (first t r) f

-- the first row of a tree records such a row; what other rows record says nothing
abbrev pub is_rooted : Table → ℕ → Bool
is_rooted t f = not (eqb (parent t.layer f) none) || is_in_tree t.layer f (t.root f)

-- x is met on the way up from the root of its tree
abbrev pub is_on_line : Table → ℕ → Bool
is_on_line t x = is_ancestor (parent t.layer) (depth t.layer) x (root t x)

-- the level of x, where its parent's is l and it lies on the line or not
abbrev pub level_below : Bool → ℤ → ℤ
level_below line l = pick line (l -ℤ pos 1) (l +ℤ pos 1)

-- the level of x, which lies on the line or not
abbrev pub is_level_on : Table → Bool → ℕ → Bool
is_level_on t line x = pick (eqb (parent t.layer x) none) (eq_z (t.level x) (pos 0)) (eq_z (t.level x) (level_below line (t.level (parent t.layer x))))

abbrev pub are_roots : Table → Bool
are_roots t = all_to (is_rooted t) t.layer.count

abbrev pub are_levels : Table → Bool
are_levels t = all_to (λ x. is_level_on t (is_on_line t x) x) t.layer.count

-- rule 1, lines and levels
unfoldable pub are_lines : Table → Bool
are_lines t = are_roots t && are_levels t
