-- The rows of a tree detached in the lent parts: its plain parents kept in the root fields, and each row standing alone.
use Rattle.std.specs.Prelude.{List, ℕ, zero, suc, eqb, ℤ}
use Rattle.laws.specs.Test.{pick}
use Rattle.tree_laws.specs.Ancestor.{none}
use Rattle.layer.specs.Layout.{parent_place, tree_place}
use Rattle.table.specs.Layout.{root_place}
use Rattle.table.specs.Parts.{Parts, parts_of}
use Rattle.layer.specs.Row.{field_at, entry_at}
use Rattle.layer.specs.Write.{with_field}
use Rattle.renumber.specs.NumberWalk.{Written, written}
use Rattle.join.specs.Lone.{lone_fields, lone_numbers, lone_entries}

-- row w, where it is of the tree, keeps its stored parent as a root
unfoldable pub kept_parent : List ℕ → ℕ → ℕ → List ℕ → List ℕ
kept_parent a tree w f = pick (eqb (entry_at a w tree_place) tree) (with_field f w root_place (field_at f w parent_place)) f

-- the m rows from w on
unfoldable pub kept_parents : List ℕ → ℕ → ℕ → ℕ → List ℕ → List ℕ
kept_parents a tree zero w f = f
kept_parents a tree (suc m) w f = kept_parents a tree m (suc w) (kept_parent a tree w f)

-- from z up: z comes under `under`, the row above z under z, and so on
unfoldable pub turned_line : ℕ → List ℕ → ℕ → ℕ → List ℕ
turned_line zero f z under = with_field f z root_place under
turned_line (suc k) f z under =
    pick (eqb (field_at f z parent_place) none) (with_field f z root_place under)
    (turned_line k (with_field f z root_place under) (field_at f z parent_place) z)

-- row x stands alone
abbrev pub lonely : Written → ℕ → Written
lonely p x = written (lone_fields p.fields x) (lone_numbers p.numbers x) (lone_entries p.ancestors x)

-- row w, where it is of the tree, stands alone
unfoldable pub parted_row : ℕ → ℕ → Written → Written
parted_row tree w p = pick (eqb (entry_at p.ancestors w tree_place) tree) (lonely p w) p

-- the m rows from w on
unfoldable pub parted_rows : ℕ → ℕ → ℕ → Written → Written
parted_rows tree zero w p = p
parted_rows tree (suc m) w p = parted_rows tree m (suc w) (parted_row tree w p)

-- the targets of the rows of the tree, whose root x is to come under v, stand in their root fields
unfoldable pub turned_fields : List ℕ → List ℕ → ℕ → ℕ → ℕ → ℕ → List ℕ
turned_fields f a n tree x v = turned_line n (kept_parents a tree n 0 f) x v

unfoldable pub detached_from : Written → ℕ → ℕ → ℕ → ℕ → Written
detached_from p n tree x v = parted_rows tree n 0 (written (turned_fields p.fields p.ancestors n tree x v) p.numbers p.ancestors)

-- levels stay
abbrev pub with_levels : List ℤ → Written → Parts
with_levels l p = parts_of p.fields p.numbers l p.ancestors

unfoldable pub detached : Parts → ℕ → ℕ → ℕ → ℕ → Parts
detached p n tree x v = with_levels p.levels (detached_from (written p.fields p.numbers p.ancestors) n tree x v)
