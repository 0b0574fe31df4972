-- The walk below a head before the first store (01, refusal 4: "the walk below a head meets other than s rows"), over the links as they will stand.
-- From the head going down to the head going up a walk of k rows takes 2k − 1 steps.
use Rattle.std.specs.Prelude.{Bool, true, false, ◌&&◌, ◌||◌, not, List, ℕ, zero, suc, eqb, Option, Some, None}
use Rattle.laws.specs.Test.{pick}
use Rattle.tree_laws.specs.Ancestor.{none}
use Rattle.join.specs.declared.attach.Leaf.{Leaf}
use Rattle.renumber.specs.declared.place.Place.{Place}
use Rattle.layer.specs.Row.{row_of}
use Rattle.layer.specs.Checked.{is_row}
use Rattle.join.specs.Attach.{first_after, next_after, parent_after}

-- row c is the leaf, or holds nothing out of range
unfoldable pub is_readable : List ℕ → List ℕ → ℕ → Leaf → ℕ → Bool
is_readable f m n leaf c = eqb c leaf.row || is_row n (row_of f m) c

-- down into c, or up out of v where c is none; nowhere where c is not as it should be, a child of v
unfoldable pub entered : List ℕ → List ℕ → ℕ → Leaf → ℕ → ℕ → Option Place
entered f m n leaf v c =
    pick (eqb c none) (Some (record { row = v; down = false }))
    (pick (is_readable f m n leaf c && eqb (parent_after f leaf c) v) (Some (record { row = c; down = true })) None)

-- up out of a row: to its next sibling or its parent, but not out of the head
unfoldable pub left_row : List ℕ → List ℕ → ℕ → Leaf → ℕ → ℕ → Option Place
left_row f m n leaf head v = pick (eqb v head) None (entered f m n leaf (parent_after f leaf v) (next_after f leaf v))

-- one step
unfoldable pub check_turn : List ℕ → List ℕ → ℕ → Leaf → ℕ → Place → Option Place
check_turn f m n leaf head t = pick t.down (entered f m n leaf t.row (first_after f leaf t.row)) (left_row f m n leaf head t.row)

-- one step from where the walk stands, if it stands anywhere
unfoldable pub turned : List ℕ → List ℕ → ℕ → Leaf → ℕ → Option Place → Option Place
turned f m n leaf head (Some t) = check_turn f m n leaf head t
turned f m n leaf head None = None

-- it stands at the head, going up
abbrev pub is_back : ℕ → Option Place → Bool
is_back head (Some t) = not t.down && eqb t.row head
is_back head None = false

-- so many steps lead back up to the head
unfoldable pub check_walk : ℕ → List ℕ → List ℕ → ℕ → Leaf → ℕ → Option Place → Bool
check_walk zero f m n leaf head q = is_back head q
check_walk (suc steps) f m n leaf head q = check_walk steps f m n leaf head (turned f m n leaf head q)
