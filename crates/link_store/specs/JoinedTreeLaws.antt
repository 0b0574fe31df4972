-- The stores of a link from what each call leaves.
use Rattle.std.specs.Prelude.{◌≡◌, List, ℕ, ◌*◌}
use Rattle.table.specs.Parts.{Parts, parts_of, level_at}
use Rattle.renumber.specs.NumberWalk.{written}
use Rattle.growth_store.specs.Store.{Stored}
use Rattle.link_store.specs.Detach.{detached_from, detached}
use Rattle.link_store.specs.JoinedTree.{joined_tree}
use Rattle.link_store.specs.Sort.{Sorted, cell_at, sorted, sorted_rows}
use Rattle.link_store.specs.Walk.{walking, joining, join_walk}

pub tree_joined : (p : Parts) (c n tree x v door : ℕ) (heads links f m a : List ℕ) (o : Stored)
    → sorted heads links ≡ sorted_rows c p.levels p.ancestors n tree (level_at p.levels x)
    → written f m a ≡ detached_from (written p.fields p.numbers p.ancestors) n tree x v
    → o ≡ join_walk (2 * n) (cell_at heads) (cell_at links) n x door (walking (parts_of f m p.levels a) (joining (cell_at heads 0) 0 0))
    → o ≡ joined_tree p c n tree x v door
unfolding joined_tree detached
tree_joined p c n tree x v door heads links f m a o e h i = rw (← e, ← h) i

-- the rows sorted in the same parts, read
pub sorted_same : (p q : Parts) (c n tree x : ℕ) {s : Sorted} → p ≡ q → s ≡ sorted_rows c p.levels p.ancestors n tree (level_at p.levels x)
    → s ≡ sorted_rows c q.levels q.ancestors n tree (level_at q.levels x)
sorted_same p q c n tree x e h = rw e at h
