-- The stores of a link, on every table: the outcome of its joinings, in the lent parts.
use Rattle.std.specs.Prelude.{ℕ, ◌*◌}
use Rattle.table.specs.Parts.{Parts, level_at}
use Rattle.growth_store.specs.Store.{Stored}
use Rattle.link_store.specs.Sort.{Sorted, cell_at, sorted_rows}
use Rattle.link_store.specs.Detach.{detached}
use Rattle.link_store.specs.Walk.{walking, joining, join_walk}

-- the rows of the tree sorted, detached, and joined in their order; two turns for each row in use are enough
unfoldable pub joined_tree : Parts → ℕ → ℕ → ℕ → ℕ → ℕ → ℕ → Stored
joined_tree p c n tree x v door =
    let s : Sorted = sorted_rows c p.levels p.ancestors n tree (level_at p.levels x) in
    join_walk (2 * n) (cell_at s.heads) (cell_at s.links) n x door (walking (detached p n tree x v) (joining (cell_at s.heads 0) 0 0))
