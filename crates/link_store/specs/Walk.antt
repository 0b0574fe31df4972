-- The walk over the depths of a tree that joins its rows: from the head of a depth along the links, then on to the next depth.
use Rattle.std.specs.Prelude.{ℕ, zero, suc, ◌+◌, eqb, leb, ltb}
use Rattle.laws.specs.Test.{pick}
use Rattle.tree_laws.specs.Ancestor.{none}
use Rattle.table.specs.Parts.{Parts}
use Rattle.growth_store.specs.Store.{Stored, stored}
use Rattle.link_store.specs.declared.joins.Joining.{Joining}
use Rattle.link_store.specs.JoinRow.{join_row}

-- a number of 32 bits: the greatest one for those above
unfoldable pub within32 : ℕ → ℕ
within32 k = pick (leb k 4294967295) k 4294967295

-- where the walk stands, and what it has stored
pub record Walking : Type 0 where
  pub parts : Parts
  pub place : Joining

abbrev pub walking : Parts → Joining → Walking
walking p j = record { parts = p; place = j }

-- row `row` of depth `depth`, where so many rows have been renumbered
abbrev pub joining : ℕ → ℕ → ℕ → Joining
joining row depth k = record { row = row; depth = depth; rows = k }

-- the row joins, and the walk goes on to the next of its depth
unfoldable pub joined_on : Stored → ℕ → ℕ → ℕ → Walking
joined_on o next depth k = walking o.parts (joining next depth (within32 (k + o.given)))

-- on to the next depth; after the last one the walk stays where it is
unfoldable pub next_depth : (ℕ → ℕ) → ℕ → Joining → Joining
next_depth heads n j = pick (ltb (j.depth + 1) n) (joining (heads (j.depth + 1)) (j.depth + 1) j.rows) j

-- one turn
unfoldable pub join_turn : (ℕ → ℕ) → (ℕ → ℕ) → ℕ → ℕ → ℕ → Walking → Walking
join_turn heads links n x door w =
    pick (eqb w.place.row none)
    (walking w.parts (next_depth heads n w.place))
    (joined_on (join_row w.parts n x door w.place.row) (links w.place.row) w.place.depth w.place.rows)

-- so many turns
unfoldable pub join_walk : ℕ → (ℕ → ℕ) → (ℕ → ℕ) → ℕ → ℕ → ℕ → Walking → Stored
join_walk zero heads links n x door w = stored w.parts w.place.rows
join_walk (suc s) heads links n x door w = join_walk s heads links n x door (join_turn heads links n x door w)
