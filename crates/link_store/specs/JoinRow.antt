-- The joins of a link in the lent parts: a row that stands alone comes under the row that its root field names.
use Rattle.std.specs.Prelude.{Result, Ok, Err, List, [], ◌∷◌, ℕ, ◌+◌, eqb, pos, ◌+ℤ◌}
use Rattle.laws.specs.Test.{pick}
use Rattle.tree_laws.specs.Ancestor.{none}
use Rattle.table.specs.Layout.{label_place, face_place, root_place}
use Rattle.table.specs.declared.refusal.Refusal.{Refusal}
use Rattle.table.specs.Parts.{Parts, level_at}
use Rattle.layer.specs.Row.{field_at}
use Rattle.growth_plan.specs.declared.row.Planned.{Planned}
use Rattle.growth_plan.specs.declared.row.Planned.TheVariants.{Grow, Start}
use Rattle.growth_plan.specs.PlannedRow.{marks_of, planned_row}
use Rattle.growth_store.specs.Store.{Stored, stored, plan_stored}
use Rattle.growth_plan.specs.Level.{level_from, on_level}

-- what was planned: the stores, or nothing
unfoldable pub planned_stored : Parts → ℕ → Result Planned Refusal → Stored
planned_stored p n (Ok (Grow g)) = plan_stored p n g
planned_stored p n (Ok (Start k)) = stored p 0
planned_stored p n (Err r) = stored p 0

-- row z under v, of this label and face, one level below v
unfoldable pub joined_under : Parts → ℕ → ℕ → ℕ → ℕ → ℕ → Stored
joined_under p n z v label face =
    on_level (level_from (level_at p.levels v) (level_at p.levels v +ℤ pos 1))
    (λ level. planned_stored p n (planned_row p.fields p.numbers p.ancestors n z v (marks_of level z label face none)))
    (stored p 0)

-- the number of row z at a place: v where z is the root x that is linked, else its own
abbrev pub number_for : List ℕ → ℕ → ℕ → ℕ → ℕ → ℕ
number_for f place x v z = pick (eqb z x) v (field_at f z place)

-- row z of a tree whose root x is linked: x takes the label `door`, and a door is front
unfoldable pub join_row : Parts → ℕ → ℕ → ℕ → ℕ → Stored
join_row p n x door z = joined_under p n z (field_at p.fields z root_place) (number_for p.fields label_place x door z) (number_for p.fields face_place x 0 z)

-- the rows of a list, one after another, and the rows renumbered, added up
unfoldable pub join_all : Parts → ℕ → ℕ → ℕ → List ℕ → Stored
join_all p n x door [] = stored p 0
join_all p n x door (z ∷ zs) =
    let o : Stored = join_row p n x door z in
    let rest : Stored = join_all o.parts n x door zs in
    stored rest.parts (o.given + rest.given)
