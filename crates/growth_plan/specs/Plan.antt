-- What a growth decides before its first store: the refusals in their order (first node 3, 2, 4; leaf 3, 1, 5, 13, 2, 4; new root over x 3, 1, 5, 4, 10, 2,
-- 4; 01's new root 3, 5, 2, 4), then the plan of a row that joins. Whether the tally and the scratch fit, which is 3 too, is looked at in `growth`.
use Rattle.std.specs.Prelude.{Bool, true, false, ◌&&◌, not, ℕ, eqb, leb, ltb, pos, ◌+ℤ◌, ◌-ℤ◌, Result, Ok, Err}
use Rattle.laws.specs.Test.{pick}
use Rattle.tree_laws.specs.Ancestor.{none}
use Rattle.table.specs.declared.refusal.Refusal.{Refusal}
use Rattle.table.specs.declared.refusal.Refusal.TheVariants.{UnknownNode, Full, Misfit, Corrupt, BadLabel, NotRoot, BadFace}
use Rattle.table.specs.declared.state.State.{State}
use Rattle.table.specs.Parts.{Parts, level_at}
use Rattle.table.specs.Capacity.{capacity_of, on_fit}
use Rattle.table.specs.State.{is_standing}
use Rattle.table.specs.Tree.{tree_at, root_at}
use Rattle.table.specs.Rules.{label_limit, face_limit}
use Rattle.growth_plan.specs.declared.row.Planned.{Planned}
use Rattle.growth_plan.specs.declared.row.Planned.TheVariants.{Start}
use Rattle.growth_plan.specs.PlannedRow.{marks_of, planned_row}
use Rattle.growth_plan.specs.Level.{level_from, on_level}

-- refused unless a test holds
abbrev pub provided : Bool → Refusal → Result Planned Refusal → Result Planned Refusal
provided b r p = pick b p (Err r)

abbrev pub is_label : ℕ → Bool
is_label label = leb 1 label && leb label label_limit

abbrev pub is_face : ℕ → Bool
is_face face = leb face face_limit

-- an opening, the label that an old root takes, is looked at where one is named (02: "refusal 5 applies where it does")
abbrev pub is_opening : Bool → ℕ → Bool
is_opening true opening = is_label opening
is_opening false opening = true

-- a leaf in parts that fit the capacity c; the root of the parent's tree is looked at, 01's "source not below the count"
unfoldable pub leaf_within : Parts → ℕ → State → ℕ → ℕ → ℕ → Result Planned Refusal
leaf_within t c s parent label face =
    provided (ltb parent s.count) UnknownNode
    (provided (is_label label) BadLabel
    (provided (is_face face) BadFace
    (provided (not (eqb s.count c)) Full
    (provided (is_standing c s) Corrupt
    (provided (not (eqb (root_at t.fields t.ancestors s.count parent) none)) Corrupt
    (on_level (level_from (level_at t.levels parent) (level_at t.levels parent +ℤ pos 1))
    (λ level. planned_row t.fields t.numbers t.ancestors s.count s.count parent (marks_of level s.count label face none))
    (Err Corrupt)))))))

-- a leaf of this label and face under this parent
unfoldable pub leaf_plan : Parts → State → ℕ → ℕ → ℕ → Result Planned Refusal
leaf_plan t s parent label face = on_fit (capacity_of t) (λ c. leaf_within t c s parent label face) (Err Misfit)

-- a first node in parts that fit the capacity c
unfoldable pub first_within : ℕ → State → Result Planned Refusal
first_within c s =
    provided (not (eqb s.count c)) Full
    (provided (is_standing c s) Corrupt
    (Ok (Start s.count)))

unfoldable pub first_plan : Parts → State → Result Planned Refusal
first_plan t s = on_fit (capacity_of t) (λ c. first_within c s) (Err Misfit)

-- a new root over r, the root of the tree whose first row is tree: where an opening is named, r takes it as its label, else the new row takes label 0; the
-- face is the front (02: "tag 1 means front, as do sources, openings and doors")
unfoldable pub root_over : Parts → State → ℕ → ℕ → Bool → ℕ → Result Planned Refusal
root_over t s tree r named opening =
    on_level (level_from (level_at t.levels r) (level_at t.levels r -ℤ pos 1))
    (λ level. planned_row t.fields t.numbers t.ancestors s.count s.count r
    (marks_of level (pick named r s.count) (pick named opening 0) 0 tree))
    (Err Corrupt)

-- a new root over x in parts that fit the capacity c
unfoldable pub over_within : Parts → ℕ → State → ℕ → Bool → ℕ → Result Planned Refusal
over_within t c s x named opening =
    provided (ltb x s.count) UnknownNode
    (provided (is_opening named opening) BadLabel
    (provided (is_standing c s) Corrupt
    (provided (not (eqb (root_at t.fields t.ancestors s.count x) none)) Corrupt
    (provided (eqb (root_at t.fields t.ancestors s.count x) x) NotRoot
    (provided (not (eqb s.count c)) Full
    (root_over t s (tree_at t.ancestors s.count x) x named opening))))))

unfoldable pub over_plan : Parts → State → ℕ → Bool → ℕ → Result Planned Refusal
over_plan t s x named opening = on_fit (capacity_of t) (λ c. over_within t c s x named opening) (Err Misfit)

-- a first node where there is none, else a new root over the root of the first tree, that of row 0, in parts that fit the capacity c (01's; 02, "a
-- log and a byte tree keep to the first tree"; "On an empty tree a named opening is checked and otherwise unused")
unfoldable pub root_within : Parts → ℕ → State → Bool → ℕ → Result Planned Refusal
root_within t c s named opening =
    provided (is_opening named opening) BadLabel
    (provided (not (eqb s.count c)) Full
    (provided (is_standing c s) Corrupt
    (pick (eqb s.count 0) (Ok (Start 0))
    (provided (not (eqb (root_at t.fields t.ancestors s.count 0) none)) Corrupt
    (root_over t s (tree_at t.ancestors s.count 0) (root_at t.fields t.ancestors s.count 0) named opening)))))

unfoldable pub root_plan : Parts → State → Bool → ℕ → Result Planned Refusal
root_plan t s named opening = on_fit (capacity_of t) (λ c. root_within t c s named opening) (Err Misfit)
