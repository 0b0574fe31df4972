-- Growth: the outcome, all parts and the tally afterwards, of a first node, a new leaf and a new root, on every table and every tally.
use Rattle.std.specs.Prelude.{Bool, List, ℕ, pos, Result as Fallible, Ok, Err}
use Rattle.laws.specs.Test.{pick}
use Rattle.table.specs.declared.refusal.Refusal.{Refusal}
use Rattle.table.specs.declared.refusal.Refusal.TheVariants.{Misfit, Corrupt}
use Rattle.table.specs.declared.state.State.{State}
use Rattle.table.specs.Parts.{Parts, parts_of, with_level}
use Rattle.table.specs.Capacity.{on_fit}
use Rattle.table.specs.Scratch.{fits_growth}
use Rattle.tally.specs.Fit.{capacity_with}
use Rattle.tally.specs.Count.{has_room, counted}
use Rattle.growth_plan.specs.declared.row.Plan.{Plan}
use Rattle.growth_plan.specs.declared.row.Planned.{Planned}
use Rattle.growth_plan.specs.declared.row.Planned.TheVariants.{Grow, Start}
use Rattle.counts.specs.Count.{one_more}
use Rattle.join.specs.Lone.{lone_numbers, lone_entries}
use Rattle.growth_store.specs.Store.{Stored, plan_stored}
use Rattle.growth_store.specs.Start.{started_fields}
use Rattle.growth_plan.specs.Plan.{first_plan, leaf_plan, over_plan, root_plan}
use Rattle.growth.specs.Outcome.{Outcome, refused, node}

-- the outcome, and the parts and the tally afterwards
pub record Result : Type 0 where
  pub outcome : Outcome
  pub parts : Parts
  pub tally : List ℕ

abbrev pub growth_result : Parts → List ℕ → Outcome → Result
growth_result t w o = record { outcome = o; parts = t; tally = w }

-- the outcome of a growth that was served: its row is the old count
abbrev pub node_at : ℕ → ℕ → ℕ → Outcome
node_at row rows head = node (one_more row) row rows head

-- a growth that was served: the head is the one of its seat, and there is a node more of its label. That is the new row's, or the opening that an old root
-- of label 0 takes: then the new row is a node more of label 0, and the old root one less (02: "where an old source takes it, entry 0 stays")
unfoldable pub served : List ℕ → Plan → Stored → Result
served w g s = growth_result s.parts (counted w g.marks.label) (node_at g.seat.leaf.row s.given g.seat.head.row)

-- a first node that was served: one row is numbered, and it heads itself; its label is 0
unfoldable pub started : Parts → List ℕ → ℕ → Result
started t w n =
    growth_result (parts_of (started_fields t.fields n) (lone_numbers t.numbers n) (with_level t.levels n (pos 0)) (lone_entries t.ancestors n))
    (counted w 0) (node_at n 1 n)

-- refused where the entry of the label would pass the capacity c
abbrev pub with_room : Parts → List ℕ → ℕ → ℕ → Result → Result
with_room t w c label r = pick (has_room w c label) r (growth_result t w (refused Corrupt))

-- by its plan, at capacity c: a refusal changes nothing
unfoldable pub grown_at : Parts → List ℕ → ℕ → Fallible Planned Refusal → Result
grown_at t w c (Ok (Grow g)) = with_room t w c g.marks.label (served w g (plan_stored t g.seat.leaf.row g))
grown_at t w c (Ok (Start n)) = with_room t w c 0 (started t w n)
grown_at t w c (Err r) = growth_result t w (refused r)

-- refused, since what was lent does not fit
abbrev pub misfit : Parts → List ℕ → Result
misfit t w = growth_result t w (refused Misfit)

-- with a scratch of this length, in parts and a tally that fit; of the scratch nothing but its length counts
unfoldable pub grown_by : Parts → List ℕ → ℕ → Fallible Planned Refusal → Result
grown_by t w scratch p = pick (fits_growth scratch) (on_fit (capacity_with t w) (λ c. grown_at t w c p) (misfit t w)) (misfit t w)

-- a first node
unfoldable pub add_first : Parts → List ℕ → ℕ → State → Result
add_first t w scratch s = grown_by t w scratch (first_plan t s)

-- a new leaf of this label and face under this parent
unfoldable pub add_leaf : Parts → List ℕ → ℕ → State → ℕ → ℕ → ℕ → Result
add_leaf t w scratch s parent label face = grown_by t w scratch (leaf_plan t s parent label face)

-- a new root over x, which takes the opening, where one is named (02: "A top shall name the opening, which becomes the old source's panel")
unfoldable pub add_over : Parts → List ℕ → ℕ → State → ℕ → Bool → ℕ → Result
add_over t w scratch s x named opening = grown_by t w scratch (over_plan t s x named opening)

-- a new root over that of the first tree; the first node where there is none
unfoldable pub add_root : Parts → List ℕ → ℕ → State → Bool → ℕ → Result
add_root t w scratch s named opening = grown_by t w scratch (root_plan t s named opening)
