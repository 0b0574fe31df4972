-- The joins and the walk from what each call leaves.
use Rattle.std.specs.Prelude.{◌≡◌, ◌≢◌, Option, Some, None, Result, Ok, Err, ℕ, suc, ◌+◌, ◌-◌, ◌≤◌, ◌<◌, ℤ, pos, ◌+ℤ◌}
use Rattle.std.proofs.Common.{arith, eq-eqb, ne_eqb, le-leb, lt-ltb, le-ltb}
use Rattle.std.proofs.lemmas.Bool.{lt-leb}
use Rattle.tree_laws.specs.Ancestor.{none}
use Rattle.table.specs.Layout.{label_place, face_place, root_place}
use Rattle.table.specs.declared.refusal.Refusal.{Refusal}
use Rattle.table.specs.Parts.{Parts, level_at}
use Rattle.layer.specs.Checked.{Holds}
use Rattle.layer.specs.Row.{field_at}
use Rattle.growth_plan.specs.declared.row.Plan.{Plan}
use Rattle.growth_plan.specs.declared.row.Planned.{Planned}
use Rattle.growth_plan.specs.declared.row.Planned.TheVariants.{Grow, Start}
use Rattle.growth_plan.specs.PlannedRow.{marks_of, planned_row}
use Rattle.growth_store.specs.Store.{Stored, stored, plan_stored}
use Rattle.growth_plan.specs.Level.{level_from}
use Rattle.link_store.specs.declared.joins.Joining.{Joining}
use Rattle.link_store.specs.JoinRow.{number_for, planned_stored, joined_under, join_row}
use Rattle.link_store.specs.Walk.{within32, walking, joining, joined_on, next_depth, join_turn, join_walk}

-- one join

pub store_grown : (p : Parts) (n : ℕ) (o : Stored) (q : Result Planned Refusal) (g : Plan) → q ≡ Ok (Grow g) → o ≡ plan_stored p n g → o ≡ planned_stored p n q
unfolding planned_stored
store_grown p n o q g e h = rw e h

pub store_start : (p : Parts) (n : ℕ) (q : Result Planned Refusal) (k : ℕ) → q ≡ Ok (Start k) → stored p 0 ≡ planned_stored p n q
unfolding planned_stored
store_start p n q k e = rw e

pub store_refused : (p : Parts) (n : ℕ) (q : Result Planned Refusal) (r : Refusal) → q ≡ Err r → stored p 0 ≡ planned_stored p n q
unfolding planned_stored
store_refused p n q r e = rw e

module _ (p : Parts) (n x door z : ℕ) {v : ℕ} {level : Option ℤ} (under : v ≡ field_at p.fields z root_place)
    (told : level ≡ level_from (level_at p.levels v) (level_at p.levels v +ℤ pos 1)) where
  pub join_out : level ≡ None → stored p 0 ≡ join_row p n x door z
  unfolding join_row joined_under
  join_out e = rw (← under, ← told, e)

  pub join_at : {k : ℤ} {label face : ℕ} {planned : Result Planned Refusal} {o : Stored} → level ≡ Some k → label ≡ number_for p.fields label_place x door z
      → face ≡ number_for p.fields face_place x 0 z
      → planned ≡ planned_row p.fields p.numbers p.ancestors n z v (marks_of k z label face none) → o ≡ planned_stored p n planned → o ≡ join_row p n x door z
  unfolding join_row joined_under
  join_at e f i g h = rw (← under, ← told, e, ← f, ← i, ← g) h

-- the same parts, read, hold as many rows
pub holds_same : (p q : Parts) (n : ℕ) → p ≡ q → Holds n q.fields q.numbers → Holds n p.fields p.numbers
holds_same p q n e h = rw e h

-- sums

pub rows_most : (total more : ℕ) → total ≤ 4294967295 → 4294967295 - total < more → 4294967295 ≡ within32 (total + more)
unfolding within32
rows_most total more l h = rw (lt-leb (total + more) 4294967295 (omega arith))

pub rows_sum : (total more : ℕ) → total ≤ 4294967295 → more ≤ 4294967295 - total → total + more ≡ within32 (total + more)
unfolding within32
rows_sum total more l h = rw (le-leb (total + more) 4294967295 (omega arith))

-- turns

pub depth_last : (heads : ℕ → ℕ) (n : ℕ) (j : Joining) → n ≤ j.depth + 1 → j ≡ next_depth heads n j
unfolding next_depth
depth_last heads n j l = rw (le-ltb (j.depth + 1) n l)

pub depth_next : (heads : ℕ → ℕ) (n : ℕ) (j : Joining) {row : ℕ} → j.depth + 1 < n → row ≡ heads (j.depth + 1)
    → joining row (j.depth + 1) j.rows ≡ next_depth heads n j
unfolding next_depth
depth_next heads n j l e = rw (lt-ltb (j.depth + 1) n l, e)

module _ (heads links : ℕ → ℕ) (n x door : ℕ) where
  pub turn_depth : (p : Parts) (j r : Joining) → j.row ≡ none → r ≡ next_depth heads n j → walking p r ≡ join_turn heads links n x door (walking p j)
  unfolding join_turn
  turn_depth p j r e h = rw (eq-eqb j.row none e, h)

  pub turn_row : (p q : Parts) (j : Joining) {next rows total : ℕ} → j.row ≢ none → next ≡ links j.row → stored q rows ≡ join_row p n x door j.row
      → total ≡ within32 (j.rows + rows) → walking q (joining next j.depth total) ≡ join_turn heads links n x door (walking p j)
  unfolding join_turn joined_on
  turn_row p q j d e h k = rw (ne_eqb j.row none d, ← h, e, k)

  pub walk_on : (p q : Parts) (j r : Joining) (steps k : ℕ) → steps ≡ suc k → walking q r ≡ join_turn heads links n x door (walking p j)
      → join_walk steps heads links n x door (walking p j) ≡ join_walk k heads links n x door (walking q r)
  unfolding join_walk
  walk_on p q j r steps k e h = rw (e, ← h)

  pub walk_end : (p : Parts) (j : Joining) (steps : ℕ) → steps ≡ 0 → join_walk steps heads links n x door (walking p j) ≡ stored p j.rows
  unfolding join_walk
  walk_end p j steps e = rw e
