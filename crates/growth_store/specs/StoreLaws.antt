-- The stores from what each call leaves.
use Rattle.std.specs.Prelude.{◌≡◌, List, ℕ, ℤ}
use Rattle.table.specs.Parts.{Parts, parts_of, with_level}
use Rattle.renumber.specs.NumberWalk.{written, walked}
use Rattle.join.specs.Store.{joined_at}
use Rattle.growth_plan.specs.declared.row.Plan.{Plan}
use Rattle.growth_store.specs.Store.{marked, stored, plan_stored}

pub store_parts : (t : Parts) (k : ℕ) (g : Plan) (f f' m a : List ℕ) (l : List ℤ) (n : ℕ)
    → walked (written f m a) n ≡ joined_at (written t.fields t.numbers t.ancestors) k g.seat
    → f' ≡ marked f g.seat.leaf.row g.marks
    → l ≡ with_level t.levels g.seat.leaf.row g.marks.level
    → stored (parts_of f' m l a) n ≡ plan_stored t k g
unfolding plan_stored
store_parts t k g f f' m a l n x y z = rw (← x, y, z)
