-- The fields that a path row is read off, and where the paths of two sides meet.
use Rattle.std.specs.Prelude.{◌≡◌, Bool, ◌||◌, List, ◌≢◌, ℕ, leb}
use Rattle.std.proofs.Math.Bool.{true, false, not}
use Rattle.laws.specs.Test.{Says, holds, fails, says_eqb, pick}
use Rattle.tree_laws.specs.Compressed.{is_apex}
use Rattle.tree_laws.specs.StoredFromCompressed.{path_row, higher}
use Rattle.layer.specs.Layout.{parent_place, path_place, depth_place}
use Rattle.layer.specs.Row.{field_at, row_of}
use Rattle.layer.specs.Checked.{Holds}
use Rattle.layer.specs.CheckedLaws.{within}
use Rattle.ancestry.specs.declared.compressed.Side.{Side}
use Rattle.ancestry.specs.Reading.{InFields, column_of}
use Rattle.ancestry.specs.StoredAnswer.{path_row_of, meeting, is_on_row}
use Rattle.ancestry.specs.StoredAnswerLaws.{on_row_parent}
use Rattle.ancestry.specs.AnswerRows.{SideRows}

-- the branch of a side, and its parent where that is looked at
pub record PathFields (f : List ℕ) (s : Side) : Type 0 where
  pub below : InFields f s.below
  pub parent : s.below ≢ s.row → InFields f (field_at f s.below parent_place)

pub path_fields : {n : ℕ} {f m : List ℕ} (s : Side) → Holds n f m → SideRows n (row_of f m) s → is_on_row n (row_of f m) s ≡ true → PathFields f s
path_fields {n} {f} {m} s h r e = record {
  below = (within h r.below.in_use).fields;
  parent = λ d. (within h (on_row_parent n (row_of f m) s e d).in_use).fields;
}

-- the meeting of two sides, by the fields
abbrev pub meeting_in : List ℕ → Side → Side → ℕ
meeting_in f = meeting (column_of f parent_place) (column_of f path_place) (column_of f depth_place)

module _ (f : List ℕ) where
  row_in : Side → ℕ
  row_in = path_row_of (column_of f parent_place) (column_of f path_place) (column_of f depth_place)

  pub path_row_in : (s : Side) → PathFields f s → InFields f (path_row (column_of f parent_place) (column_of f path_place) s.row s.below)
  unfolding path_row
  path_row_in s h = go (says_eqb s.below s.row) (is_apex (column_of f parent_place) (column_of f path_place) s.below)
    where
      go : {b : Bool} → Says (s.below ≡ s.row) b → (a : Bool) → InFields f (pick (b || not a) s.below (field_at f s.below parent_place))
      go (holds e) a = h.below
      go (fails d) true = h.parent d
      go (fails d) false = h.below

  pub meeting_in_lem : (c k : Side) → PathFields f c → PathFields f k → InFields f (meeting_in f c k)
  unfolding meeting higher row_in
  meeting_in_lem c k h i = go (leb (field_at f (row_in c) depth_place) (field_at f (row_in k) depth_place))
    where
      go : (b : Bool) → InFields f (pick b (row_in c) (row_in k))
      go true = path_row_in c h
      go false = path_row_in k i
