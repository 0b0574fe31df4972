-- The stores of a row that joins as planned: those of the layer, then label, face, root record and level.
use Rattle.std.specs.Prelude.{List, ℕ, ℤ}
use Rattle.tree_laws.specs.Ancestor.{none}
use Rattle.layer.specs.Write.{with_field}
use Rattle.table.specs.Layout.{label_place, face_place, root_place}
use Rattle.table.specs.Parts.{Parts, parts_of, with_level}
use Rattle.renumber.specs.NumberWalk.{Walked, written}
use Rattle.join.specs.Store.{joined_at}
use Rattle.growth_plan.specs.declared.row.Marks.{Marks}
use Rattle.growth_plan.specs.declared.row.Plan.{Plan}

-- the parts afterwards, and how many rows were given a start
pub record Stored : Type 0 where
  pub parts : Parts
  pub given : ℕ

abbrev pub stored : Parts → ℕ → Stored
stored t n = record { parts = t; given = n }

-- the leaf has 0 at a place, then the row y has v there
unfoldable pub given : List ℕ → ℕ → ℕ → ℕ → ℕ → List ℕ
given f place leaf y v = with_field (with_field f leaf place 0) y place v

-- the label and the face are given to the row that takes them; the row of the tree records the leaf as its root; the leaf itself records none
unfoldable pub marked : List ℕ → ℕ → Marks → List ℕ
marked f leaf m =
    with_field (with_field (given (given f label_place leaf m.labelled m.label) face_place leaf m.labelled m.face) leaf root_place none)
    m.tree root_place leaf

-- what the layer's stores left, with the marks of the leaf
abbrev pub with_marks : List ℤ → Plan → Walked → Stored
with_marks l g w =
    stored
    (parts_of (marked w.parts.fields g.seat.leaf.row g.marks) w.parts.numbers (with_level l g.seat.leaf.row g.marks.level)
    w.parts.ancestors)
    w.given

-- in a table of n rows
unfoldable pub plan_stored : Parts → ℕ → Plan → Stored
plan_stored t n g = with_marks t.levels g (joined_at (written t.fields t.numbers t.ancestors) n g.seat)
