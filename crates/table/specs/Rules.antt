-- The rules of inspection, in 01's order and words: those of the layer, and of rule 1 what a table knows beside its trees.
use Rattle.std.specs.Prelude.{◌≡◌, ℕ, ◌≤◌}
use Rattle.tree_laws.specs.Ancestor.{none}
use Rattle.layer.specs.Layer.{parent}
use Rattle.layer.specs.CompressedTree.{SetSize, SmallChild}
use Rattle.layer.specs.Entries.{Entries}
use Rattle.layer.specs.Numbered.{Each, StoredTrees, Compressed, Nested}
use Rattle.table.specs.Table.{Table}
use Rattle.table.specs.Line.{Rooted, Level}

-- labels go from 0 to 9,999
abbrev pub label_limit : ℕ
label_limit = 9999

-- faces are 0, front, or 1, back
abbrev pub face_limit : ℕ
face_limit = 1

-- 1, lines and levels: the first row of each tree records a root of its tree, and levels count from there
pub record Lines (t : Table) : Type 0 where
  pub root : Each t.layer (λ f. parent t.layer f ≡ none → Rooted t f)
  pub level : Each t.layer (Level t)

-- the numbers of a column go to a limit, and that of a root is 0
pub record Bounded (t : Table) (column : ℕ → ℕ) (limit : ℕ) : Type 0 where
  pub most : Each t.layer (λ x. column x ≤ limit)
  pub root : Each t.layer (λ f. parent t.layer f ≡ none → column (t.root f) ≡ 0)

-- 1, labels
abbrev pub Labels : Table → Type 0
Labels t = Bounded t t.label label_limit

-- 1, faces (02: "Inspection also wants each face to be 0 or 1, a source's 0")
abbrev pub Faces : Table → Type 0
Faces t = Bounded t t.face face_limit

-- 1: the count is at most the capacity; parents, depths and child links record trees, the first rows their roots; levels, labels and faces are true
pub record Recorded (capacity : ℕ) (t : Table) : Type 0 where
  pub trees : StoredTrees capacity t.layer
  pub lines : Lines t
  pub labels : Labels t
  pub faces : Faces t

-- a table passes inspection exactly when these hold; one of count 0 passes
pub record Rules (capacity : ℕ) (t : Table) : Type 0 where
  pub one : Recorded capacity t
  pub two : Compressed t.layer
  pub three : Each t.layer (SetSize t.layer)
  pub four : Each t.layer (SmallChild t.layer)
  pub five : Nested t.layer
  pub six : Each t.layer (Entries t.layer)
