-- Of inspection's rule 1 the labels and the faces, each a column with a limit, as a test, and what it says.
use Rattle.std.specs.Prelude.{Bool, ◌||◌, ◌&&◌, not, ℕ, leb, eqb}
use Rattle.laws.specs.Test.{all_to}
use Rattle.tree_laws.specs.Ancestor.{none}
use Rattle.layer.specs.Layer.{parent}
use Rattle.table.specs.Table.{Table}
use Rattle.table.specs.Rules.{label_limit, face_limit}

abbrev pub is_within : (ℕ → ℕ) → ℕ → ℕ → Bool
is_within column limit x = leb (column x) limit

-- where f is the first row of a tree, the number of the root that it records is 0
abbrev pub is_root_zero : Table → (ℕ → ℕ) → ℕ → Bool
is_root_zero t column f = not (eqb (parent t.layer f) none) || eqb (column (t.root f)) 0

unfoldable pub are_bounded : Table → (ℕ → ℕ) → ℕ → Bool
are_bounded t column limit = all_to (λ x. is_within column limit x && is_root_zero t column x) t.layer.count

-- rule 1, labels
abbrev pub are_labels : Table → Bool
are_labels t = are_bounded t t.label label_limit

-- rule 1, faces
abbrev pub are_faces : Table → Bool
are_faces t = are_bounded t t.face face_limit
