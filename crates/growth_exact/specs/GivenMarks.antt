-- What a growth gives: a label and a face to its new row, or to the old root where an opening is named (02: "which becomes the old source's panel; the new
-- source has 0").
use Rattle.std.specs.Prelude.{◌≡◌, refl, Bool, true, false, List, ℕ, suc, ◌≤◌, ◌<◌}
use Rattle.std.proofs.Math.Decide.{ℕ_discrete}
use Rattle.std.proofs.Common.{arith}
use Rattle.laws.specs.Test.{pick, Says, holds, says_map, says_and, says_leb, says_eqb, says_true, says_false}
use Rattle.table.specs.Capacity.{node_limit}
use Rattle.table.specs.Table.{Table}
use Rattle.table.specs.Rules.{label_limit, face_limit, Rules}
use Rattle.tally.specs.Tally.{Tallied, TallyOf}
use Rattle.tally.specs.Count.{counted}
use Rattle.tally_exact.proofs.CountExact.{opened_tallied}
use Rattle.tally_exact.proofs.CountExact.{counted_tallied}
use Rattle.table_laws.specs.Lines.{root_label}
use Rattle.growth_laws.specs.Growth.{Growth, leaf, root, Opens, unnamed, opens, Named, named_leaf, named_root, label_of, face_of, opening_of, column_after, level_of, tree_of}
use Rattle.growth_plan.specs.declared.row.Marks.{Marks}
use Rattle.growth_plan.specs.PlannedRow.{marks_of}
use Rattle.growth_plan.specs.Plan.{is_label, is_face, is_opening}
use Rattle.growth_exact.specs.MarksExact.{Given}

abbrev pub label_given : Growth → ℕ
label_given (leaf v f s) = f
label_given (root r named opening) = pick named opening 0

-- the row that takes them
abbrev pub labelled_row : Table → Growth → ℕ
labelled_row t (leaf v f s) = t.layer.count
labelled_row t (root r named opening) = pick named r t.layer.count

-- all marks of the new row; the face that is given is the new row's: a root's and an opening's are front
abbrev pub marks : Table → Growth → Marks
marks t g = marks_of (level_of t g) (labelled_row t g) (label_given g) (face_of g) (tree_of t g)

-- in a column the growth gives v: to a leaf, or o to the old root where it is opened; a is then the new row's number
pub data Gives (t : Table) : Growth → (a o v : ℕ) → Type 0 where
  to_leaf : {v f s a o : ℕ} → Gives t (leaf v f s) a o a
  to_new : {r opening o : ℕ} → Gives t (root r false opening) 0 o 0
  to_old : {r opening o : ℕ} → r < t.layer.count → Gives t (root r true opening) 0 o o

-- What the calls ask of a label, an opening and a face

pub says_label : (l : ℕ) → Says ((1 ≤ l) × (l ≤ label_limit)) (is_label l)
says_label l = says_and (says_leb 1 l) (λ _. says_leb l label_limit)

pub says_opening : (named : Bool) (opening : ℕ) → Says (Opens named opening) (is_opening named opening)
says_opening true opening = says_map (λ l. opens l.0 l.1) is (says_label opening)
  where
    is : Opens true opening → (1 ≤ opening) × (opening ≤ label_limit)
    is (opens i j) = (i, j)
says_opening false opening = holds unnamed

pub says_face : (s : ℕ) → Says (s ≤ face_limit) (is_face s)
says_face s = says_leb s face_limit

-- What is given to whom

pub label_gives : {t : Table} {g : Growth} → Named t g → Gives t g (label_of g) (opening_of g) (label_given g)
label_gives (named_leaf l i j m) = to_leaf
label_gives (named_root l e unnamed) = to_new
label_gives (named_root l e (opens i j)) = to_old l

pub face_gives : {t : Table} {g : Growth} → Named t g → Gives t g (face_of g) 0 (face_of g)
face_gives (named_leaf l i j m) = to_leaf
face_gives (named_root l e unnamed) = to_new
face_gives (named_root l e (opens i j)) = to_old l

pub given_most : {t : Table} {g : Growth} → Named t g → label_given g ≤ label_limit
given_most (named_leaf l i j m) = j
given_most (named_root l e unnamed) = omega arith
given_most (named_root l e (opens i j)) = j

pub labelled_in : {t : Table} {g : Growth} → Named t g → labelled_row t g < suc t.layer.count
labelled_in (named_leaf l i j m) = omega arith
labelled_in (named_root l e unnamed) = omega arith
labelled_in (named_root l e (opens i j)) = omega arith

-- The columns and the tally afterwards

module _ {t : Table} {was now : ℕ → ℕ} where
  pub column_old : {g : Growth} {a o v : ℕ} → Gives t g a o v → Given was now t.layer.count (labelled_row t g) v → (x : ℕ) → x < t.layer.count
      → now x ≡ column_after g was o x
  column_old to_leaf k x b = k.kept x (λ e. omega arith) (λ e. omega arith)
  column_old to_new k x b = k.kept x (λ e. omega arith) (λ e. omega arith)
  column_old (to_old {r} l) k x b = elim (ℕ_discrete x r) [
    | yes z ↦ rw (z, says_true (says_eqb r r) refl) k.taken
    | no n ↦ rw (says_false (says_eqb x r) n) (k.kept x (λ e. omega arith) n)
  ]

  pub column_new : {g : Growth} {a o v : ℕ} → Gives t g a o v → Given was now t.layer.count (labelled_row t g) v → now t.layer.count ≡ a
  column_new to_leaf k = k.taken
  column_new to_new k = k.taken
  column_new (to_old l) k = k.fresh (λ e. omega arith)

-- an old root has label 0, so there is one node more of the label that is given, and of no other
pub given_tallied : {c : ℕ} {t : Table} {label : ℕ → ℕ} {w : List ℕ} {g : Growth} → Rules c t → c ≤ node_limit → TallyOf t w → Named t g
    → Given t.label label t.layer.count (labelled_row t g) (label_given g) → Tallied label (suc t.layer.count) (counted w (label_given g))
given_tallied r fits q (named_leaf l i j m) k = counted_tallied q (λ x b. k.kept x (λ e. omega arith) (λ e. omega arith)) k.taken
given_tallied r fits q (named_root l e unnamed) k = counted_tallied q (λ x b. k.kept x (λ e. omega arith) (λ e. omega arith)) k.taken
given_tallied r fits q (named_root l e (opens i j)) k =
    opened_tallied q l (root_label r fits l e) k.taken (λ x b n. k.kept x (λ e. omega arith) n) (k.fresh (λ e. omega arith))
