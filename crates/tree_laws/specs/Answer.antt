-- Naive answers over any parents and labels (01, "Images and plain tree"), by walking from parent to parent. The fast side shares nothing with this file.
use Rattle.std.specs.Prelude.{◌≡◌, ◌≢◌, List, [], ◌∷◌, ◌++◌, ℕ}
use Rattle.tree_laws.specs.Ancestor.{none}
use Rattle.tree_laws.specs.Depth.{Steps}
use Rattle.tree_laws.specs.Nca.{Characteristic}

-- the answer to a question: nearest common ancestor, both branches, both distances, and the ancestor's label
pub record Answer : Type 0 where
  pub nca : ℕ
  pub to_x : ℕ
  pub to_y : ℕ
  pub distance_x : ℕ
  pub distance_y : ℕ
  pub label : ℕ

-- r is the answer for x and y on the tree of these parents and labels
pub record Answers (up label_of : ℕ → ℕ) (x y : ℕ) (r : Answer) : Type 0 where
  pub characteristic : Characteristic up x y r.nca r.to_x r.to_y
  pub distance_x : Steps up r.nca r.distance_x x
  pub distance_y : Steps up r.nca r.distance_y y
  pub label : r.label ≡ label_of r.nca

-- the list of x, from the root's child down to x, of a column's numbers: of labels or of faces; the root's list is empty
pub data Listed (up column : ℕ → ℕ) : ℕ → List ℕ → Type 0 where
  root : {x : ℕ} → up x ≡ none → Listed up column x []
  below : {x : ℕ} {l : List ℕ} → up x ≢ none → Listed up column (up x) l → Listed up column x (l ++ (column x ∷ []))

-- x and y have equal lists
pub record SameList (up column : ℕ → ℕ) (x y : ℕ) : Type 0 where
  pub list : List ℕ
  pub left : Listed up column x list
  pub right : Listed up column y list

-- x and y are alike: their lists of labels are equal, and their lists of faces (02: "Alike now needs equal panels and equal faces, … along the whole list")
pub record Alike (up label face : ℕ → ℕ) (x y : ℕ) : Type 0 where
  pub labels : SameList up label x y
  pub faces : SameList up face x y
