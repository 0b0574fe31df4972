-- Parents, labels and faces that are the plain list's: what they answer, the plain list answers.
use Rattle.std.specs.Prelude.{◌≡◌, ℕ, ◌<◌}
use Rattle.plain_list.specs.PlainList.{PlainList, count_of, parent_of, label_of, face_of}

-- on the nodes of the list, up gives its parents, label its labels and face its faces
pub record Shows (up label face : ℕ → ℕ) (p : PlainList) : Type 0 where
  pub parents : (x : ℕ) → x < count_of p → up x ≡ parent_of p x
  pub labels : (x : ℕ) → x < count_of p → label x ≡ label_of p x
  pub faces : (x : ℕ) → x < count_of p → face x ≡ face_of p x
