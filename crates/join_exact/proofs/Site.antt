-- What is proved of `Site`.
use Rattle.std.specs.Prelude.{◌≡◌, true, ℕ, ◌≤◌, ◌<◌}
use Rattle.tree_laws.specs.Join.{Old, Alone}
use Rattle.layer.specs.Layout.{entry_stride}
use Rattle.layer.specs.Row.{row_of, entry_at}
use Rattle.layer.specs.Layer.{Layer, parent, depth}
use Rattle.layer.specs.Numbered.{Numbered}
use Rattle.layer.specs.Checked.{is_row}
use Rattle.renumber.specs.NumberWalk.{Written}
use Rattle.renumber_exact.specs.Lent.{Long}

-- k is the count that the code's checks go by
pub record Site (c : ℕ) (p : Written) (k : ℕ) (t : Layer) (z v : ℕ) : Type 0 where
  pub long : Long c p
  pub room : t.count ≤ c
  pub was : Numbered t
  pub alone : Alone (parent t) t.count z
  pub over : Old t.count z v
  pub row : (y : ℕ) → Old t.count z y → row_of p.fields p.numbers y ≡ t.row y
  pub entry : (y i : ℕ) → Old t.count z y → i < entry_stride → entry_at p.ancestors y i ≡ t.entry y i
  pub good : (y : ℕ) → Old t.count z y → is_row k (row_of p.fields p.numbers) y ≡ true
  pub deep : (y : ℕ) → Old t.count z y → depth t y < k
