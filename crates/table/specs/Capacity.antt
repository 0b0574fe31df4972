-- The capacity of lent parts (01, "Capacity is 1 to 32,768 rows"; refusal 3).
use Rattle.std.specs.Prelude.{◌≡◌, Bool, ◌&&◌, Option, Some, None, ℕ, ◌*◌, ◌≤◌, leb, eqb, length}
use Rattle.laws.specs.Test.{pick}
use Rattle.layer.specs.Layout.{field_stride, number_stride, entry_stride}
use Rattle.table.specs.Parts.{Parts}

-- the most nodes of a table, within what a layer may have rows
abbrev pub node_limit : ℕ
node_limit = 32768

-- the parts fit the capacity c
pub record Fits (c : ℕ) (t : Parts) : Type 0 where
  pub least : 1 ≤ c
  pub most : c ≤ node_limit
  pub levels : length t.levels ≡ c
  pub fields : length t.fields ≡ c * field_stride
  pub numbers : length t.numbers ≡ c * number_stride
  pub ancestors : length t.ancestors ≡ c * entry_stride

-- the same as a test; the levels, one to a row, tell the capacity
unfoldable pub fits : Parts → Bool
fits t =
    leb 1 (length t.levels) &&
    (leb (length t.levels) node_limit &&
    (eqb (length t.fields) (length t.levels * field_stride) &&
    (eqb (length t.numbers) (length t.levels * number_stride) && eqb (length t.ancestors) (length t.levels * entry_stride))))

-- the capacity that the parts fit, or none
unfoldable pub capacity_of : Parts → Option ℕ
capacity_of t = pick (fits t) (Some (length t.levels)) None

-- the outcome by that capacity
abbrev pub on_fit : {A : Type 0} → Option ℕ → (ℕ → A) → A → A
on_fit (Some c) f other = f c
on_fit None f other = other
