-- The lent parts of a table, the scratch aside: those of its layer, and the levels. Labels, faces and roots stand in `fields`.
use Rattle.std.specs.Prelude.{List, ℕ, ℤ, pos, get_or, set}

pub record Parts : Type 0 where
  pub fields : List ℕ
  pub numbers : List ℕ
  pub levels : List ℤ
  pub ancestors : List ℕ

abbrev pub parts_of : List ℕ → List ℕ → List ℤ → List ℕ → Parts
parts_of f m l a = record { fields = f; numbers = m; levels = l; ancestors = a }

-- the level of row x; past the end of the levels it is 0
abbrev pub level_at : List ℤ → ℕ → ℤ
level_at l x = get_or l x (pos 0)

-- the level of row x becomes v; past the end nothing is stored
abbrev pub with_level : List ℤ → ℕ → ℤ → List ℤ
with_level l x v = set l x v
