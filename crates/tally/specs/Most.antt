-- The label that most nodes carry, as two passes over the entries find it: the greatest entry, then the first label that has it.
use Rattle.std.specs.Prelude.{List, ℕ, zero, suc, eqb, ltb, get_or}
use Rattle.laws.specs.Test.{pick}
use Rattle.tree_laws.specs.Ancestor.{none}
use Rattle.tally.specs.Layout.{label_count}

abbrev pub larger : ℕ → ℕ → ℕ
larger a b = pick (ltb a b) b a

abbrev pub smaller : ℕ → ℕ → ℕ
smaller a b = pick (ltb b a) b a

-- the greatest of the first n entries
unfoldable pub greatest_to : List ℕ → ℕ → ℕ
greatest_to w zero = 0
greatest_to w (suc n) = larger (greatest_to w n) (get_or w n 0)

-- the first of n labels whose entry is the number sought, or none
unfoldable pub first_to : List ℕ → ℕ → ℕ → ℕ
first_to w sought zero = none
first_to w sought (suc n) = smaller (first_to w sought n) (pick (eqb (get_or w n 0) sought) n none)

unfoldable pub most_of : List ℕ → ℕ
most_of w = first_to w (greatest_to w label_count) label_count
