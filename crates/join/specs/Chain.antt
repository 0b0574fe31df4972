-- The chain of a new leaf (01: "the upper rows above it, each of whose s grows by 1. The head is the highest row of that chain with 5s ≥ 6σ").
use Rattle.std.specs.Prelude.{Bool, List, ℕ, zero, suc, eqb, Option, Some, None}
use Rattle.laws.specs.Test.{pick}
use Rattle.counts.specs.Count.{one_more}
use Rattle.tree_laws.specs.Ancestor.{none}
use Rattle.span.specs.Numbers.{outgrown}
use Rattle.layer.specs.Layout.{upper_place, size_place, set_size_place}
use Rattle.layer.specs.Row.{field_at, row_of}
use Rattle.layer.specs.Write.{with_field}
use Rattle.layer.specs.Checked.{is_row}

-- row u, with one row more below it, has outgrown its set size
unfoldable pub outgrown_at : List ℕ → ℕ → Bool
outgrown_at f u = outgrown (one_more (field_at f u size_place)) (field_at f u set_size_place)

-- the highest row from u up that has outgrown its set size, or `top`, found below u; corrupt where a row read is, or where fuel rows do not end the chain
unfoldable pub top_from : ℕ → List ℕ → List ℕ → ℕ → ℕ → ℕ → Option ℕ
top_from zero f m n u top = pick (eqb u none) (Some top) None
top_from (suc fuel) f m n u top =
    pick (eqb u none) (Some top)
    (pick (is_row n (row_of f m) u) (top_from fuel f m n (field_at f u upper_place) (pick (outgrown_at f u) u top)) None)

-- by what the chain holds
abbrev pub on_top : {A : Type 0} → Option ℕ → (ℕ → A) → A → A
on_top (Some u) found other = found u
on_top None found other = other

-- one more in the size of row u
unfoldable pub raised_at : List ℕ → ℕ → List ℕ
raised_at f u = with_field f u size_place (one_more (field_at f u size_place))

-- one more in the size of each row from u up
unfoldable pub raised : ℕ → List ℕ → ℕ → List ℕ
raised zero f u = f
raised (suc fuel) f u = pick (eqb u none) f (raised fuel (raised_at f u) (field_at (raised_at f u) u upper_place))
