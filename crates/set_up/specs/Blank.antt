-- Set-up (01: "Set-up makes count 0, source and links none, other numbers 0").
use Rattle.std.specs.Prelude.{◌||◌, List, ℕ, ◌%◌, ltb, eqb, pos, length, replicate}
use Rattle.laws.specs.Test.{pick}
use Rattle.laws.specs.Tabulate.{tabulate}
use Rattle.tree_laws.specs.Ancestor.{none}
use Rattle.layer.specs.Layout.{field_stride, size_place}
use Rattle.table.specs.Layout.{root_place}
use Rattle.table.specs.Parts.{Parts}
use Rattle.table.specs.Capacity.{on_fit}
use Rattle.table.specs.declared.refusal.Refusal.TheVariants.{Misfit}
use Rattle.tally.specs.Fit.{capacity_with}
use Rattle.set_up.specs.Outcome.{Outcome, empty, refused}

-- the fields before the size are links, and so is the root
abbrev pub blank_field : ℕ → ℕ
blank_field i = pick (ltb (i % field_stride) size_place || eqb (i % field_stride) root_place) none 0

-- parts of the same lengths with nothing in them
unfoldable pub blank : Parts → Parts
blank t = record {
  fields = tabulate blank_field (length t.fields);
  numbers = tabulate (λ _. 0) (length t.numbers);
  levels = tabulate (λ _. pos 0) (length t.levels);
  ancestors = tabulate (λ _. none) (length t.ancestors);
}

-- what set-up answers
unfoldable pub set_up : Parts → List ℕ → Outcome
set_up t w = on_fit (capacity_with t w) (λ _. empty 0) (refused Misfit)

-- what the parts are then
unfoldable pub parts_after : Parts → List ℕ → Parts
parts_after t w = on_fit (capacity_with t w) (λ _. blank t) t

-- and the tally
unfoldable pub tally_after : Parts → List ℕ → List ℕ
tally_after t w = on_fit (capacity_with t w) (λ _. replicate (length w) 0) w
