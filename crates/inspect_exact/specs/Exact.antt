-- Inspection says yes exactly when all six rules hold (01, "Inspection") and the tally is true (02, "Inspection also wants the tally true, at count 0 too"), both
-- directions, on every table.
use Rattle.std.specs.Prelude.{◌≡◌, List, ℕ, length, replicate}
use Rattle.std.proofs.Common.{arith, le-leb}
use Rattle.laws.specs.Test.{Says, says_map}
use Rattle.table.specs.Table.{Table}
use Rattle.table.specs.Rules.{Rules}
use Rattle.tally.specs.Layout.{tally_length}
use Rattle.tally.specs.Tally.{Tallied}
use Rattle.tally_exact.proofs.TestExact.{says_tallied}
use Rattle.tally_exact.proofs.CountExact.{cleared_tallied, tallied_zeros}
use Rattle.inspect_laws.specs.Trees.{are_trees}
use Rattle.inspect_laws.specs.Compressed.{is_compressed}
use Rattle.inspect_laws.specs.SetSizes.{are_set_sizes, are_small_children}
use Rattle.inspect_laws.specs.Nested.{are_nested}
use Rattle.inspect_laws.specs.Entries.{are_entries}
use Rattle.inspect_laws.specs.Numbered.{is_numbered}
use Rattle.inspect_lines_laws.specs.Lines.{are_lines}
use Rattle.inspect_lines_laws.specs.Bounded.{are_bounded}
use Rattle.inspect.specs.Inspects.{inspects}

-- what inspection asks: the six rules, and a true tally
pub record Passes (capacity : ℕ) (t : Table) (w : List ℕ) : Type 0 where
  pub rules : Rules capacity t
  pub tally : Tallied t.label t.layer.count w

-- a table of count 0 passes with a tally of zeros, and with no other
pub inspect_empty : (capacity : ℕ) (t : Table) (w : List ℕ) → t.layer.count ≡ 0 → length w ≡ tally_length → Says (w ≡ replicate tally_length 0) (inspects capacity t w)
unfolding inspects is_numbered are_trees is_compressed are_set_sizes are_small_children are_nested are_entries are_lines are_bounded
inspect_empty capacity t w e l = rw (e, le-leb 0 capacity (omega arith)) (says_map tallied_zeros zeros (says_tallied t.label 0 w l))
  where
    zeros : w ≡ replicate tally_length 0 → Tallied t.label 0 w
    zeros z = rw z (cleared_tallied t.label)
