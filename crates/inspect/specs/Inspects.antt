-- Inspection as a test of any table, by comparisons that code can make: the count; the layer, which has rules 2 to 6 and the trees of rule 1; and
-- what else rule 1 asks for, lines and levels, labels, and faces; last the tally.
use Rattle.std.specs.Prelude.{Bool, ◌&&◌, List, ℕ, leb}
use Rattle.table.specs.Table.{Table}
use Rattle.tally.specs.Test.{is_tallied}
use Rattle.inspect_laws.specs.Numbered.{is_numbered}
use Rattle.inspect_lines_laws.specs.Lines.{are_lines}
use Rattle.inspect_lines_laws.specs.Bounded.{are_labels, are_faces}

unfoldable pub inspects : ℕ → Table → List ℕ → Bool
inspects capacity t w = leb t.layer.count capacity && (is_numbered t.layer && (are_lines t && (are_labels t && (are_faces t && is_tallied t.label t.layer.count w))))
