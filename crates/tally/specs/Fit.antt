-- The capacity of lent parts with a tally (02: "A tally of another length is misfit").
use Rattle.std.specs.Prelude.{List, Option, None, ℕ, eqb, length}
use Rattle.laws.specs.Test.{pick}
use Rattle.table.specs.Capacity.{capacity_of}
use Rattle.table.specs.Parts.{Parts}
use Rattle.tally.specs.Layout.{tally_length}

unfoldable pub capacity_with : Parts → List ℕ → Option ℕ
capacity_with t w = pick (eqb (length w) tally_length) (capacity_of t) None
