-- The refusals of the tree calls, by 01's and 02's numbers.
use Rattle.std.specs.Prelude.{ℕ}
use Rattle.table.specs.declared.refusal.Refusal.{Refusal}
use Rattle.table.specs.declared.refusal.Refusal.TheVariants.{UnknownNode, Full, Misfit, Corrupt, BadLabel, NotRoot, SameTree, OtherTree, BadFace}

abbrev pub number_of : Refusal → ℕ
number_of UnknownNode = 1
number_of Full = 2
number_of Misfit = 3
number_of Corrupt = 4
number_of BadLabel = 5
number_of NotRoot = 10
number_of SameTree = 11
number_of OtherTree = 12
number_of BadFace = 13
