-- `take_sizes`: what is left in each cell, with the sizes taken from it, is the size.
use Rattle.std.specs.Prelude.{◌≡◌, length}
use Rattle.inspect_tree.specs.Columns.{sizes, uppers}
use Rattle.inspect_tree.specs.Sizes.{Taking}
use Rattle.inspect_tree.proofs.compressed.take_sizes.Given as goal

abbrev pub invariant-loop-x : goal.invariant-loop-x
invariant-loop-x l = (length l.s ≡ length l.initial.s) × Taking (uppers l.fields) (sizes l.fields) l.n l.x l.s
