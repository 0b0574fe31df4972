-- `keep_sizes`: the cells below x hold sizes.
use Rattle.std.specs.Prelude.{◌≡◌, length}
use Rattle.inspect_tree.specs.Columns.{sizes}
use Rattle.inspect_tree.specs.Sizes.{Kept}
use Rattle.inspect_tree.proofs.compressed.keep_sizes.Given as goal

abbrev pub invariant-loop-x : goal.invariant-loop-x
invariant-loop-x l = (length l.s ≡ length l.initial.s) × Kept (sizes l.fields) l.x l.s
