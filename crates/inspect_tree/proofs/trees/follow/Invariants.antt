-- `follow`: the chain from c on, where `met` rows were met, is the chain of v.
use Rattle.std.specs.Prelude.{◌≡◌}
use Rattle.inspect_laws.specs.Trees.{chain_of}
use Rattle.inspect_tree.specs.Columns.{field_layer}
use Rattle.inspect_tree.specs.Links.{following}
use Rattle.inspect_tree.proofs.trees.follow.Given as goal

abbrev pub invariant-loop-met : goal.invariant-loop-met
invariant-loop-met l = following l.fields l.n l.v l.c l.met l.last ≡ chain_of (field_layer l.fields l.n) l.v
