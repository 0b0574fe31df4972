-- `follow`: the chain from c on, where `met` rows were met, is the chain of v.
use Rattle.std.proofs.Common.{sym, ◌∙◌, arith}
use Rattle.inspect_laws.proofs.All.{answer_yes}
use Rattle.inspect_tree.specs.Links.{following_on}
use Rattle.inspect_tree.proofs.trees.follow.Goals as goal

pub loop-met-preserved : goal.loop-met-preserved
loop-met-preserved c = let on = following_on c.args.fields.now c.args.n c.args.v c.loop-met.c c.loop-met.met c.loop-met.last (omega arith) c.if-c.false (answer_yes c.is_child.ensures c.if-not-is_child.false-raw) in
    rw c.field-c-in-loop-met.ensures (sym on ∙ c.loop-met.invariant)
