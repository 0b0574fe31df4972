-- `move_one`: one less, then one more.
use mathlib.Core.Path.{ap, ◌∙◌}
use mathlib.Core.List.{List}
use Prim.Native.Nat.{ℕ}
use Rattle.tally.specs.Count.{counted}
use Rattle.tally.specs.CountLaws.{lowered_most}
use Rattle.std.proofs.Common.{rules}
use Rattle.tally.proofs.count.move_one.Goals as goal

pub count_one-requires : goal.count_one-requires
count_one-requires c = let a = c.args in (search rules, rw c.lower.ensures (lowered_most a.tally.now a.from a.to c.requires.1.1))

pub returns : goal.returns
returns c = c.count_one.ensures ∙ ap (λ (w : List ℕ). counted w c.args.to) c.lower.ensures
