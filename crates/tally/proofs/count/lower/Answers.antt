-- `lower`: a read and a store.
use Prim.Native.Nat.{ℕ, ◌-◌}
use mathlib.Core.Path.{ap, ◌∙◌}
use lib.ListN.{set}
use Rattle.tally.proofs.count.lower.Goals as goal

pub returns : goal.returns
returns c = let a = c.args in c.put.ensures ∙ ap (λ (n : ℕ). set a.tally.now a.label (n - 1)) c.cell-n.ensures
