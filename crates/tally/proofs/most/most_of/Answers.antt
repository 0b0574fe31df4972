-- `most_of`: the first label that has the greatest entry.
use mathlib.Core.Path.{ap, ◌∙◌}
use Prim.Native.Nat.{ℕ}
use Rattle.tally.specs.Layout.{label_count}
use Rattle.tally.specs.Most.{first_to, most_of}
use Rattle.tally.proofs.most.most_of.Goals as goal

pub returns : goal.returns
unfolding most_of
returns c = c.first_of.ensures ∙ ap (λ (m : ℕ). first_to c.args.tally.now m label_count) c.greatest.ensures
