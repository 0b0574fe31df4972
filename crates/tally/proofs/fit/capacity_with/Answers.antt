-- `capacity_with` looks at the tally first.
use Rattle.tally.specs.FitLaws.{with_misfit, with_tally}
use mathlib.Core.Path.{◌∙◌}
use Rattle.table.specs.Lent.{parts_in}
use Rattle.tally.proofs.fit.capacity_with.Goals as goal

pub returns-then-tally-ne-ENTRIES : goal.returns-then-tally-ne-ENTRIES
returns-then-tally-ne-ENTRIES c = let a = c.args in with_misfit (parts_in a.parts.now) a.tally.now c.if-tally-ne-ENTRIES.true

pub returns : goal.returns
returns c = let a = c.args in c.capacity.ensures ∙ with_tally (parts_in a.parts.now) a.tally.now c.if-tally-ne-ENTRIES.false
