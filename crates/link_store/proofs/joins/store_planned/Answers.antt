-- `store_planned` stores what was planned.
use Rattle.std.specs.Prelude.{Ok}
use Rattle.std.proofs.Common.{ap, ◌∙◌}
use Rattle.link_store.specs.WalkLaws.{store_grown, store_start, store_refused}
use Rattle.table.specs.Lent.{parts_in_mut}
use Rattle.link_store.proofs.joins.store_planned.Goals as goal

pub returns-in-Ok-Grow-clause-stored : goal.returns-in-Ok-Grow-clause-stored
returns-in-Ok-Grow-clause-stored c = let a = c.args in store_grown (parts_in_mut a.parts.now) a.n _ a.planned _ (c.in-Ok-Grow.is ∙ ap Ok (rw c.in-Ok-Grow.is at c.in-Ok-Grow.field-0-is)) c.store.ensures.stored

pub returns-in-Ok-Start-clause-stored : goal.returns-in-Ok-Start-clause-stored
returns-in-Ok-Start-clause-stored c = let a = c.args in store_start (parts_in_mut a.parts.now) a.n a.planned _ (c.in-Ok-Start.is ∙ ap Ok (rw c.in-Ok-Start.is at c.in-Ok-Start.field-0-is))

pub returns-in-Err-clause-stored : goal.returns-in-Err-clause-stored
returns-in-Err-clause-stored c = let a = c.args in store_refused (parts_in_mut a.parts.now) a.n a.planned _ c.in-Err.is
