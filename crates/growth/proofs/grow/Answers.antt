-- `grow` stores what was planned and counts its label, or does nothing.
use Rattle.std.specs.Prelude.{Ok}
use Rattle.std.proofs.Common.{sym, ap, ◌∙◌}
use Rattle.table.specs.Parts.{Parts}
use Rattle.table.specs.Lent.{parts_in_mut}
use Rattle.tally.specs.Fit.{capacity_with}
use Rattle.growth.specs.GrowthLaws.{grow_short, grow_misfit, grow_counts, grow_full, grow_served, start_full, grow_started, grow_refused}
use Rattle.growth.proofs.grow.Goals as goal

pub returns-then-not-fits_growth-clause-grown : goal.returns-then-not-fits_growth-clause-grown
returns-then-not-fits_growth-clause-grown c = let a = c.args in grow_short (parts_in_mut a.parts.now) a.tally.now a.scratch a.planned (sym c.if-not-fits_growth.ensures)

pub returns-in_default-clause-grown : goal.returns-in_default-clause-grown
returns-in_default-clause-grown c = let a = c.args in
    grow_misfit (parts_in_mut a.parts.now) a.tally.now a.scratch a.planned (sym c.if-not-fits_growth.ensures)
    (sym c.in_default.is ∙ c.capacity_with.ensures ∙ ap (λ (t : Parts). capacity_with t a.tally.now) c.read.ensures)

pub returns-then-not-has_room-clause-grown : goal.returns-then-not-has_room-clause-grown
returns-then-not-has_room-clause-grown c = let a = c.args in
    grow_full (parts_in_mut a.parts.now) a.tally.now a.scratch a.planned (sym c.if-not-fits_growth.ensures)
    _ (c.in-Some.ensures ∙ ap (λ (t : Parts). capacity_with t a.tally.now) c.read.ensures) _ (c.in-Ok-Grow.is ∙ ap Ok (rw c.in-Ok-Grow.is at c.in-Ok-Grow.field-0-is)) (sym c.if-not-has_room.ensures)

pub count_one-requires : goal.count_one-requires
count_one-requires c = let a = c.args in
    grow_counts (parts_in_mut a.parts.now) a.tally.now a.scratch a.planned (sym c.if-not-fits_growth.ensures)
    _ (c.in-Some.ensures ∙ ap (λ (t : Parts). capacity_with t a.tally.now) c.read.ensures) _ (sym c.if-not-has_room.ensures)

pub returns-then-not-has_room-2-clause-grown : goal.returns-then-not-has_room-2-clause-grown
returns-then-not-has_room-2-clause-grown c = let a = c.args in
    start_full (parts_in_mut a.parts.now) a.tally.now a.scratch a.planned (sym c.if-not-fits_growth.ensures)
    _ (c.in-Some.ensures ∙ ap (λ (t : Parts). capacity_with t a.tally.now) c.read.ensures) _ (c.in-Ok-Start.is ∙ ap Ok (rw c.in-Ok-Start.is at c.in-Ok-Start.field-0-is)) (sym c.if-not-has_room-2.ensures)

pub count_one-requires-in-Ok-Start : goal.count_one-requires-in-Ok-Start
count_one-requires-in-Ok-Start c = let a = c.args in
    grow_counts (parts_in_mut a.parts.now) a.tally.now a.scratch a.planned (sym c.if-not-fits_growth.ensures)
    _ (c.in-Some.ensures ∙ ap (λ (t : Parts). capacity_with t a.tally.now) c.read.ensures) 0 (sym c.if-not-has_room-2.ensures)

pub returns-else-not-has_room-clause-grown : goal.returns-else-not-has_room-clause-grown
returns-else-not-has_room-clause-grown c = let a = c.args in
    grow_served (parts_in_mut a.parts.now) a.tally.now a.scratch a.planned (sym c.if-not-fits_growth.ensures)
    _ (c.in-Some.ensures ∙ ap (λ (t : Parts). capacity_with t a.tally.now) c.read.ensures) _ _ _ _ _ (c.in-Ok-Grow.is ∙ ap Ok (rw c.in-Ok-Grow.is at c.in-Ok-Grow.field-0-is)) (sym c.if-not-has_room.ensures)
    c.store-rows.ensures.stored c.count_one.ensures c.node.ensures

pub returns-else-not-has_room-2-clause-grown : goal.returns-else-not-has_room-2-clause-grown
returns-else-not-has_room-2-clause-grown c = let a = c.args in
    grow_started (parts_in_mut a.parts.now) a.tally.now a.scratch a.planned (sym c.if-not-fits_growth.ensures)
    _ (c.in-Some.ensures ∙ ap (λ (t : Parts). capacity_with t a.tally.now) c.read.ensures) _ _ _ _ _ _ _ (c.in-Ok-Start.is ∙ ap Ok (rw c.in-Ok-Start.is at c.in-Ok-Start.field-0-is)) (sym c.if-not-has_room-2.ensures)
    c.start.ensures.fields c.start.ensures.numbers c.start.ensures.levels c.start.ensures.ancestors c.count_one-in-Ok-Start.ensures c.node-in-Ok-Start.ensures

pub returns-in-Err-clause-grown : goal.returns-in-Err-clause-grown
returns-in-Err-clause-grown c = let a = c.args in
    grow_refused (parts_in_mut a.parts.now) a.tally.now a.scratch a.planned (sym c.if-not-fits_growth.ensures)
    _ (c.in-Some.ensures ∙ ap (λ (t : Parts). capacity_with t a.tally.now) c.read.ensures) _ c.in-Err.is
