-- `inspect` refuses a misfit, and answers by the rules.
use Rattle.inspect.specs.InspectionLaws.{misfit_parts, misfit_scratch, answered, told_capacity, told_tally}
use Rattle.std.proofs.Common.{refl, rules}
use Rattle.inspect.proofs.inspect.Goals as goal

pub returns-in_default : goal.returns-in_default
returns-in_default c = misfit_parts c.capacity_with.ensures c.in_default.is

pub returns-then-scratch-c : goal.returns-then-scratch-c
returns-then-scratch-c c = misfit_scratch c.in-Some.ensures refl c.if-scratch-c.true

pub passes-requires : goal.passes-requires
passes-requires c = let fit = c.in-Some.ensures in
    (told_capacity _ _ fit refl, (told_tally _ _ fit refl, search rules))

pub returns : goal.returns
returns c = answered c.in-Some.ensures refl c.if-scratch-c.false c.passes.ensures
