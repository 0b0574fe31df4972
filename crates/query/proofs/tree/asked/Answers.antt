-- `asked`: its tests are those of the definition, in the same order.
use mathlib.Core.Path.{sym, ◌∙◌}
use Rattle.query.specs.AskedLaws.{asked_misfit, asked_unknown, asked_fallen, asked_sought}
use Rattle.query.proofs.tree.asked.Goals as goal

pub returns-in_default : goal.returns-in_default
returns-in_default c = asked_misfit _ _ _ _ (sym c.capacity.ensures ∙ c.in_default.is)

pub returns-then-not-are_known : goal.returns-then-not-are_known
returns-then-not-are_known c = asked_unknown _ _ _ _ (sym c.in-Some.ensures) (sym c.are_known.ensures ∙ c.if-not-are_known.true)

pub returns-then-not-is_standing : goal.returns-then-not-is_standing
returns-then-not-is_standing c = let capacity = sym c.in-Some.ensures in
    let known = sym c.are_known.ensures ∙ c.if-not-are_known.false in
    asked_fallen _ _ _ _ capacity known (sym c.is_standing.ensures ∙ c.if-not-is_standing.true)

pub returns : goal.returns
returns c = let capacity = sym c.in-Some.ensures in
    let known = sym c.are_known.ensures ∙ c.if-not-are_known.false in
    let standing = sym c.is_standing.ensures ∙ c.if-not-is_standing.false in
    c.seek.ensures ∙ asked_sought _ _ _ _ capacity known standing
