-- `stored_from`: one node, equal numbers, or the two sides of the compressed step.
use Rattle.std.proofs.Common.{◌∙◌, eq-eqb, ne_eqb}
use Rattle.ancestry.specs.StoredAnswer.{stored_from}
use Rattle.ancestry.specs.StoredAnswerLaws.{apart_is, between_limit}
use Rattle.ancestry.proofs.stored.stored_from.Goals as goal

pub returns-then-x-y : goal.returns-then-x-y
unfolding stored_from
returns-then-x-y c = let a = c.args in rw (eq-eqb a.x a.y c.if-x-y.true)

pub returns-then-px-py : goal.returns-then-px-py
unfolding stored_from
returns-then-px-py c = let a = c.args in rw (ne_eqb a.x a.y c.if-x-y.false, eq-eqb a.px a.py c.if-px-py.true)

pub sides_joined-requires-clause-d_le_limit : goal.sides_joined-requires-clause-d_le_limit
sides_joined-requires-clause-d_le_limit c = let a = c.args in
    rw (c.abs_diff-d.ensures ∙ apart_is a.px a.py) (between_limit a.px a.py c.requires.px_le_limit.0 c.requires.px_le_limit.1)

pub returns : goal.returns
unfolding stored_from
returns c = let a = c.args in
    rw (ne_eqb a.x a.y c.if-x-y.false, ne_eqb a.px a.py c.if-px-py.false, c.sides_joined.ensures, c.abs_diff-d.ensures ∙ apart_is a.px a.py)
