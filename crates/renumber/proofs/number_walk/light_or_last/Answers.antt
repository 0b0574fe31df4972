-- `light_or_last`, by cases.
use Rattle.renumber.specs.NumberWalk.{light_or_last}
use Rattle.layer.specs.Row.{field_at}
use Rattle.layer.specs.Layout.{next_place}
use Rattle.tree_laws.specs.Ancestor.{none}
use borrow.Author.Tests.{eq-eqb, ne_eqb}
use mathlib.Core.Path.{◌∙◌, sym}
use Rattle.renumber.proofs.number_walk.light_or_last.Goals as goal

pub returns-then-c-eq-NONE : goal.returns-then-c-eq-NONE
unfolding light_or_last
returns-then-c-eq-NONE c = rw (eq-eqb c.args.c none c.if-c-eq-NONE.true)

pub returns-then-c-heavy : goal.returns-then-c-heavy
unfolding light_or_last
returns-then-c-heavy c = let a = c.args in rw (ne_eqb a.c none c.if-c-eq-NONE.false, ne_eqb a.c a.heavy c.if-c-heavy.true)

pub returns-then-d : goal.returns-then-d
unfolding light_or_last
returns-then-d c = let a = c.args in rw (ne_eqb a.c none c.if-c-eq-NONE.false, eq-eqb a.c a.heavy c.if-c-heavy.false, eq-eqb (field_at a.fields.now a.c next_place) none (sym c.field-d.ensures ∙ c.if-d.true))

pub returns : goal.returns
unfolding light_or_last
returns c = let a = c.args in rw (c.field-d.ensures, ne_eqb a.c none c.if-c-eq-NONE.false, eq-eqb a.c a.heavy c.if-c-heavy.false, ne_eqb (field_at a.fields.now a.c next_place) none (λ e. c.if-d.false (c.field-d.ensures ∙ e)))
