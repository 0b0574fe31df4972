-- `is_on_row`: the branch is the row itself, its parent is known, or the parent's check decides.
use mathlib.Core.Path.{sym, ◌∙◌}
use borrow.Author.Tests.{eq-eqb, ne_eqb}
use Rattle.layer.specs.CheckedLaws.{known_row}
use Rattle.ancestry.specs.StoredAnswer.{is_on_row}
use Rattle.ancestry.proofs.stored.is_on_row.Goals as goal

pub returns-then-w-s : goal.returns-then-w-s
unfolding is_on_row
returns-then-w-s c = let s = c.args.s in rw (eq-eqb s.below s.row c.if-w-s.true)

pub returns-then-u-known : goal.returns-then-u-known
unfolding is_on_row
returns-then-u-known c = let s = c.args.s in
    rw (ne_eqb s.below s.row c.if-w-s.false) (known_row _ _ c.requires.row (sym c.field_of-u.ensures ∙ c.if-u-known.true))

pub returns : goal.returns
unfolding is_on_row
returns c = let s = c.args.s in
    rw (ne_eqb s.below s.row c.if-w-s.false, ← c.field_of-u.ensures) c.is_row.ensures
