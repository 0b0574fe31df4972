-- `path_row`: by the tests of the definition, in its order.
use mathlib.Core.Path.{sym, ◌∙◌}
use borrow.Author.Tests.{eq-eqb, ne_eqb}
use Rattle.tree_laws.specs.Ancestor.{none}
use Rattle.tree_laws.specs.Compressed.{is_apex}
use Rattle.tree_laws.specs.StoredFromCompressed.{path_row}
use Rattle.ancestry.proofs.stored.path_row.Goals as goal

pub returns-then-w-s : goal.returns-then-w-s
unfolding path_row
returns-then-w-s c = let s = c.args.s in rw (eq-eqb s.below s.row c.if-w-s.true)

pub returns-then-u : goal.returns-then-u
unfolding path_row is_apex
returns-then-u c = let s = c.args.s in
    rw (ne_eqb s.below s.row c.if-w-s.false, ← c.field_of-u.ensures, eq-eqb _ none c.if-u.true)

pub is_next-requires : goal.is_next-requires
is_next-requires c = let h = c.requires in
    rw c.field_of-u.ensures (h.parent c.if-w-s.false)

pub returns-then-is_next : goal.returns-then-is_next
unfolding path_row is_apex
returns-then-is_next c = let s = c.args.s in
    let next = sym c.is_next.ensures ∙ c.if-is_next.true in
    rw (ne_eqb s.below s.row c.if-w-s.false, ← c.field_of-u.ensures, ne_eqb _ none c.if-u.false, next)

pub returns : goal.returns
unfolding path_row is_apex
returns c = let s = c.args.s in
    let next = sym c.is_next.ensures ∙ c.if-is_next.false in
    rw (ne_eqb s.below s.row c.if-w-s.false, ← c.field_of-u.ensures, ne_eqb _ none c.if-u.false, next)
