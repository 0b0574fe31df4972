-- `are_marked_alike`: the labels, and where they are equal the faces.
use Rattle.alike.proofs.AlikeLaws.{marked_unlike, marked_by_faces}
use Rattle.alike.proofs.walk.are_marked_alike.Goals as goal

pub returns-then-field : goal.returns-then-field
returns-then-field c = marked_unlike _ _ _ _ c.field.ensures c.field-2.ensures c.if-field.true

pub returns : goal.returns
returns c = marked_by_faces _ _ _ _ c.field.ensures c.field-2.ensures
    c.if-field.false c.field-3.ensures c.field-4.ensures
