-- `join`: a path row is read off a row that is not sound, or both are found.
use Rattle.std.proofs.Common.{refl, sym, ◌∙◌}
use Rattle.ancestry.specs.StoredAnswerLaws.{join_by}
use Rattle.ancestry.specs.PathFields.{path_fields}
use Rattle.ancestry.proofs.stored.join.Goals as goal

pub returns-then-not-is_on_row : goal.returns-then-not-is_on_row
returns-then-not-is_on_row c = sym (join_by _ _ _ _ (sym c.is_on_row.ensures ∙ c.if-not-is_on_row.true) refl)

pub returns-then-not-is_on_row-2 : goal.returns-then-not-is_on_row-2
returns-then-not-is_on_row-2 c = let left = sym c.is_on_row.ensures ∙ c.if-not-is_on_row.false in
    sym (join_by _ _ _ _ left (sym c.is_on_row-2.ensures ∙ c.if-not-is_on_row-2.true))

pub meet-requires-clause-path_fields : goal.meet-requires-clause-path_fields
meet-requires-clause-path_fields c = path_fields _ c.requires.holds c.requires.side_rows (sym c.is_on_row.ensures ∙ c.if-not-is_on_row.false)

pub meet-requires-clause-path_fields_2 : goal.meet-requires-clause-path_fields_2
meet-requires-clause-path_fields_2 c = path_fields _ c.requires.holds c.requires.side_rows_2 (sym c.is_on_row-2.ensures ∙ c.if-not-is_on_row-2.false)

pub returns : goal.returns
returns c = let left = sym c.is_on_row.ensures ∙ c.if-not-is_on_row.false in
    let right = sym c.is_on_row-2.ensures ∙ c.if-not-is_on_row-2.false in
    c.meet.ensures ∙ sym (join_by _ _ _ _ left right)
