-- `is_line_level` by the level and depth of the row.
use mir.Syntax.{w32}
use mir.ValLaws.{to_z-of_z}
use Rattle.query.proofs.line.is_line_level.Goals as goal

pub returns : goal.returns
returns c = let level = to_z-of_z w32 c.level_of.result (record { sfits = c.level_of.type_inv }) in
    rw (c.is_minus.ensures, level, c.level_of.ensures, c.field_of.ensures)
