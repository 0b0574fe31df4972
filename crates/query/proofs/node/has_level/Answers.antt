-- `has_level`: the level is read, and its test decides.
use mathlib.Core.Path.{ap, ◌∙◌}
use mir.Syntax.{w32}
use mir.ValLaws.{to_z-of_z}
use Rattle.table.specs.Level.{is_level}
use Rattle.query.proofs.node.has_level.Goals as goal

pub returns : goal.returns
returns c = c.is_level.ensures ∙ ap is_level (to_z-of_z w32 c.level_of.result (record { sfits = c.level_of.type_inv }) ∙ c.level_of.ensures)
