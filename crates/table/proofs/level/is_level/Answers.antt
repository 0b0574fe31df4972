-- `is_level` is the test of a level, by two signed comparisons.
use mir.Syntax.{w32}
use mir.ValLaws.{to_z-of_z}
use Rattle.table.proofs.LevelLaws.{level_low, level_rest}
use Rattle.table.proofs.level.is_level.Goals as goal

pub returns-then-l-lt-LOWEST_LEVEL : goal.returns-then-l-lt-LOWEST_LEVEL
returns-then-l-lt-LOWEST_LEVEL c = level_low (to_z-of_z w32 c.args.l c.ranges.l) c.if-l-lt-LOWEST_LEVEL.true

pub returns : goal.returns
returns c = (level_rest (to_z-of_z w32 c.args.l c.ranges.l) c.if-l-lt-LOWEST_LEVEL.false)
