-- `level` reads as `level_at`, also past the end.
use mathlib.Core.Path.{sym}
use lib.ListN.{get_or-eq_default}
use lib.IntN.{pos}
use Rattle.table.proofs.level.level.Goals as goal

pub returns-else-i-levels : goal.returns-else-i-levels
returns-else-i-levels c = sym (get_or-eq_default c.args.levels.now (pos 0) c.if-i-levels.false)
