-- `put_level`: a store, or none where the place lies past the end.
use mathlib.Core.Path.{sym}
use lib.Seq.{set_out}
use Rattle.table.proofs.level.put_level.Goals as goal

pub returns-else-i-levels : goal.returns-else-i-levels
returns-else-i-levels c = sym (set_out _ _ _ c.if-i-levels.false)
