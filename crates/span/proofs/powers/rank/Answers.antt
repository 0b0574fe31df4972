-- `rank`: the highest bit leaves three indices, and two comparisons choose among them.
use mathlib.Core.Path.{sym}
use native.Mathlib.Omega.{arith}
use lib.Dec.{leb}
use Rattle.span.specs.RankLaws.{rank_zero}
use Rattle.span.proofs.Octave.{bit_le, near, top_le, rank_two}
use Rattle.span.proofs.powers.rank.Goals as goal

pub returns-then-distance-eq0 : goal.returns-then-distance-eq0
returns-then-distance-eq0 c = rw c.if-distance-eq0.true (sym rank_zero)

pub overflow_sub-top : goal.overflow_sub-top
overflow_sub-top c = top_le _ (omega arith) (omega arith)

pub overflow_add-result : goal.overflow_add-result
overflow_add-result c = omega (arith, c.reached.ensures, bit_le (leb c.power.result c.args.distance))

pub overflow_add-result-2 : goal.overflow_add-result-2
overflow_add-result-2 c = omega (
  arith,
  c.reached.ensures,
  bit_le (leb c.power.result c.args.distance),
  c.reached-2.ensures,
  bit_le (leb c.power-2.result c.args.distance),
)

pub returns : goal.returns
returns c = rw (c.reached.ensures, c.reached-2.ensures)
    (rank_two (near _ (omega arith) (omega arith)) c.power.ensures c.power-2.ensures)
