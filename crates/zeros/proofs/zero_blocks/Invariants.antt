-- `zero_blocks`: the bytes from block `k` on decide, since all blocks before are zero.
use Rattle.std.specs.Prelude.{◌*◌}
use Rattle.zeros.specs.PassedLaws.{Reached}
use Rattle.zeros.proofs.zero_blocks.Given as goal

abbrev pub invariant-loop-k : goal.invariant-loop-k
invariant-loop-k l = Reached l.bytes 0 (l.k * 32)
