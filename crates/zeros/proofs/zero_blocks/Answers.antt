-- `zero_blocks`: the bytes from block `k` on decide, since all blocks before are zero.
use Rattle.std.specs.Prelude.{◌≡◌, ◌+◌, ◌*◌}
use Rattle.std.proofs.Common.{arith, rules}
use Rattle.zeros.specs.PassedLaws.{reached_more}
use Rattle.zeros.proofs.zero_blocks.Goals as goal

pub loop-k-preserved : goal.loop-k-preserved
loop-k-preserved c =
    let k = c.loop-k.k in
    let e : (k + 1) * 32 ≡ k * 32 + 32 = omega arith in
    rw e (reached_more c.args.bytes.now 0 32 (k * 32) c.loop-k.invariant (omega arith) (search rules))
