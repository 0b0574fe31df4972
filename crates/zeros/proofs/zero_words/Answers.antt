-- `zero_words`: the bytes from word `k` on decide, since all words before are zero.
use Rattle.std.specs.Prelude.{◌≡◌, ◌+◌, ◌*◌}
use Rattle.std.proofs.Common.{arith, rules}
use Rattle.zeros.specs.PassedLaws.{reached_more}
use Rattle.zeros.proofs.zero_words.Goals as goal

pub loop-k-preserved : goal.loop-k-preserved
loop-k-preserved c =
    let s = c.args.start in
    let k = c.loop-k.k in
    let e : s + (k + 1) * 8 ≡ s + k * 8 + 8 = omega arith in
    rw e (reached_more c.args.bytes.now s 8 (s + k * 8) c.loop-k.invariant (omega arith) (search rules))
