-- `zero_words`: the bytes from word `k` on decide, since all words before are zero.
use Rattle.std.specs.Prelude.{◌+◌, ◌*◌}
use Rattle.zeros.specs.PassedLaws.{Reached}
use Rattle.zeros.proofs.zero_words.Given as goal

abbrev pub invariant-loop-k : goal.invariant-loop-k
invariant-loop-k l = Reached l.bytes l.start (l.start + l.k * 8)
