-- `are_counts`: the entries below k were compared.
use Rattle.std.specs.Prelude.{◌≡◌, get_or}
use Rattle.tally.specs.Test.{are_counts}
use Rattle.inspect_tally.proofs.are_counts.Given as goal

abbrev pub invariant-loop-k : goal.invariant-loop-k
invariant-loop-k l = l.same ≡ are_counts l.tally (λ j. get_or l.counts j 0) l.k
