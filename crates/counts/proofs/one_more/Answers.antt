-- `one_more` stops at the greatest number of 16 bits.
use Rattle.std.proofs.Common.{arith}
use Rattle.std.proofs.lemmas.Bool.Decides.{nat_tests}
use Rattle.counts.specs.Count.{one_more}
use Rattle.counts.proofs.one_more.Goals as goal

pub returns : goal.returns
unfolding one_more
returns c = grind (arith, nat_tests)
