-- `add_rows`: a sum that would pass 32 bits is the greatest number.
use Rattle.std.proofs.Common.{arith}
use Rattle.std.proofs.lemmas.Bool.Decides.{nat_tests}
use Rattle.link_store.specs.Walk.{within32}
use Rattle.link_store.proofs.joins.add_rows.Goals as goal

pub returns : goal.returns
unfolding within32
returns c = grind (arith, nat_tests)
