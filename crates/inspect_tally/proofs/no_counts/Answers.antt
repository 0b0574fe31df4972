-- `no_counts`: an array of zeros.
use Rattle.tally.specs.Layout.{label_count}
use Rattle.tally.specs.TallyLaws.{zero_cells}
use Rattle.std.proofs.Common.{rules}
use Rattle.inspect_tally.proofs.no_counts.Goals as goal

pub returns : goal.returns
returns c = (search rules, zero_cells label_count)
