-- `is_tallied`: the entries of all labels, then the last.
use Rattle.inspect_tally.specs.Counts.{labels, counts_none, stop_counts, by_most}
use Rattle.inspect_tally.proofs.is_tallied.Goals as goal

pub count_labels-requires : goal.count_labels-requires
count_labels-requires c = counts_none (labels c.args.fields.now) c.no_counts-counts.ensures.0 c.no_counts-counts.ensures.1

pub returns-then-not-are_counts : goal.returns-then-not-are_counts
returns-then-not-are_counts c = stop_counts c.args.tally.now c.count_labels.ensures c.are_counts.ensures c.if-not-are_counts.true-raw

pub returns : goal.returns
returns c = by_most c.args.tally.now c.count_labels.ensures c.are_counts.ensures c.if-not-are_counts.false-raw c.most_of.ensures
