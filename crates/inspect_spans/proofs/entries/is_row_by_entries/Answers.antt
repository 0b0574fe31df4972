-- `is_row_by_entries`: all entries pass.
use Rattle.std.proofs.Common.{rules}
use Rattle.layer.specs.Layout.{entry_stride}
use Rattle.inspect_laws.proofs.AllRows.{all_rows}
use Rattle.inspect_spans.specs.Thresholds.{is_entry_by, are_entries_by}
use Rattle.inspect_spans.proofs.entries.is_row_by_entries.Goals as goal

pub returns : goal.returns
unfolding are_entries_by
returns c = all_rows (is_entry_by c.args.ancestors.now c.args.u c.args.x c.args.t) entry_stride _ c.all.ensures.ran (λ i b q k. search rules)
