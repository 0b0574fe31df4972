-- `are_entries`: all rows pass.
use Rattle.std.proofs.Common.{rules}
use Rattle.layer.specs.Row.{entry_at}
use Rattle.inspect_laws.specs.Entries.{are_entries_of, are_entries}
use Rattle.inspect_laws.proofs.AllRows.{all_rows}
use Rattle.inspect_tree.specs.Columns.{reaches, uppers}
use Rattle.inspect_spans.proofs.entries.are_entries.Goals as goal

pub returns : goal.returns
unfolding are_entries
returns c = all_rows (are_entries_of (entry_at c.args.ancestors.now) (uppers c.args.fields.now) (reaches c.args.fields.now)) c.args.n _ c.all.ensures.ran (λ x b q k. search rules)
