-- `are_starts`: all rows pass.
use Rattle.std.proofs.Common.{rules}
use Rattle.inspect_laws.proofs.AllRows.{all_rows}
use Rattle.inspect_tree.specs.Columns.{span_layer}
use Rattle.inspect_laws.specs.Nested.{is_first_start}
use Rattle.inspect_spans.proofs.nested.are_starts.Goals as goal

pub returns : goal.returns
returns c = all_rows (is_first_start (span_layer c.args.fields.now c.args.numbers.now 0)) c.args.n _ c.all.ensures.ran (λ x b q k. search rules)
