-- `are_small`: all rows pass.
use Rattle.std.proofs.Common.{rules}
use Rattle.inspect_laws.proofs.AllRows.{all_rows}
use Rattle.inspect_tree.specs.Columns.{span_layer}
use Rattle.inspect_spans.specs.Small.{is_small}
use Rattle.inspect_spans.proofs.nested.are_small.Goals as goal

pub returns : goal.returns
returns c = all_rows (is_small (span_layer c.args.fields.now c.args.numbers.now 0)) c.args.n _ c.all.ensures.ran (λ x b q k. search rules)
