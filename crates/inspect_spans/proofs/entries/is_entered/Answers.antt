-- `is_entered`: the entries by the threshold are the entries of the row.
use mathlib.Core.Path.{◌∙◌}
use Rattle.inspect_spans.specs.Thresholds.{entries_by}
use Rattle.inspect_spans.proofs.entries.is_entered.Goals as goal

pub returns : goal.returns
returns c = c.is_row.ensures ∙ entries_by c.args.fields.now c.args.ancestors.now c.args.x c.field-u.ensures c.field.ensures c.own_from-t.ensures
