-- `is_row` by whether both rows lie in the table: then in two parts.
use mathlib.Core.Path.{refl}
use Rattle.inspect_spans.specs.Owned.{owned_row}
use Rattle.inspect_spans.proofs.entries.is_row.Goals as goal

pub returns : goal.returns
returns c = rw (c.are_owned-after.ensures, c.are_owned-before.ensures) (owned_row c.args.ancestors.now c.args.u c.args.x c.args.t _ _ c.at_most_entries-k.ensures refl c.if-u-eq-NONE.false)
