-- `clear_fields` fills the fields from the front, row by row.
use Rattle.std.specs.Prelude.{◌*◌}
use Rattle.laws.specs.Tabulate.{Begun}
use Rattle.layer.specs.Layout.{field_stride}
use Rattle.set_up.specs.Blank.{blank_field}
use Rattle.set_up.proofs.clear_fields.Given as goal

abbrev pub invariant-loop-row : goal.invariant-loop-row
invariant-loop-row l = Begun blank_field 0 l.initial.fields l.fields (l.row * field_stride)
