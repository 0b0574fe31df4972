-- `clear_row` fills its row from the front.
use Rattle.std.specs.Prelude.{List, ℕ, ◌+◌, ◌*◌}
use Rattle.laws.specs.Tabulate.{Begun}
use Rattle.layer.specs.Layout.{field_stride}
use Rattle.set_up.specs.Blank.{blank_field}
use Rattle.set_up.proofs.clear_row.Given as goal

abbrev pub invariant-loop-k : goal.invariant-loop-k
invariant-loop-k l = (g : List ℕ) → Begun blank_field 0 g l.initial.fields (l.row * field_stride) → Begun blank_field 0 g l.fields (l.row * field_stride + l.k)
