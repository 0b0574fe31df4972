-- `clear_fields` fills the fields from the front, row by row.
use Rattle.std.proofs.Common.{arith}
use Rattle.std.specs.Prelude.{◌≡◌, ◌+◌, ◌*◌}
use Rattle.laws.specs.Tabulate.{begun_all}
use Rattle.layer.specs.Layout.{field_stride}
use Rattle.set_up.specs.Blank.{blank_field}
use Rattle.set_up.proofs.clear_fields.Goals as goal

pub loop-row-preserved : goal.loop-row-preserved
loop-row-preserved c =
    let l = c.loop-row in
    let e : (l.row + 1) * field_stride ≡ l.row * field_stride + field_stride = omega arith in
    rw e (c.clear_row.ensures c.args.fields.now l.invariant)

pub returns : goal.returns
returns c = let l = c.loop-row in begun_all blank_field 0 c.args.fields.now l.fields (l.row * field_stride) (omega arith) l.invariant
