-- `put_signed` writes a minus sign where the number is below zero, then the digits of its magnitude.
use Rattle.std.specs.Int.{w32}
use Rattle.std.proofs.Common.{◌∙◌}
use Rattle.std.proofs.lemmas.Int.{to_z-of_z}
use Rattle.lines.specs.SignLaws.{append_below_zero, append_not_below_zero}
use Rattle.lines.proofs.Text.put_signed.Goals as goal
use Rattle.lines.proofs.Text.put_signed.Goals.{then-v-lt0, else-v-lt0}

pub returns : goal.returns
returns c =
    let a = c.args in
    let e = to_z-of_z w32 a.v c.ranges.v in
    let n = rw e at c.unsigned_abs.ensures.value in
    elim c.if-v-lt0.branch [
      | then-v-lt0 w ↦ c.put_number.ensures ∙ rw (n, w.self-is, w.put_byte.ensures) (append_below_zero a.self.now a.v (rw e at w.if-v-lt0.true))
      | else-v-lt0 w ↦ c.put_number.ensures ∙ rw (n, w.self-is) (append_not_below_zero a.self.now a.v (rw e at w.if-v-lt0.false))
    ]
