-- `put_values`: the values from the turn's on are left to write.
use Rattle.std.specs.Prelude.{get_or, pos}
use Rattle.std.specs.Int.{w32}
use Rattle.std.proofs.Common.{sym, ◌∙◌, arith, rules, SFits}
use Rattle.std.proofs.lemmas.Int.{to_z-of_z}
use Rattle.std.proofs.Math.ListN.{length-take}
use Rattle.lines.specs.LineLaws.{append_values, append_no_values}
use Rattle.lines.proofs.Text.put_values.Goals as goal

pub loop-i-preserved : goal.loop-i-preserved
loop-i-preserved c =
    let a = c.args in
    let l = c.loop-i in
    let f : SFits w32 (get_or a.values l.i (pos 0)) = search rules in
    let turn = rw (to_z-of_z w32 (get_or a.values l.i (pos 0)) f, c.put_byte.ensures) at c.put_signed.ensures in
    rw turn (append_values a.values a.count l.i l.self (omega arith) (omega (arith, c.well_formed.1.0.1.0.1)) ∙ l.invariant)

pub returns : goal.returns
returns c =
    let a = c.args in
    let l = c.loop-i in
    sym (append_no_values a.values a.count l.i l.self (omega (arith, length-take a.count a.values, c.well_formed.1.0.1.0.1))) ∙ l.invariant
