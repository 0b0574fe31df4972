-- `put_bytes`: the bytes from the turn's on are left to write.
use Rattle.std.specs.Prelude.{get_or}
use Rattle.std.proofs.Common.{refl, sym, ◌∙◌}
use Rattle.lines.specs.TextLaws.{append_from, append_none}
use Rattle.lines.proofs.Text.put_bytes.Goals as goal

pub loop-b-preserved : goal.loop-b-preserved
loop-b-preserved c =
    let l = c.loop-b in
    let a = c.args.bytes.now in
    rw c.put_byte.ensures (append_from l.self a l.b-index (get_or a l.b-index 0) c.loop-b-test.true refl ∙ l.invariant)

pub returns : goal.returns
returns c = let l = c.loop-b in sym (append_none l.self c.args.bytes.now l.b-index c.loop-b-test.false) ∙ l.invariant
