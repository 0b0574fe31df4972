-- `read` fills the part from the front.
use Rattle.std.specs.Prelude.{◌+◌, ◌*◌}
use Rattle.std.proofs.Common.{arith}
use Rattle.bytes_tree.specs.ColumnLaws.{filled_none, filled_more}
use Rattle.bytes_tree.proofs.columns.read.Goals as goal

pub loop-i-init : goal.loop-i-init
loop-i-init g c = let t = g.T.Kept in filled_none (λ k. t.read_at c.args.b.now (c.args.place + k * t.WIDTH)) c.args.part.now

pub loop-i-preserved : goal.loop-i-preserved
loop-i-preserved g c =
    let t = g.T.Kept in
    let l = c.loop-i in
    rw l.invariant (filled_more (λ k. t.read_at c.args.b.now (c.args.place + k * t.WIDTH)) c.args.part.now l.i c.read.result (omega arith) (rw c.WIDTH.ensures at c.read.ensures))
