-- `read` fills the part from the front.
use Rattle.std.specs.Prelude.{◌≡◌, ◌+◌, ◌*◌}
use Rattle.bytes_tree.specs.ColumnLaws.{filled}
use Rattle.bytes_tree.proofs.columns.read.Given as goal

abbrev pub invariant-loop-i : goal.invariant-loop-i
invariant-loop-i g l = let t = g.T.Kept in l.part ≡ filled (λ k. t.read_at l.b (l.place + k * t.WIDTH)) l.initial.part l.i
