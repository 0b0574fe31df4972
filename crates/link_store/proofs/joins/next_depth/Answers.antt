-- `next_depth`: the depth after the last is none.
use Rattle.link_store.specs.WalkLaws.{depth_last, depth_next}
use Rattle.link_store.specs.Sort.{cell_at}
use native.Mathlib.Omega.{arith}
use Rattle.link_store.proofs.joins.next_depth.Goals as goal

pub returns-then-n-j : goal.returns-then-n-j
returns-then-n-j c = depth_last (cell_at c.args.heads.now) c.args.n c.args.j (omega arith)

pub returns-then-n-depth : goal.returns-then-n-depth
returns-then-n-depth c = depth_last (cell_at c.args.heads.now) c.args.n c.args.j (omega arith)

pub returns : goal.returns
returns c = depth_next (cell_at c.args.heads.now) c.args.n c.args.j (omega arith) c.cell.ensures
