-- What is proved of `Rules`.
use Rattle.std.specs.Prelude.{ℕ, ◌≤◌}
use Rattle.std.proofs.Common.{arith}
use Rattle.layer.specs.Numbered.{Numbered}
use Rattle.table.specs.Table.{Table}
use Rattle.table.specs.Capacity.{node_limit}
use Rattle.table.specs.Rules.{Recorded, Rules}

-- its layer is numbered: the nodes of a table are no more than a layer may have rows
pub numbered : {capacity : ℕ} {t : Table} → Rules capacity t → capacity ≤ node_limit → Numbered t.layer
numbered r small =
    let s = r.one.trees in
    record {
      one = record { count = omega (arith, s.count); inside = s.inside; depth = s.depth; children = s.children };
      two = r.two;
      three = r.three;
      four = r.four;
      five = r.five;
      six = r.six;
    }

pub rules_of : {capacity : ℕ} {t : Table} → Recorded capacity t → Numbered t.layer → Rules capacity t
rules_of one r = record { one = one; two = r.two; three = r.three; four = r.four; five = r.five; six = r.six }
